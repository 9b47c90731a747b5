use Rattle.occ_run.proofs.Tries.{next_try, last_before, last_of_all}
use Rattle.occ_run.proofs.trying.try_up_to.Goals as goal

pub loop-count-preserved : goal.loop-count-preserved
loop-count-preserved g c =
    next_try g.N.Name.named _ c.loop-count.count c.loop-count.last _ c.args.session.now c.loop-count.session c.try_once-in-loop-count.new.session (c.is_backed_up.ensures.yes c.if-not-is_backed_up.false) c.loop-count.invariant c.in_ok-last-2.ensures

pub returns-then-not-is_backed_up : goal.returns-then-not-is_backed_up
returns-then-not-is_backed_up g c =
    last_before g.N.Name.named _ c.loop-count.count _ c.loop-count.last _ c.args.session.now c.loop-count.session c.loop-count-test.true c.is_backed_up.ensures.no c.if-not-is_backed_up.true c.loop-count.invariant

pub returns : goal.returns
returns g c = last_of_all g.N.Name.named _ c.loop-count.count _ c.loop-count.last c.args.session.now c.loop-count.session c.loop-count.auto.count-end c.loop-count-test.false c.loop-count.invariant
