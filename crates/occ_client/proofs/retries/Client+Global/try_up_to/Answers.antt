use Rattle.std.proofs.Common.{arith}
use Rattle.occ_client.specs.Transacts.{CalledAtBoth}
use Rattle.occ_client.proofs.Transacting.{first, committed, all_made, one_more, one_more_ended}
use Rattle.occ_client.proofs.retries.Client+Global.try_up_to.Goals as goal

pub loop-tried-init : goal.loop-tried-init
loop-tried-init g c = (c.in-Ok.ensures.callable, first (CalledAtBoth g.F.FnMut) g.E.From.from_gives _ _ _ _ _ c.in-Ok.ensures.tries)

pub returns-in-Committed : goal.returns-in-Committed
returns-in-Committed g c = committed (CalledAtBoth g.F.FnMut) g.E.From.from_gives c.args.most c.loop-tried.tried _ _ _ _ _ _ _ c.in-Committed.is c.loop-tried-test.true c.loop-tried.invariant.1

pub returns : goal.returns
returns g c =
    let some = c.requires.some in
    let end = c.loop-tried.auto.tried-end (omega arith) in
    let last = c.loop-tried-test.false in
    all_made (CalledAtBoth g.F.FnMut) g.E.From.from_gives c.args.most c.loop-tried.tried _ _ _ _ _ (omega arith) c.loop-tried.invariant.1

pub returns-in-Err-try_once : goal.returns-in-Err-try_once
returns-in-Err-try_once g c =
    one_more (CalledAtBoth g.F.FnMut) g.E.From.from_gives c.loop-tried.tried _ _ _ _ c.in_default.field-0 _ _ _ _ _ c.in_default.is c.loop-tried-test.true tt c.loop-tried.invariant.1 c.in-Err-try_once.ensures.tries

pub loop-tried-preserved : goal.loop-tried-preserved
loop-tried-preserved g c = (
  c.in-Ok-try_once.ensures.callable,
  one_more_ended (CalledAtBoth g.F.FnMut) g.E.From.from_gives c.loop-tried.tried _ _ _ c.in_default.field-0 _ _ c.in-Ok-try_once.ended _ _ c.in_default.is c.loop-tried.invariant.1 c.in-Ok-try_once.ensures.tries,
)
