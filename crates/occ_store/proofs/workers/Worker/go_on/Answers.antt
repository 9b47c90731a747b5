use Rattle.occ_store.proofs.Ending.{none_yet, one_more, one_refused, is_over, is_nothing, is_on}
use Rattle.occ_store.proofs.workers.Worker.go_on.Goals as goal

pub loop-init : goal.loop-init
loop-init g c = none_yet g.N.Name.named c.args.self.now c.requires

pub loop-preserved : goal.loop-preserved
loop-preserved g c = one_more g.N.Name.named c.args.self.now c.loop.self c.event.new.self c.loop.invariant c.in-Ok-None.field-0 c.in-Ok-None.field-0-is c.in-Ok-None.ensures

pub returns-in-Ok-Some-clause-over : goal.returns-in-Ok-Some-clause-over
returns-in-Ok-Some-clause-over g c =
    is_over g.N.Name.named c.args.self.now c.loop.self c.event.new.self c.loop.invariant.goes c.in-Ok-Some.field-0 c.in-Ok-Some.ended c.in-Ok-Some.field-0-is c.in-Ok-Some.ensures

pub returns-in-Ok-Some-clause-nothing_left : goal.returns-in-Ok-Some-clause-nothing_left
returns-in-Ok-Some-clause-nothing_left g c =
    is_nothing g.N.Name.named c.args.self.now c.loop.self c.event.new.self c.loop.invariant.goes c.in-Ok-Some.field-0 c.in-Ok-Some.ended c.in-Ok-Some.field-0-is c.in-Ok-Some.ensures

pub returns-in-Err-clause-goes_on : goal.returns-in-Err-clause-goes_on
returns-in-Err-clause-goes_on g c = let all = one_refused g.N.Name.named c.args.self.now c.loop.self c.event.new.self c.loop.invariant c.in-Err.fault c.in-Err.ensures in all.goes

pub returns-in-Err-clause-left : goal.returns-in-Err-clause-left
returns-in-Err-clause-left g c = let all = one_refused g.N.Name.named c.args.self.now c.loop.self c.event.new.self c.loop.invariant c.in-Err.fault c.in-Err.ensures in all.left

pub returns-in-Ok-Some-clause-seen : goal.returns-in-Ok-Some-clause-seen
returns-in-Ok-Some-clause-seen g c =
    is_on g.N.Name.named c.args.self.now c.loop.self c.event.new.self c.loop.invariant.goes c.in-Ok-Some.field-0 c.in-Ok-Some.ended c.in-Ok-Some.field-0-is c.in-Ok-Some.ensures

pub returns-in-Err-clause-seen : goal.returns-in-Err-clause-seen
returns-in-Err-clause-seen g c = let all = one_refused g.N.Name.named c.args.self.now c.loop.self c.event.new.self c.loop.invariant c.in-Err.fault c.in-Err.ensures in all.goes.seen
