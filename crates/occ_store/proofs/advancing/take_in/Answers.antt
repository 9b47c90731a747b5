use Rattle.std.proofs.Common.{None, refl}
use Rattle.occ_store.proofs.LaneSteps.{ends_at_once, comes_in, files_it}
use Rattle.occ_store.proofs.advancing.take_in.Goals as goal

pub returns-then-ends_serially-clause-step : goal.returns-then-ends_serially-clause-step
returns-then-ends_serially-clause-step g c = ends_at_once _ _ _ _ c.args.shared.now c.serial_end.new.self _ _ _ c.ends_serially.result c.ends_serially.ensures c.if-ends_serially.true c.serial_end.ensures.step

pub returns-then-files-clause-step : goal.returns-then-files-clause-step
returns-then-files-clause-step g c =
    comes_in _ _ _ _ c.args.shared.now c.enter.new.self _ _ _ c.ends_serially.result c.ends_serially.ensures c.if-ends_serially.false c.enter.ensures.step.0 (files_it c.args.policy.0 c.enter.ensures.step.0 c.if-files.true) c.enter.ensures.step.1

pub returns-clause-step : goal.returns-clause-step
returns-clause-step g c = comes_in _ _ _ _ c.args.shared.now c.enter_unfiled.new.self _ _ _ c.ends_serially.result c.ends_serially.ensures c.if-ends_serially.false None (λ not. refl) c.enter_unfiled.ensures.step
