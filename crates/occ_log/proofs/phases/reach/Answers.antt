use Rattle.std.proofs.Common.{◌∙◌, ap}
use Rattle.occ_log.specs.Phases.{phases_of}
use Rattle.occ_log.proofs.PhaseLists.{phases-reached}
use Rattle.occ_log.proofs.phases.reach.Goals as goal

-- a list without phases goes behind the others
pub loop-alloc-preserved : goal.loop-alloc-preserved
loop-alloc-preserved g c =
    ap phases_of c.in_ok-push.ensures.items
    ∙ phases-reached c.loop-alloc.sessions.items c.new.result c.new.ensures
    ∙ c.loop-alloc.invariant
