use Rattle.std.proofs.Common.{ap, ◌∙◌, length}
use Rattle.occ_model.specs.World.{active_count}
use Rattle.occ_log.specs.SessionStates.{active_from}
use Rattle.occ_core.specs.Core.{parts_of}
use Rattle.occ_core.proofs.Counting.{active_counted}
use Rattle.occ_core.proofs.Placed.{rows_found}
use Rattle.occ_core.proofs.core_state.Core.active.Goals as goal

pub returns : goal.returns
returns g c = c.count_active.ensures ∙ ap (λ at. length (active_from at c.self.inside.sessions)) (rows_found c.self.inside.log c.self.invariant.log_match.begins) ∙ active_counted (parts_of c.self.inside) c.self.invariant.sound ∙ ap active_count (ap (λ s. s.world) c.self.view_is)
