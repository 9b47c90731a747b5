use Rattle.std.proofs.Common.{ap, ◌∙◌}
use Rattle.occ_core.specs.Core.{parts_of}
use Rattle.occ_core.proofs.Closing.{close_tested}
use Rattle.occ_core.proofs.core_state.Core.check_close.Goals as goal

pub returns : goal.returns
returns g c = c.check_turn_to_close.ensures ∙ close_tested (parts_of c.self.inside) c.args.self.now.world (ap (λ s. s.world) c.self.view_is) c.self.invariant.sound c.args.session c.args.number
