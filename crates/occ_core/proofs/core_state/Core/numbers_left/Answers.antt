use Rattle.std.proofs.Common.{ap, sym, ◌∙◌, ◌-◌}
use Rattle.occ_types.specs.declared.limits.TheConstants.{MAX_NUMBER}
use Rattle.occ_core.specs.Core.{parts_of}
use Rattle.occ_core.proofs.Figures.{left_there, left_none}
use Rattle.occ_core.proofs.core_state.Core.numbers_left.Goals as goal

pub returns-in-Ok : goal.returns-in-Ok
returns-in-Ok g c =
    left_there (parts_of c.self.inside) c.args.self.now.world c.args.session c.saturating_sub.result (ap (λ s. s.world) c.self.view_is) c.self.invariant.sound (sym c.in-Ok.ensures)
    (c.saturating_sub.ensures ∙ ap (λ n. MAX_NUMBER - n) c.last.ensures)

pub returns-in-Err : goal.returns-in-Err
returns-in-Err g c = left_none (parts_of c.self.inside) c.args.self.now.world c.args.session c.in-Err._no_session (ap (λ s. s.world) c.self.view_is) c.self.invariant.sound (sym c.in-Err.ensures)
