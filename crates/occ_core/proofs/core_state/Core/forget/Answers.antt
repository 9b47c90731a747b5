use Rattle.std.proofs.Common.{ap, sym, ◌∙◌, Some}
use Rattle.std.proofs.lemmas.Result.{err_from_is_err_and}
use Rattle.occ_core.specs.Core.{parts_of}
use Rattle.occ_core.proofs.ReadPhases.{forget_exit, forget_sound, phases_core}
use Rattle.occ_core.proofs.core_state.Core.forget.Goals as goal

pub returns-in_err-check_session-clause-step : goal.returns-in_err-check_session-clause-step
returns-in_err-check_session-clause-step g c =
    let p = err_from_is_err_and c.from_residual.result c.from_residual.ensures.1 in
    forget_exit (parts_of c.self.inside) c.args.self.now.world (ap (λ s. s.world) c.self.view_is) c.self.invariant.sound c.args.session c.args.number c.from_residual.result p.0 p.1 (sym c.in_err-check_session.ensures ∙ ap Some (sym p.2))

pub invariant_of-self : goal.invariant_of-self
invariant_of-self g c =
    phases_core c.self.inside c.self.invariant _ (forget_sound (parts_of c.self.inside) c.args.session c.args.number c.self.invariant.sound (sym c.in_ok-check_session.ensures) c.take-phase.new.self c.take-phase.ensures.gone)
