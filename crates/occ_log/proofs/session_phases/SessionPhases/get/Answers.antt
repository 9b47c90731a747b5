use Rattle.std.proofs.Common.{◌∙◌, ◌==◌, sym, ap, Some}
use Rattle.std.specs.List.{position}
use Rattle.occ_log.specs.Phases.{phase_of}
use Rattle.occ_log.proofs.PhaseViews.{session-found, session-missing}
use Rattle.occ_log.proofs.session_phases.SessionPhases.get.Goals as goal

pub returns-in-Some : goal.returns-in-Some
returns-in-Some g c =
    let at = sym c.in-Some.is ∙ c.place_of.ensures ∙ ap (position (λ e. e.0 == c.args.number)) c.as_slice.ensures.value in
    ap (λ e. Some (phase_of e.1)) c.index.ensures
    ∙ session-found c.self.inside.phases.items c.args.number c.in-Some.place c.index.result.now c.args.self.now c.self.view_is at

pub returns-in-None : goal.returns-in-None
returns-in-None g c =
    let none = sym c.in-None.is ∙ c.place_of.ensures ∙ ap (position (λ e. e.0 == c.args.number)) c.as_slice.ensures.value in
    session-missing c.self.inside.phases.items c.args.number c.args.self.now c.self.view_is none
