use Rattle.std.proofs.Common.{◌∙◌, ◌==◌, sym, ap, subst, Some}
use Rattle.std.specs.List.{position}
use Rattle.occ_log.specs.Phases.{phase_of, session_phases_of, AreNumberedOnce}
use Rattle.occ_log.proofs.PhaseViews.{session-found, session-missing, session-removed, session-absent, once-remove}
use Rattle.occ_log.proofs.session_phases.SessionPhases.take.Goals as goal

pub invariant_of-self : goal.invariant_of-self
invariant_of-self g c = subst AreNumberedOnce (sym c.remove-number.ensures.items) (once-remove c.self.inside.phases.items c.in-Some.place c.self.invariant)

pub returns-in-Some-clause-phase : goal.returns-in-Some-clause-phase
returns-in-Some-clause-phase g c =
    let at = sym c.in-Some.is ∙ c.place_of.ensures ∙ ap (position (λ e. e.0 == c.args.number)) c.as_slice.ensures.value in
    ap (λ e. Some (phase_of e.1)) c.remove-number.ensures.value
    ∙ session-found c.self.inside.phases.items c.args.number c.in-Some.place c.remove-number.result c.args.self.now c.self.view_is at

pub returns-in-Some-clause-gone : goal.returns-in-Some-clause-gone
returns-in-Some-clause-gone g c =
    let at = sym c.in-Some.is ∙ c.place_of.ensures ∙ ap (position (λ e. e.0 == c.args.number)) c.as_slice.ensures.value in
    ap session_phases_of c.remove-number.ensures.items
    ∙ session-removed c.self.inside.phases.items c.args.number c.in-Some.place c.remove-number.result c.args.self.now c.self.invariant c.self.view_is at

pub returns-in-None-clause-phase : goal.returns-in-None-clause-phase
returns-in-None-clause-phase g c =
    let none = sym c.in-None.is ∙ c.place_of.ensures ∙ ap (position (λ e. e.0 == c.args.number)) c.as_slice.ensures.value in
    session-missing c.self.inside.phases.items c.args.number c.args.self.now c.self.view_is none

pub returns-in-None-clause-gone : goal.returns-in-None-clause-gone
returns-in-None-clause-gone g c =
    let none = sym c.in-None.is ∙ c.place_of.ensures ∙ ap (position (λ e. e.0 == c.args.number)) c.as_slice.ensures.value in
    session-absent c.self.inside.phases.items c.args.number c.args.self.now c.self.view_is none
