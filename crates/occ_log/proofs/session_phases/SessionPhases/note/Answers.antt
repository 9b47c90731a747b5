use Rattle.std.proofs.Common.{◌≡◌, ◌∙◌, ◌<◌, ◌==◌, ◌++◌, [], ◌∷◌, List, Some, cond, false, sym, ap, subst, refl, length, slice_set}
use Rattle.std.specs.Prelude.{IfErr}
use Rattle.std.specs.List.{position}
use Rattle.std.proofs.lemmas.Result.{err_from_is_err_and}
use Rattle.occ_types.specs.declared.fault.Refused.{Refused}
use Rattle.occ_types.specs.declared.fault.Fault.TheVariants.{SetFull, Memory}
use Rattle.occ_types.specs.declared.limits.TheConstants as limit
use Rattle.occ_types.specs.PlainData.{question_of}
use Rattle.occ_model.specs.State.{Observation}
use Rattle.occ_sets.specs.declared.reads.Observation as code_seen
use Rattle.occ_sets.specs.PlainSets.{answer_of}
use Rattle.occ_sets.proofs.Observations.{room_for}
use Rattle.occ_log.specs.Phases.{phase_of, reads_of, session_phases_of, AreNumberedOnce}
use Rattle.occ_log.specs.declared.session_phases.Phase as code_phase
use Rattle.occ_log.proofs.PhaseViews.{session-found, session-noted, session-begun, once-set, once-push, missing}
use Rattle.occ_log.proofs.session_phases.SessionPhases.note.Goals as goal

-- it has room for another question
pub returns-in_err-note-clause-memory : goal.returns-in_err-note-clause-memory
returns-in_err-note-clause-memory g c =
    let at = sym c.in-Some.is ∙ c.place_of.ensures ∙ ap (position (λ e. e.0 == c.args.transaction.number)) c.as_slice.ensures.value in
    let found = ap (λ e. reads_of (Some (phase_of e.1))) c.index_mut.ensures.value ∙ ap reads_of (session-found c.self.inside.phases.items c.args.transaction.number c.in-Some.place c.index_mut.result.now c.args.self.now c.self.view_is at) in
    let p = err_from_is_err_and c.from_residual.result c.from_residual.ensures.1 in
    let room = room_for (length c.index_mut.result.now.1.reads) (subst (λ (o : List Observation). length o < limit.MAX_QUESTIONS) (sym found) c.requires.few) in
    subst (λ r. IfErr r (λ refused. refused.fault ≡ Memory)) (sym p.1) (ap (λ (r : Refused (code_seen.Observation g.row.A.Denot)). r.fault) p.2 ∙ c.in_err-note.ensures.fault ∙ ap (λ b. cond b SetFull Memory) room)

pub invariant_of-self-in-Some : goal.invariant_of-self-in-Some
invariant_of-self-in-Some g c =
    let phase : code_phase.Phase g.row.A.Denot = record { start = c.args.transaction.start; reads = c.note.new.self } in
    subst (λ n. AreNumberedOnce (slice_set c.self.inside.phases.items c.in-Some.place (n, phase))) (sym (ap (λ e. e.0) c.index_mut.ensures.value))
    (once-set c.self.inside.phases.items c.in-Some.place c.index_mut.result.now phase c.self.invariant)

pub returns-in-Some-clause-ok : goal.returns-in-Some-clause-ok
returns-in-Some-clause-ok g c =
    let at = sym c.in-Some.is ∙ c.place_of.ensures ∙ ap (position (λ e. e.0 == c.args.transaction.number)) c.as_slice.ensures.value in
    let phase : code_phase.Phase g.row.A.Denot = record { start = c.args.transaction.start; reads = c.note.new.self } in
    let read : Observation = (question_of c.args.question, answer_of c.args.answer) in
    let reads = c.in_ok-note.ensures.ok ∙ ap (λ e. e.1.reads ++ read ∷ []) c.index_mut.ensures.value in
    ap (λ n. session_phases_of (slice_set c.self.inside.phases.items c.in-Some.place (n, phase))) (ap (λ e. e.0) c.index_mut.ensures.value)
    ∙ session-noted c.self.inside.phases.items c.args.transaction.number c.in-Some.place c.index_mut.result.now phase c.args.transaction.start read c.args.self.now c.self.view_is at refl reads

-- the phases as they are with one more
pub invariant_of-self-2 : goal.invariant_of-self-2
invariant_of-self-2 g c =
    let none = sym c.in_default.is ∙ c.place_of.ensures ∙ ap (position (λ e. e.0 == c.args.transaction.number)) c.as_slice.ensures.value in
    subst AreNumberedOnce (sym (c.push_reserved.ensures.items ∙ ap (λ es. es ++ (c.args.transaction.number, c.in_ok-phase.phase) ∷ []) c.reserve.ensures.items))
    (once-push c.self.inside.phases.items c.args.transaction.number c.in_ok-phase.phase (missing c.self.inside.phases.items c.args.transaction.number none) c.self.invariant)

pub returns-clause-ok : goal.returns-clause-ok
returns-clause-ok g c =
    let none = sym c.in_default.is ∙ c.place_of.ensures ∙ ap (position (λ e. e.0 == c.args.transaction.number)) c.as_slice.ensures.value in
    ap session_phases_of (c.push_reserved.ensures.items ∙ ap (λ es. es ++ (c.args.transaction.number, c.in_ok-phase.phase) ∷ []) c.reserve.ensures.items)
    ∙ session-begun c.self.inside.phases.items c.args.transaction.number c.in_ok-phase.phase c.args.transaction.start (question_of c.args.question, answer_of c.args.answer) c.args.self.now c.self.view_is none c.in_ok-phase.ensures.noted.0 c.in_ok-phase.ensures.noted.1
