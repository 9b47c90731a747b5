use Rattle.std.proofs.Common.{◌≡◌, ◌∙◌, ◌<◌, ◌++◌, [], ◌∷◌, Option, false, Result, Ok, Err, sym, ap, subst, length}
use Rattle.std.specs.Prelude.{OnOk}
use Rattle.std.specs.Result.{is_err}
use Rattle.std.specs.FinMap as finite
use Rattle.occ_types.specs.declared.limits.TheConstants as limit
use Rattle.occ_types.specs.PlainData.{question_of}
use Rattle.occ_model.specs.State.{Observation}
use Rattle.occ_model.specs.World.{ReadPhase}
use Rattle.occ_sets.specs.PlainSets.{answer_of}
use Rattle.occ_log.specs.Phases.{reads_of}
use Rattle.occ_log.proofs.Common.{on_ok_weaker}
use Rattle.occ_log.proofs.PhaseLists.{phases-part, phases-inserted}
use Rattle.occ_log.proofs.phases.ReadPhases.note.Goals as goal

-- what holds where there is a result holds where there is no error
when_no_err : {T E P : Type 0} (r : Result T E) → is_err r ≡ false → OnOk r P → P
when_no_err (Ok x) fine h = h
when_no_err (Err e) fine h = cc

-- the session's own phase is that of all
pub note-requires : goal.note-requires
note-requires g c =
    let reached = when_no_err c.reach.result (sym c.is_err.ensures.value ∙ c.if-is_err.false) c.reach.ensures.reached in
    let own = ap (λ m. finite.get m c.args.transaction.number) c.index_mut-phases.ensures.value
    ∙ phases-part c.reach.new.sessions.items c.args.transaction.session c.index_mut-phases.result.now c.args.self.now reached (c.reach.ensures.kept ∙ c.self.view_is) c.args.transaction.number in
    record { few = subst (λ (o : Option ReadPhase). length (reads_of o) < limit.MAX_QUESTIONS) (sym own) c.requires.few }

pub returns-clause-ok : goal.returns-clause-ok
returns-clause-ok g c =
    let reached = when_no_err c.reach.result (sym c.is_err.ensures.value ∙ c.if-is_err.false) c.reach.ensures.reached in
    let sessions = c.reach.new.sessions.items in
    let session = c.args.transaction.session in
    let number = c.args.transaction.number in
    let view = c.reach.ensures.kept ∙ c.self.view_is in
    let now = c.index_mut-phases.result.now in
    let read : Observation = (question_of c.args.question, answer_of c.args.answer) in
    let own = ap (λ m. finite.get m number) c.index_mut-phases.ensures.value ∙ phases-part sessions session now c.args.self.now reached view number in
    let noted : Option ReadPhase → ReadPhase = (λ o. record { start = c.args.transaction.start; reads = reads_of o ++ read ∷ [] }) in
    on_ok_weaker c.note.result
    (λ ok. phases-inserted sessions session now c.args.self.now reached view number (noted (finite.get c.args.self.now (session, number))) c.note.new.self
    (ok ∙ ap (λ o. finite.insert now number (noted o)) own ∙ ap (λ m. finite.insert m number (noted (finite.get c.args.self.now (session, number)))) c.index_mut-phases.ensures.value))
    c.note.ensures.ok
