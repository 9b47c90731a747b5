-- Each event keeps what stands behind the lock, with what it stores and counts.
use Rattle.std.proofs.Common.{◌≡◌, ◌⊎◌, ⊎_elim, inl, inr, ℕ, ◌+◌, Bool, true, false, ◌&&◌, map, Option, None, Some, Result, Ok, Err, refl, sym, ap, subst, ◌∙◌, arith}
use Rattle.occ_types.specs.declared.fault.Fault.{Fault}
use Rattle.occ_types.specs.declared.fault.Fault.TheVariants.{WrongCase}
use Rattle.occ_types.specs.declared.fault.Refused as refusals
use Rattle.occ_model.specs.Event.{Event, Decide, Finish, BackUp, Reply, Entered, Closed, Decided, Finished, BackedUp, RanAlone, Refused}
use Rattle.occ_model.specs.World.{World, next_place}
use Rattle.occ_model.specs.Refusal.{refusal}
use Rattle.occ_model.specs.Step.{Step, refused}
use Rattle.occ_model.specs.Poll.{row_numbered}
use Rattle.occ_model.specs.Invariant.{Invariant}
use Rattle.occ_model.specs.EndLaws.{session_of}
use Rattle.occ_model.specs.declared.verdict.Verdict.{Verdict}
use Rattle.occ_model.specs.declared.verdict.Cause.{Cause}
use Rattle.occ_model.proofs.InSchema.{same_settings}
use Rattle.occ_board.specs.declared.words.Words.{Words}
use Rattle.occ_board.specs.Rule.{Posted}
use Rattle.occ_sets.specs.PlainSets.{answer_of}
use Rattle.occ_model.specs.Replies.{replied, replied_back}
use Rattle.occ_core.specs.Replies.{outcome_of}
use Rattle.occ_core.specs.declared.outcomes.Outcome as code_outcome
use Rattle.occ_core.specs.declared.outcomes.Outcome.TheVariants as outcomes
use Rattle.occ_filed.specs.Filed.{Filed, Moves, DecidesBy, token_of, has_index}
use Rattle.occ_published.specs.Published.{Published, NumbersFit, may_end, ends, CommitMayBeStored, BackUpMayBeStored}
use Rattle.occ_published.proofs.Stored.{stays_published, commits_are_stored, back_ups_are_stored, serial_back_ups_are_stored}
use Rattle.occ_store.specs.Names.{Named}
use Rattle.occ_store.specs.Locked.{IsShown, next_over, stored, told, cause_told, MayCommit, MayStore, rows_by}
use Rattle.occ_store.proofs.RowsCome.{rows_come}
use Rattle.occ_model.proofs.Headlines.{refusals_leave}
use Rattle.occ_store.proofs.CausesTold.{may_tell}

and_false : (b : Bool) → (b && false) ≡ false
and_false true = refl
and_false false = refl

module _ (named : Named) where
  -- over a step, with what is shown of it and counted
  pub over_step : (old new : Filed) (before after : Posted) (rows count : ℕ) (event : Event) (reply : Reply) → Step old.world event reply new.world → new.file ≡ old.file
      → after.board ≡ before.board → Published new.world after.words → count ≡ rows + rows_by event reply → IsShown named old before rows → IsShown named new after count
  over_step old new before after rows count event reply step file board shown counts was =
      let come = rows_come old.world new.world event reply step in
      let counted = was.counted in
      record {
        published = shown;
        settings = same_settings old.world new.world event reply step ∙ was.settings;
        file = file ∙ was.file;
        board = board ∙ was.board;
        counted = omega arith;
      }

  -- over an event that ends nothing and brings no row
  pub between : (old new : Filed) (posted : Posted) (rows : ℕ) (event : Event) (reply : Reply) → Invariant old.world → ends event reply ≡ false → rows_by event reply ≡ 0
      → Step old.world event reply new.world → new.file ≡ old.file → IsShown named old posted rows → IsShown named new posted rows
  between old new posted rows event reply inv none few step file was =
      over_step old new posted posted rows rows event reply step file refl (stays_published old.world new.world posted.words event reply inv step none was.published) (omega arith) was

  -- over an event that ends a transaction and brings no row
  pub over_end : (old new : Filed) (before after : Posted) (rows : ℕ) (event : Event) (reply : Reply) → rows_by event reply ≡ 0 → Step old.world event reply new.world → new.file ≡ old.file
      → after.board ≡ before.board → Published new.world after.words → IsShown named old before rows → IsShown named new after rows
  over_end old new before after rows event reply few step file board shown was = over_step old new before after rows rows event reply step file board shown (omega arith) was

  -- over a decision by a verdict on a judged case
  pub over_judged : (old new : Filed) (posted : Posted) (rows session index : ℕ) (result : Result Verdict Fault) → Invariant old.world → DecidesBy old session index result new
      → IsShown named old posted rows → IsShown named new posted rows
  over_judged old new posted rows session index result inv decides was = go (refusal old.world (Decide session)) decides
    where
      still : new ≡ old → IsShown named new posted rows
      still same = subst (λ f. IsShown named f posted rows) (sym same) was

      by : (own : Bool) → (elim own as (λ _. Type 0) [ true ↦ Moves old (Decide session) (replied Decided result) new | false ↦ (result ≡ Err WrongCase) × (new ≡ old) ]) → IsShown named new posted rows
      by true moves = between old new posted rows (Decide session) (replied Decided result) inv refl refl moves.0 (ap (λ f. f.file) moves.1) was
      by false wrong = still wrong.1

      go : (r : Option Fault)
          → (elim r as (λ _. Type 0) [
            | Some fault ↦ (result ≡ Err fault) × (new ≡ old)
            | None ↦ elim (has_index (token_of old.tokens session) index) as (λ _. Type 0) [ true ↦ Moves old (Decide session) (replied Decided result) new | false ↦ (result ≡ Err WrongCase) × (new ≡ old) ]
          ]) → IsShown named new posted rows
      go (Some fault) d = still d.1
      go None d = by (has_index (token_of old.tokens session) index) d

-- what a decision by a verdict on a judged case does to the world: a step, unless the verdict is on another case
judged_by : (old new : Filed) (session index : ℕ) (result : Result Verdict Fault) → DecidesBy old session index result new
    → Step old.world (Decide session) (replied Decided result) new.world ⊎ ((result ≡ Err WrongCase) × (new ≡ old))
judged_by old new session index result decides = go (refusal old.world (Decide session)) refl decides
  where
    by : (own : Bool) → (elim own as (λ _. Type 0) [ true ↦ Moves old (Decide session) (replied Decided result) new | false ↦ (result ≡ Err WrongCase) × (new ≡ old) ])
        → Step old.world (Decide session) (replied Decided result) new.world ⊎ ((result ≡ Err WrongCase) × (new ≡ old))
    by true moves = inl moves.0
    by false wrong = inr wrong

    go : (r : Option Fault) → refusal old.world (Decide session) ≡ r
        → (elim r as (λ _. Type 0) [
          | Some fault ↦ (result ≡ Err fault) × (new ≡ old)
          | None ↦ elim (has_index (token_of old.tokens session) index) as (λ _. Type 0) [ true ↦ Moves old (Decide session) (replied Decided result) new | false ↦ (result ≡ Err WrongCase) × (new ≡ old) ]
        ]) → Step old.world (Decide session) (replied Decided result) new.world ⊎ ((result ≡ Err WrongCase) × (new ≡ old))
    go (Some fault) is d = inl (refused fault is (ap (replied Decided) d.0) (ap (λ (f : Filed). f.world) d.1))
    go None is d = by (has_index (token_of old.tokens session) index) d

pub judged_step : (old new : Filed) (session index : ℕ) (result : Result Verdict Fault) → DecidesBy old session index result new → (result ≡ Err WrongCase → ⊥) → Step old.world (Decide session) (replied Decided result) new.world
judged_step old new session index result decides own = ⊎_elim (λ step. step) (λ wrong. absurd (own wrong.0)) (judged_by old new session index result decides)

-- and then it stays as it was
pub judged_same : (old new : Filed) (session index : ℕ) (result : Result Verdict Fault) → DecidesBy old session index result new → result ≡ Err WrongCase → new.world ≡ old.world
judged_same old new session index result decides wrong = ⊎_elim
    (λ step. refusals_leave old.world new.world (Decide session) WrongCase (subst (λ (r : Result Verdict Fault). Step old.world (Decide session) (replied Decided r) new.world) wrong step))
    (λ same. ap (λ (f : Filed). f.world) same.1)
    (judged_by old new session index result decides)

-- what a publisher shows that stored this
pub shown_after : (world : World) (before after : Posted) (words : Words) → after ≡ record before { words = words } → Published world words → Published world after.words
shown_after world before after words is shown = subst (Published world) (sym (ap (λ (p : Posted). p.words) is)) shown

-- a commit is stored
pub may_commit : (words : Words) (session tn : ℕ) (new : World) → CommitMayBeStored words session (next_over words session) tn new → MayCommit words session tn
may_commit words session tn new may = record { next = record { has = may.has; fits = may.number_fits }; rises = may.counter_rises; fits = may.counter_fits }

-- the ledger's total with the rows that came
pub entered_counts : (old new : World) (rows : ℕ) (event : Event) (reply : Reply) → rows ≡ next_place old → Step old event reply new → rows + rows_by event reply ≡ next_place new
entered_counts old new rows event reply counted step = let come = rows_come old new event reply step in omega arith

-- what came of an entry or of a serial end is stored
module _ {Z : Type 0} where
  pub outcome_stored : (old new : World) (words : Words) (event : Event) (session : ℕ) (outcome : code_outcome.Outcome Z) → Invariant old → Step old event (outcome_of outcome) new
      → session_of event ≡ Some session → NumbersFit new → Published old words → MayStore words session (outcome_of outcome) × Published new (stored words session (outcome_of outcome))
  outcome_stored old new words event session (outcomes.Entered place) inv step of room was =
      (tt, stays_published old new words event (Entered place place) inv step (and_false (may_end event)) was)
  outcome_stored old new words event session (outcomes.Committed tn) inv step of room was =
      let may = commits_are_stored old new words event (Finished tn) session tn inv step of refl room was (next_over words session) refl in
      (may_commit words session tn new may, may.published)
  outcome_stored old new words event session (outcomes.BackedUp cause) inv step of room was =
      let may = serial_back_ups_are_stored old new words event session cause inv step of room was (next_over words session) refl in
      (record { has = may.0.has; fits = may.0.number_fits }, may.0.published cause may.1)
  outcome_stored old new words event session (outcomes.RanAlone tn answers) inv step of room was =
      let may = commits_are_stored old new words event (RanAlone tn (map answer_of answers.items)) session tn inv step of refl room was (next_over words session) refl in
      (may_commit words session tn new may, may.published)
  outcome_stored old new words event session outcomes.MarkedClosed inv step of room was =
      (tt, stays_published old new words event Closed inv step (and_false (may_end event)) was)

-- what an entry or a serial end came to is stored; a refusal stores nothing
module _ {Z Y : Type 0} where
  pub came_stored : (old new : World) (words : Words) (event : Event) (session : ℕ) (came : Result (code_outcome.Outcome Z) (refusals.Refused Y)) → Invariant old
      → Step old event (replied_back outcome_of came) new → session_of event ≡ Some session → NumbersFit new → Published old words
      → MayStore words session (replied_back outcome_of came) × Published new (stored words session (replied_back outcome_of came))
  came_stored old new words event session (Ok outcome) inv step of room was = outcome_stored old new words event session outcome inv step of room was
  came_stored old new words event session (Err refusal) inv step of room was =
      (tt, stays_published old new words event (Refused refusal.fault) inv step (and_false (may_end event)) was)

-- a finish is stored
pub finish_stored : (old new : World) (words : Words) (session tn : ℕ) → Invariant old → Step old (Finish session) (Finished tn) new → NumbersFit new → Published old words
    → MayCommit words session tn × Published new (stored words session (Finished tn))
finish_stored old new words session tn inv step room was =
    let may = commits_are_stored old new words (Finish session) (Finished tn) session tn inv step refl refl room was (next_over words session) refl in
    (may_commit words session tn new may, may.published)

-- a back-up may be stored, and is, with the cause that it tells
pub back_up_stored : (old new : World) (words : Words) (session number : ℕ) (kept : Cause) → Invariant old → Step old (BackUp session) (BackedUp number) new → NumbersFit new → Published old words
    → BackUpMayBeStored words session number new × Published new (told words session kept new (BackedUp number))
back_up_stored old new words session number kept inv step room was =
    let may = back_ups_are_stored old new words (BackUp session) session number inv step refl room was in
    (may, may.published (cause_told kept (row_numbered session number new.log)) (may_tell old new session number kept inv step))
