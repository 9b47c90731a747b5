-- Which step gives a session's latest row another case, and how long a row that is to be backed up stays so.
use Rattle.std.proofs.Common.{◌≡◌, ℕ, ◌+◌, ◌⊎◌, inl, inr, Bool, true, false, List, [], ◌∷◌, ◌++◌, drop, length, Option, None, Some, refl, sym, ap, subst, ◌∙◌}
use Rattle.std.specs.Prelude.{if◌then◌else◌, ◌==◌, slice_get, MatchOption}
use Rattle.std.proofs.lemmas.Bool.{eqb-true, eq-eqb}
use Rattle.occ_types.specs.declared.fault.Fault.{Fault}
use Rattle.occ_model.specs.State.{Write, put}
use Rattle.occ_model.specs.Log.{LogRow, Standing, Open, Writing, Done, Back, Case, is_open, is_back}
use Rattle.occ_model.specs.Operations.{Operation, perform_all, nothing_yet}
use Rattle.occ_model.specs.Validity.{verdict}
use Rattle.occ_model.specs.World.{World, is_held, latest, turn, low, reads_under}
use Rattle.occ_model.specs.Event.{Request, Alone, Close, Event, Read, Forget, Enter, Decide, WriteOne, Finish, BackUp, SerialEnd, RunAlone, Checkpoint, Reply, Refused, Decided, Wrote, NoMore}
use Rattle.occ_model.specs.Refusal.{refusal, refusal_of_alone}
use Rattle.occ_model.specs.Step as steps
use Rattle.occ_model.specs.Step.{refused, starved, taken, Taken, entering, validity_of, EndsSerially, RunsAlone, foldable_part}
use Rattle.occ_model.specs.EndLaws.{Enters, CasesStay, IsToBackUp, CausesAreTold, CausesStay}
use Rattle.occ_model.specs.declared.verdict.Verdict.{Verdict}
use Rattle.occ_model.specs.declared.verdict.Verdict.TheVariants as verdicts
use Rattle.occ_model.specs.declared.verdict.Cause.{Cause}
use Rattle.occ_model.proofs.Tests as tests
use Rattle.occ_model.proofs.Logs.{standing_at}
use Rattle.occ_model.proofs.Turns.{around, latest_turned, latest-push}
use Rattle.occ_model.proofs.Folds as folds
use Rattle.occ_model.proofs.Admitted.{admitted}
use Rattle.occ_model.proofs.Arrivals.{held-insert, held-remove}
use Rattle.occ_model.proofs.EndsShown.{held_of, due_alone, due_request}

-- ---- cases

-- the latest row of a session is open; so it was there before, where what came or turned isn't open
module _ (old : World) (session index : ℕ) (case : Case) (row : LogRow) (stands : row.standing ≡ Open index case) where
  push_keeps : (came : LogRow) → is_open came.standing ≡ false → latest session (old.log ++ came ∷ []) ≡ Some row → latest session old.log ≡ Some row
  push_keeps came closed there = split (came.session == session) (sym (latest-push session came old.log) ∙ there)
    where
      split : (b : Bool) → (if b then Some came else latest session old.log) ≡ Some row → latest session old.log ≡ Some row
      split true e = let same : came ≡ row = cc in tests.clash (is_open row.standing) (ap is_open stands) (ap (λ r. is_open r.standing) (sym same) ∙ closed)
      split false e = e

  turn_keeps : (turning : ℕ) (was : LogRow) (standing : Standing) → latest turning old.log ≡ Some was → is_open standing ≡ false → latest session (turn turning standing old.log) ≡ Some row → latest session old.log ≡ Some row
  turn_keeps turning was standing at closed there = go (latest_turned turning was standing old.log (around turning old.log was standing at) session row there)
    where
      go : ((session ≡ turning) × (row ≡ standing_at was standing)) ⊎ ((session ≡ turning → ⊥) × (latest session old.log ≡ Some row)) → latest session old.log ≡ Some row
      go (inl here) = tests.clash (is_open row.standing) (ap is_open stands) (ap (λ r. is_open r.standing) here.1 ∙ closed)
      go (inr there) = there.1

  alone_keeps : (s number : ℕ) (operations : List Operation) (reply : Reply) (new : World) → RunsAlone old s number operations reply new → latest session new.log ≡ Some row → latest session old.log ≡ Some row
  alone_keeps s number operations reply new t there =
      let done = perform_all old.table operations nothing_yet in
      push_keeps (entering old s number old.counter done.reads done.writes (Done (old.counter + 1))) refl (sym (ap (λ w. latest session w.log) t.1) ∙ there)

  no_case : (v : Verdict) → is_open (steps.decided v) ≡ false
  no_case verdicts.Commit = refl
  no_case (verdicts.BackUp cause) = refl

  cases_taken : (event : Event) (reply : Reply) (new : World) → Taken old event reply new → latest session new.log ≡ Some row
      → (latest session old.log ≡ Some row) ⊎ Enters old event reply session index case row
  cases_taken (Read s number start question) reply new t there = inl (sym (ap (λ w. latest session w.log) t.1) ∙ there)
  cases_taken (Forget s number) reply new t there = inl (sym (ap (λ w. latest session w.log) t.1) ∙ there)
  cases_taken (Enter s (Request number start writes)) reply new t there =
      split (s == session) refl (sym (latest-push session came old.log) ∙ sym (ap (λ w. latest session w.log) t.4) ∙ there)
    where
      came : LogRow
      came = entering old s number start (reads_under old s number) writes (Open t.0 t.1)

      split : (b : Bool) → (s == session) ≡ b → (if b then Some came else latest session old.log) ≡ Some row
          → (latest session old.log ≡ Some row) ⊎ Enters old (Enter s (Request number start writes)) reply session index case row
      split true own e =
          let same : came ≡ row = cc in
          let as_was : Open t.0 t.1 ≡ Open index case = ap (λ r. r.standing) same ∙ stands in
          let index_is : t.0 ≡ index = cc in
          let case_is : t.1 ≡ case = cc in
          let s_is : s ≡ session = eqb-true s session own in
          inr (record {
            event_is = λ i. Enter (s_is i) (Request (same i).number (same i).start (same i).writes);
            reply_is = t.3 ∙ (λ i. Rattle.occ_model.specs.Event.Entered (same i).place (index_is i));
            case_is = subst (λ c. steps.IsCaseOf old session row.number row.start row.writes c) case_is
                (subst (λ r. steps.IsCaseOf old session r.number r.start r.writes t.1) same (subst (λ x. steps.IsCaseOf old x number start writes t.1) s_is t.2));
          })
      split false own e = inl e
  cases_taken (Enter s (Alone number operations)) reply new t there = inl (alone_keeps s number operations reply new t there)
  cases_taken (Enter s (Close number)) reply new t there = inl (sym (ap (λ w. latest session w.log) t.1) ∙ there)
  cases_taken (Decide s) reply new t there = inl (turn_keeps s t.0 (steps.decided (verdict t.2)) t.3 (no_case (verdict t.2)) (sym (ap (λ w. latest session w.log) t.6) ∙ there))
  cases_taken (WriteOne s) reply new t there = written (slice_get t.0.writes t.1) t.4
    where
      written : (w : Option Write) → MatchOption w ((reply ≡ NoMore) × (new ≡ old)) (λ write. (reply ≡ Wrote write.0) × (new ≡ record old { table = put old.table write; log = turn s (Writing (t.1 + 1)) old.log }))
          → (latest session old.log ≡ Some row) ⊎ Enters old (WriteOne s) reply session index case row
      written None m = inl (sym (ap (λ w. latest session w.log) m.1) ∙ there)
      written (Some write) m = inl (turn_keeps s t.0 (Writing (t.1 + 1)) t.2 refl (sym (ap (λ w. latest session w.log) m.1) ∙ there))
  cases_taken (Finish s) reply new t there = inl (turn_keeps s t.0 (Done (old.counter + 1)) t.2 refl (sym (ap (λ w. latest session w.log) t.5) ∙ there))
  cases_taken (BackUp s) reply new t there = inl (sym (ap (λ w. latest session w.log) t.1) ∙ there)
  cases_taken (SerialEnd s (Request number start writes)) reply new t there = ends (validity_of old s number start writes) t
    where
      ends : (v : Verdict) → EndsSerially old s number start writes v reply new → (latest session old.log ≡ Some row) ⊎ Enters old (SerialEnd s (Request number start writes)) reply session index case row
      ends verdicts.Commit t = inl (push_keeps (entering old s number start (reads_under old s number) writes (Done (old.counter + 1))) refl (sym (ap (λ w. latest session w.log) t.1) ∙ there))
      ends (verdicts.BackUp cause) t = inl (push_keeps (entering old s number start (reads_under old s number) writes (Back cause)) refl (sym (ap (λ w. latest session w.log) t.1) ∙ there))
  cases_taken (SerialEnd s (Alone number operations)) reply new t there = inl (alone_keeps s number operations reply new t there)
  cases_taken (SerialEnd s (Close number)) reply new t there = inl (sym (ap (λ w. latest session w.log) t.1) ∙ there)
  cases_taken (RunAlone s number operations) reply new t there = inl (alone_keeps s number operations reply new t there)
  cases_taken Checkpoint reply new t there =
      let part : List LogRow = foldable_part (low old) old.log in
      inl (ap (latest session) (folds.part_rest (low old) old.log)
      ∙ folds.latest-later session row part (drop (length part) old.log) (sym (ap (λ w. latest session w.log) t.1) ∙ there))

pub cases_stay : CasesStay
cases_stay old new event reply (refused fault is told same) session index case row there stands = inl (sym (ap (λ w. latest session w.log) same) ∙ there)
cases_stay old new event reply (starved none takes told same) session index case row there stands = inl (sym (ap (λ w. latest session w.log) same) ∙ there)
cases_stay old new event reply (taken none t) session index case row there stands = cases_taken old session index case row stands event reply new t there

-- ---- rows that are to be backed up

pub causes_are_told : CausesAreTold
causes_are_told old new session cause (refused fault is told same) = absurd (differ told)
  where
    differ : Decided (verdicts.BackUp cause) ≡ Refused fault → ⊥
    differ e = cc
causes_are_told old new session cause (starved none takes told same) = absurd (differ told)
  where
    differ : {fault : Fault} → Decided (verdicts.BackUp cause) ≡ Refused fault → ⊥
    differ e = cc
causes_are_told old new session cause (taken none t) = record {
  held = ap (λ w. is_held w session) t.6 ∙ held_of old (Decide session) session none _ refl;
  stands = λ row there. go row (latest_turned session t.0 (steps.decided (verdict t.2)) old.log (around session old.log t.0 (steps.decided (verdict t.2)) t.3) session row (sym (ap (λ w. latest session w.log) t.6) ∙ there));
}
  where
    told : (v : Verdict) → Decided (verdicts.BackUp cause) ≡ Decided v → steps.decided v ≡ Back cause
    told verdicts.Commit e = cc
    told (verdicts.BackUp other) e = let same : other ≡ cause = cc in ap Back same

    go : (row : LogRow) → ((session ≡ session) × (row ≡ standing_at t.0 (steps.decided (verdict t.2)))) ⊎ ((session ≡ session → ⊥) × (latest session old.log ≡ Some row)) → row.standing ≡ Back cause
    go row (inl here) = ap (λ r. r.standing) here.1 ∙ told (verdict t.2) t.5
    go row (inr other) = absurd (other.0 refl)

module _ (old : World) (session : ℕ) (cause : Cause) (waits : IsToBackUp session cause old) where
  same_log : (new : World) → is_held new session ≡ true → new.log ≡ old.log → IsToBackUp session cause new
  same_log new held same = record { held = held; stands = λ row there. waits.stands row (sym (ap (latest session) same) ∙ there) }

  push_waits : (new : World) (came : LogRow) → is_held new session ≡ true → is_held old came.session ≡ false → new.log ≡ old.log ++ came ∷ [] → IsToBackUp session cause new
  push_waits new came held free is = record {
    held = held;
    stands = λ row there. split row (came.session == session) refl (sym (latest-push session came old.log) ∙ sym (ap (latest session) is) ∙ there);
  }
    where
      split : (row : LogRow) (b : Bool) → (came.session == session) ≡ b → (if b then Some came else latest session old.log) ≡ Some row → row.standing ≡ Back cause
      split row true own e = tests.clash (is_held old session) waits.held (ap (is_held old) (sym (eqb-true came.session session own)) ∙ free)
      split row false own e = waits.stands row e

  not_of : (turning : ℕ) (was : LogRow) → latest turning old.log ≡ Some was → is_back was.standing ≡ false → session ≡ turning → ⊥
  not_of turning was at undone same = tests.clash (is_back was.standing) (ap is_back (waits.stands was (ap (λ s. latest s old.log) same ∙ at))) undone

  turn_waits : (new : World) (turning : ℕ) (was : LogRow) (standing : Standing) → is_held new session ≡ true → latest turning old.log ≡ Some was → is_back was.standing ≡ false → new.log ≡ turn turning standing old.log → IsToBackUp session cause new
  turn_waits new turning was standing held at undone is = record {
    held = held;
    stands = λ row there. go row (latest_turned turning was standing old.log (around turning old.log was standing at) session row (sym (ap (latest session) is) ∙ there));
  }
    where
      go : (row : LogRow) → ((session ≡ turning) × (row ≡ standing_at was standing)) ⊎ ((session ≡ turning → ⊥) × (latest session old.log ≡ Some row)) → row.standing ≡ Back cause
      go row (inl here) = absurd (not_of turning was at undone here.0)
      go row (inr other) = waits.stands row other.1

  alone_waits : (s number : ℕ) (operations : List Operation) (reply : Reply) (new : World) → refusal_of_alone old s number operations ≡ None → RunsAlone old s number operations reply new → IsToBackUp session cause new
  alone_waits s number operations reply new none t =
      let done = perform_all old.table operations nothing_yet in
      push_waits new (entering old s number old.counter done.reads done.writes (Done (old.counter + 1))) (ap (λ w. is_held w session) t.1 ∙ waits.held) (due_alone old s number operations none).free (ap (λ w. w.log) t.1)

  causes_taken : (event : Event) (reply : Reply) (new : World) → refusal old event ≡ None → Taken old event reply new → IsToBackUp session cause new ⊎ (event ≡ BackUp session)
  causes_taken (Read s number start question) reply new none t = inl (same_log new (ap (λ w. is_held w session) t.1 ∙ waits.held) (ap (λ w. w.log) t.1))
  causes_taken (Forget s number) reply new none t = inl (same_log new (ap (λ w. is_held w session) t.1 ∙ waits.held) (ap (λ w. w.log) t.1))
  causes_taken (Enter s (Request number start writes)) reply new none t =
      inl (push_waits new (entering old s number start (reads_under old s number) writes (Open t.0 t.1)) (ap (λ w. is_held w session) t.4 ∙ held-insert old.held s session waits.held)
      (admitted old None s number start writes none).0.free (ap (λ w. w.log) t.4))
  causes_taken (Enter s (Alone number operations)) reply new none t = inl (alone_waits s number operations reply new none t)
  causes_taken (Enter s (Close number)) reply new none t = inl (same_log new (ap (λ w. is_held w session) t.1 ∙ waits.held) (ap (λ w. w.log) t.1))
  causes_taken (Decide s) reply new none t =
      inl (turn_waits new s t.0 (steps.decided (verdict t.2)) (ap (λ w. is_held w session) t.6 ∙ waits.held) t.3 (ap is_back t.4) (ap (λ w. w.log) t.6))
  causes_taken (WriteOne s) reply new none t = inl (written (slice_get t.0.writes t.1) t.4)
    where
      written : (w : Option Write) → MatchOption w ((reply ≡ NoMore) × (new ≡ old)) (λ write. (reply ≡ Wrote write.0) × (new ≡ record old { table = put old.table write; log = turn s (Writing (t.1 + 1)) old.log }))
          → IsToBackUp session cause new
      written None m = same_log new (ap (λ w. is_held w session) m.1 ∙ waits.held) (ap (λ w. w.log) m.1)
      written (Some write) m = turn_waits new s t.0 (Writing (t.1 + 1)) (ap (λ w. is_held w session) m.1 ∙ waits.held) t.2 (ap is_back t.3) (ap (λ w. w.log) m.1)
  causes_taken (Finish s) reply new none t =
      inl (turn_waits new s t.0 (Done (old.counter + 1))
      (ap (λ w. is_held w session) t.5 ∙ held-remove old.held s session (not_of s t.0 t.2 (ap is_back t.3)) waits.held) t.2 (ap is_back t.3) (ap (λ w. w.log) t.5))
  causes_taken (BackUp s) reply new none t = tests.decided (session == s)
      (λ same. inr (ap BackUp (sym (eqb-true session s same))))
      (λ other. inl (same_log new (ap (λ w. is_held w session) t.1 ∙ held-remove old.held s session (λ e. tests.clash (session == s) (eq-eqb session s e) other) waits.held) (ap (λ w. w.log) t.1)))
  causes_taken (SerialEnd s (Request number start writes)) reply new none t = inl (ends (validity_of old s number start writes) t)
    where
      ends : (v : Verdict) → EndsSerially old s number start writes v reply new → IsToBackUp session cause new
      ends verdicts.Commit t = push_waits new (entering old s number start (reads_under old s number) writes (Done (old.counter + 1))) (ap (λ w. is_held w session) t.1 ∙ waits.held)
          (due_request old s number start writes none).free (ap (λ w. w.log) t.1)
      ends (verdicts.BackUp other) t = push_waits new (entering old s number start (reads_under old s number) writes (Back other)) (ap (λ w. is_held w session) t.1 ∙ waits.held)
          (due_request old s number start writes none).free (ap (λ w. w.log) t.1)
  causes_taken (SerialEnd s (Alone number operations)) reply new none t = inl (alone_waits s number operations reply new none t)
  causes_taken (SerialEnd s (Close number)) reply new none t = inl (same_log new (ap (λ w. is_held w session) t.1 ∙ waits.held) (ap (λ w. w.log) t.1))
  causes_taken (RunAlone s number operations) reply new none t = inl (alone_waits s number operations reply new none t)
  causes_taken Checkpoint reply new none t =
      let part : List LogRow = foldable_part (low old) old.log in
      inl (record {
        held = ap (λ w. is_held w session) t.1 ∙ waits.held;
        stands = λ row there. waits.stands row (ap (latest session) (folds.part_rest (low old) old.log)
            ∙ folds.latest-later session row part (drop (length part) old.log) (sym (ap (λ w. latest session w.log) t.1) ∙ there));
      })

pub causes_stay : CausesStay
causes_stay old new event reply session cause (refused fault is told same) waits = inl (subst (IsToBackUp session cause) (sym same) waits)
causes_stay old new event reply session cause (starved none takes told same) waits = inl (subst (IsToBackUp session cause) (sym same) waits)
causes_stay old new event reply session cause (taken none t) waits = causes_taken old session cause waits event reply new none t
