-- What a serial end has to show, over plain parts.
use Rattle.std.proofs.Common.{◌≡◌, ℕ, suc, ◌+◌, ◌-◌, ◌≤◌, Bool, true, false, List, [], ◌∷◌, drop, length, map, Option, None, Some, Result, Ok, Err, refl, sym, ap, subst, ◌∙◌, arith, ◌||◌, nat_lt, slice_get, filter}
use Rattle.std.proofs.lemmas.Bool.{lt-ltb, ltb-false, leb-false}
use Rattle.std.specs.FinMap as finite
use Rattle.std.specs.List.{list_any}
use Rattle.occ_types.specs.declared.fault.Fault.{Fault}
use Rattle.occ_types.specs.declared.fault.Fault.TheVariants as faults
use Rattle.occ_types.specs.declared.limits.TheConstants.{MAX_LOG_ROWS, MAX_COUNTER, MAX_NUMBER}
use Rattle.occ_types.specs.Schema.{fault_if, first_fault}
use Rattle.occ_model.specs.State.{Write, Observation}
use Rattle.occ_model.specs.Log.{LogRow, Case, is_active}
use Rattle.occ_model.specs.Validity.{verdict}
use Rattle.occ_model.specs.World.{World, active_count, reads_under, low}
use Rattle.occ_model.specs.Event.{Event, Item, Reply, Request, Close, Enter, SerialEnd, Refused, Closed, Finished, EndedBack}
use Rattle.occ_model.specs.Content.{IsLawful}
use Rattle.occ_model.specs.Refusal as refusals
use Rattle.occ_model.specs.Refusal.{refusal, refusal_of_request, store_busy, check_writes}
use Rattle.occ_model.specs.Step.{Step, refused, starved, taken, validity_of, EndsSerially}
use Rattle.occ_model.specs.declared.verdict.Verdict.{Verdict}
use Rattle.occ_model.specs.declared.verdict.Verdict.TheVariants as verdicts
use Rattle.occ_model.specs.declared.verdict.Cause.{Cause}
use Rattle.occ_model.proofs.AtEntry.{verdict-validity}
use Rattle.occ_model.proofs.Phases.{not_refused}
use Rattle.occ_model.proofs.Admitted.{passed, admitted}
use Rattle.occ_model.proofs.InSchema.{keeps_lawful}
use Rattle.occ_core.specs.AtOnce.{committed, backed, MayEnd, quiet_fault, turn_to_end}
use Rattle.occ_core.specs.EntryFaults.{spare_fault, turn_to_close, log_fault, counter_fault, room_to_enter}
use Rattle.occ_core.specs.CoreParts.{Parts, world_of, found_at, AreSound, before_first}
use Rattle.occ_core.specs.Reads.{start_fault}
use Rattle.occ_log.specs.SessionStates.{active_from}
use Rattle.occ_sets.specs.Sets.{ArePlaced}
use Rattle.occ_core.proofs.Closing.{close_refusal}
use Rattle.occ_core.proofs.Counting.{active_counted}
use Rattle.occ_core.proofs.Entries.{nest, nest_last, counter_is, checks_placed, open_case}
use Rattle.occ_core.proofs.ReadPhases.{nested, reads_are}

-- When it is refused.

any_counted : (log : List LogRow) → list_any (λ row. is_active row.standing) log ≡ nat_lt 0 (length (filter (λ row. is_active row.standing) log))
any_counted [] = refl
any_counted (row ∷ rows) = at (is_active row.standing) (any_counted rows)
  where
    at : (b : Bool) → list_any (λ row. is_active row.standing) rows ≡ nat_lt 0 (length (filter (λ row. is_active row.standing) rows)) → (b || list_any (λ row. is_active row.standing) rows) ≡ nat_lt 0 (length (Rattle.std.specs.Prelude.cond b (row ∷ filter (λ row. is_active row.standing) rows) (filter (λ row. is_active row.standing) rows)))
    at true rest = sym (lt-ltb 0 (suc (length (filter (λ row. is_active row.standing) rows))) (omega arith))
    at false rest = rest

-- no transaction is active where none is found through the sessions
pub quiet_is : (parts : Parts) → AreSound parts → store_busy (world_of parts) ≡ quiet_fault (length (active_from (found_at parts) parts.slots))
quiet_is parts sound =
    ap (λ b. fault_if b faults.StoreBusy) (any_counted parts.log) ∙ sym (ap quiet_fault (active_counted parts sound))

serial_refusal : (parts : Parts) (session number start : ℕ) (writes : List Write) → AreSound parts
    → refusal (world_of parts) (SerialEnd session (Request number start writes))
    ≡ first_fault (turn_to_end parts.slots parts.marks (found_at parts) parts.phases parts.counter session number start ∷ room_to_enter parts.settings.schema parts.slots (length parts.log) (found_at parts) parts.counter writes ∷ [])
serial_refusal parts session number start writes sound =
    sym (nested (refusals.no_session w session) (refusals.session_closed w session) (refusals.not_due w session number) (refusals.session_busy w session) (store_busy w ∷ others (refusals.counter_exhausted w)))
    ∙ ap (λ o. first_fault (o ∷ store_busy w ∷ others (refusals.counter_exhausted w))) (close_refusal parts session number sound)
    ∙ ap (λ o. first_fault (turn_to_close parts.slots parts.marks session number ∷ o ∷ others (refusals.counter_exhausted w))) (quiet_is parts sound)
    ∙ ap (λ o. first_fault (turn_to_close parts.slots parts.marks session number ∷ quiet_fault (length (active_from (found_at parts) parts.slots)) ∷ others o)) (counter_is parts sound)
    ∙ sym (nest_last turn room) ∙ sym (nest turn (first_fault room ∷ []))
  where
    w : World
    w = world_of parts

    others : Option Fault → List (Option Fault)
    others o = spare_fault number ∷ start_fault (finite.get parts.phases (session, number)) parts.counter start ∷ check_writes parts.settings.schema writes ∷ log_fault (length parts.log) ∷ o ∷ []

    turn : List (Option Fault)
    turn = turn_to_close parts.slots parts.marks session number ∷ quiet_fault (length (active_from (found_at parts) parts.slots)) ∷ spare_fault number ∷ start_fault (finite.get parts.phases (session, number)) parts.counter start ∷ []

    room : List (Option Fault)
    room = check_writes parts.settings.schema writes ∷ log_fault (length parts.log) ∷ counter_fault parts.counter (length (active_from (found_at parts) parts.slots)) ∷ []

pub serial_turned : (parts : Parts) (world : World) → world_of parts ≡ world → (session number start : ℕ) (writes : List Write) → AreSound parts → (fault : Fault)
    → turn_to_end parts.slots parts.marks (found_at parts) parts.phases parts.counter session number start ≡ Some fault
    → refusal world (SerialEnd session (Request number start writes)) ≡ Some fault
serial_turned parts world seen session number start writes sound fault told =
    ap (λ w. refusal w (SerialEnd session (Request number start writes))) (sym seen) ∙ serial_refusal parts session number start writes sound
    ∙ ap (λ o. first_fault (o ∷ room_to_enter parts.settings.schema parts.slots (length parts.log) (found_at parts) parts.counter writes ∷ [])) told

pub serial_roomed : (parts : Parts) (world : World) → world_of parts ≡ world → (session number start : ℕ) (writes : List Write) → AreSound parts
    → turn_to_end parts.slots parts.marks (found_at parts) parts.phases parts.counter session number start ≡ None
    → refusal world (SerialEnd session (Request number start writes)) ≡ room_to_enter parts.settings.schema parts.slots (length parts.log) (found_at parts) parts.counter writes
serial_roomed parts world seen session number start writes sound free =
    ap (λ w. refusal w (SerialEnd session (Request number start writes))) (sym seen) ∙ serial_refusal parts session number start writes sound
    ∙ ap (λ o. first_fault (o ∷ room_to_enter parts.settings.schema parts.slots (length parts.log) (found_at parts) parts.counter writes ∷ [])) free
    ∙ nest_last [] (check_writes parts.settings.schema writes ∷ log_fault (length parts.log) ∷ counter_fault parts.counter (length (active_from (found_at parts) parts.slots)) ∷ [])

-- What it is tested against.

none_active : (parts : Parts) → AreSound parts → store_busy (world_of parts) ≡ None → [] ≡ active_from (found_at parts) parts.slots
none_active parts sound quiet =
    empty (active_from (found_at parts) parts.slots) (ltb-false 0 (length (active_from (found_at parts) parts.slots)) (not_refused _ faults.StoreBusy (sym (quiet_is parts sound) ∙ quiet)))
  where
    empty : (l : List (List Write)) → length l ≤ 0 → [] ≡ l
    empty [] up = refl
    empty (x ∷ xs) up = absurd (omega arith)

-- the verdict that needs no case
abbrev pub verdict_alone : ℕ → ℕ → ℕ → List Observation → List (List Write) → Verdict
verdict_alone start low before reads window = verdict (record {
  start = start;
  low = low;
  reads = map (λ o. o.0) reads;
  writes = [];
  finished = drop (start - before) window;
  active = [];
})

pub quiet_validity : (parts : Parts) (world : World) → world_of parts ≡ world → AreSound parts → store_busy world ≡ None → (session number start lower before : ℕ) (reads : List Observation) → reads ≡ reads_under world session number → lower ≡ low world → before ≡ before_first parts
    → (writes : List Write) → verdict_alone start lower before reads parts.window ≡ validity_of world session number start writes
quiet_validity parts world seen sound quiet session number start lower before reads reads_is lower_is before_is writes =
    verdict-validity world.log world.counter (low world) start (map (λ o. o.0) (reads_under world session number)) writes case
    (open_case parts world seen sound session number start writes case refl lower_is
    (ap (map (λ (o : Observation). o.0)) (reads_is ∙ ap (λ w. reads_under w session number) (sym seen) ∙ reads_are (finite.get parts.phases (session, number)))) refl
    (ap (λ n. drop (start - n) parts.window) before_is) (none_active parts sound (ap store_busy seen ∙ quiet)))
  where
    case : Case
    case = record { start = start; low = lower; reads = map (λ o. o.0) reads; writes = writes; finished = drop (start - before) parts.window; active = [] }

-- What it does, where nothing refuses it.

module _ (w : World) (session number start : ℕ) (writes : List Write) (none : refusal w (SerialEnd session (Request number start writes)) ≡ None) where
  pub serial_quiet : store_busy w ≡ None
  serial_quiet = (admitted w (store_busy w) session number start writes none).1

  pub serial_room : MayEnd w session number
  serial_room =
      let a = admitted w (store_busy w) session number start writes none in
      let b = passed (refusals.no_session w session) _ none in
      let c = passed (refusals.session_closed w session) _ b.1 in
      let d = passed (refusals.not_due w session number) _ c.1 in
      let e = passed (refusals.session_busy w session) _ d.1 in
      let f = passed (store_busy w) _ e.1 in
      let g = passed (refusals.numbers_exhausted number) _ f.1 in
      let h = passed (refusals.wrong_start w session number start) _ g.1 in
      let i = passed (check_writes w.settings.schema writes) _ h.1 in
      let j = passed (refusals.log_full w) _ i.1 in
      let k = passed (refusals.counter_exhausted w) _ j.1 in
      record {
        exists = a.0.exists;
        free = a.0.free;
        number_fits = leb-false MAX_NUMBER number (not_refused _ faults.NumbersExhausted g.0);
        log_room = leb-false MAX_LOG_ROWS (length w.log) (not_refused _ faults.LogFull j.0);
        counter_room = leb-false MAX_COUNTER (w.counter + active_count w) (not_refused _ faults.CounterExhausted k.0);
      }

  pub serial_placed : ArePlaced (length w.settings.schema) writes
  serial_placed =
      let b = passed (refusals.no_session w session) _ none in
      let c = passed (refusals.session_closed w session) _ b.1 in
      let d = passed (refusals.not_due w session number) _ c.1 in
      let e = passed (refusals.session_busy w session) _ d.1 in
      let f = passed (store_busy w) _ e.1 in
      let g = passed (refusals.numbers_exhausted number) _ f.1 in
      let h = passed (refusals.wrong_start w session number start) _ g.1 in
      checks_placed w.settings.schema writes (passed (check_writes w.settings.schema writes) _ h.1).0

  commit_step : verdicts.Commit ≡ validity_of w session number start writes
      → Step w (SerialEnd session (Request number start writes)) (Finished (w.counter + 1)) (committed w session number start (reads_under w session number) writes)
  commit_step valid = taken none
      (subst (λ v. EndsSerially w session number start writes v (Finished (w.counter + 1)) (committed w session number start (reads_under w session number) writes)) valid (refl, refl))

  back_step : (cause : Cause) → verdicts.BackUp cause ≡ validity_of w session number start writes
      → Step w (SerialEnd session (Request number start writes)) (EndedBack cause) (backed w session number start (reads_under w session number) writes cause)
  back_step cause valid = taken none
      (subst (λ v. EndsSerially w session number start writes v (EndedBack cause) (backed w session number start (reads_under w session number) writes cause)) valid (refl, refl))

  -- And where what the end is called with is known to be what stood there before.
  module _ (same : World) (kept : same ≡ w) (reads : List Observation) (reads_is : reads ≡ reads_under w session number) (theirs : List Write) (shared : theirs ≡ writes) where
    pub quiet_kept : store_busy same ≡ None
    quiet_kept = ap store_busy kept ∙ serial_quiet

    pub room_kept : MayEnd same session number
    room_kept = subst (λ v. MayEnd v session number) (sym kept) serial_room

    pub placed_kept : ArePlaced (length same.settings.schema) theirs
    placed_kept = subst (λ v. ArePlaced (length v.settings.schema) theirs) (sym kept) (subst (ArePlaced (length w.settings.schema)) (sym shared) serial_placed)

    commits : committed same session number start reads theirs ≡ committed w session number start (reads_under w session number) writes
    commits = λ i. committed (kept i) session number start (reads_is i) (shared i)

    backs : (cause : Cause) → backed same session number start reads theirs cause ≡ backed w session number start (reads_under w session number) writes cause
    backs cause = λ i. backed (kept i) session number start (reads_is i) (shared i) cause

    pub commit_lawful : IsLawful w → verdicts.Commit ≡ validity_of same session number start writes → IsLawful (committed same session number start reads theirs)
    commit_lawful inv valid =
        subst IsLawful (sym commits) (keeps_lawful w (SerialEnd session (Request number start writes)) (Finished (w.counter + 1)) (committed w session number start (reads_under w session number) writes) inv
        (commit_step (valid ∙ ap (λ v. validity_of v session number start writes) kept)))

    pub commit_returns : verdicts.Commit ≡ validity_of same session number start writes → (answer : ℕ) → answer ≡ same.counter + 1 → (new : World) → new ≡ committed same session number start reads theirs
        → Step w (SerialEnd session (Request number start writes)) (Finished answer) new
    commit_returns valid answer answer_is new new_is =
        subst (Step w (SerialEnd session (Request number start writes)) (Finished answer)) (sym (new_is ∙ commits))
        (subst (λ a. Step w (SerialEnd session (Request number start writes)) (Finished a) (committed w session number start (reads_under w session number) writes)) (sym (answer_is ∙ ap (λ (v : World). v.counter + 1) kept))
        (commit_step (valid ∙ ap (λ v. validity_of v session number start writes) kept)))

    pub back_lawful : (cause : Cause) → IsLawful w → verdicts.BackUp cause ≡ validity_of same session number start writes → IsLawful (backed same session number start reads theirs cause)
    back_lawful cause inv valid =
        subst IsLawful (sym (backs cause)) (keeps_lawful w (SerialEnd session (Request number start writes)) (EndedBack cause) (backed w session number start (reads_under w session number) writes cause) inv
        (back_step cause (valid ∙ ap (λ v. validity_of v session number start writes) kept)))

    pub back_returns : (cause : Cause) → verdicts.BackUp cause ≡ validity_of same session number start writes → (new : World) → new ≡ backed same session number start reads theirs cause
        → Step w (SerialEnd session (Request number start writes)) (EndedBack cause) new
    back_returns cause valid new new_is =
        subst (Step w (SerialEnd session (Request number start writes)) (EndedBack cause)) (sym (new_is ∙ backs cause))
        (back_step cause (valid ∙ ap (λ v. validity_of v session number start writes) kept))

-- The end of what a session hands in.

-- the serial end of a request is that of the item which it is
pub end_of : (old new : World) (session : ℕ) (item own : Item) (reply : Reply) → Step old (SerialEnd session own) reply new → own ≡ item → Step old (SerialEnd session item) reply new
end_of old new session item own reply step is = subst (λ i. Step old (SerialEnd session i) reply new) is step

-- a mark that enters ends
pub end_marked : (old new : World) (session number : ℕ) → Step old (Enter session (Close number)) Closed new → Step old (SerialEnd session (Close number)) Closed new
end_marked old new session number (refused why told reply same) = cc
end_marked old new session number (starved none takes reply same) = cc
end_marked old new session number (taken none t) = taken none t

-- a mark is refused for what refuses its entry
pub end_unmarked : (old new : World) (session number : ℕ) (fault : Fault) → Step old (Enter session (Close number)) (Refused fault) new → Step old (SerialEnd session (Close number)) (Refused fault) new
end_unmarked old new session number fault (refused why told reply same) = refused why told reply same
end_unmarked old new session number fault (starved none takes reply same) = starved none takes reply same
end_unmarked old new session number fault (taken none t) = taken none t
