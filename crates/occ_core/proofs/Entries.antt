-- What the entry of a transaction has to show, over plain parts.
use Rattle.std.proofs.Common.{◌≡◌, ℕ, zero, suc, ◌+◌, ◌-◌, ◌<◌, ◌≤◌, Bool, true, false, cond, List, [], ◌∷◌, ◌++◌, drop, length, map, Option, None, Some, refl, sym, ap, subst, ◌∙◌, arith, ◌&&◌, slice_get, slice_set, nat_le, nat_lt, filter}
use Rattle.std.specs.FinMap as finite
use Rattle.std.specs.FinMap.{FinMap}
use Rattle.std.proofs.lemmas.Bool.{leb-true, leb-false, le-leb, ltb-true, lt-ltb}
use Rattle.occ_types.specs.declared.fault.Fault.{Fault}
use Rattle.occ_types.specs.declared.fault.Fault.TheVariants as faults
use Rattle.occ_types.specs.declared.limits.TheConstants.{MAX_COUNTER}
use Rattle.occ_types.specs.Schema.{Schema, fault_if, first_fault, check_key, check_row}
use Rattle.occ_model.specs.State.{Write, Observation}
use Rattle.occ_model.specs.Log.{LogRow, Standing, Open, Writing, Done, Back, Case}
use Rattle.occ_model.specs.Validity.{finished_within, finished_opponents, writes_of}
use Rattle.occ_model.specs.World.{World, ReadPhase, phase_cmp, next_place, active_count, reads_under, is_held, low}
use Rattle.std.specs.Prelude.{Result, Ok, Err}
use Rattle.occ_model.specs.Event.{Event, Item, Reply, Enter, Request, Entered, Refused}
use Rattle.occ_model.specs.Refusal as refusals
use Rattle.occ_model.specs.Refusal.{refusal, check_writes}
use Rattle.occ_model.specs.Step.{Step, starved, IsCaseOf, entering}
use Rattle.occ_model.proofs.Tests as tests
use Rattle.occ_model.proofs.Phases.{not_refused}
use Rattle.occ_model.proofs.Admitted.{passed}
use Rattle.std.specs.List.{list_any}
use Rattle.occ_log.specs.Phases.{reads_of}
use Rattle.occ_core.specs.Reads.{session_fault, closed_fault, start_fault}
use Rattle.occ_core.specs.EntryFaults.{due_fault, busy_fault, spare_fault, turn_to_enter, write_fault, log_fault, counter_fault, room_to_enter}
use Rattle.occ_log.specs.SessionStates.{Slot, Hold, last_of, active_from, HoldsArePlaced}
use Rattle.occ_sets.specs.Sets.{ArePlaced}
use Rattle.occ_core.specs.CoreParts.{Parts, world_of, low_of, before_first, found_at, AreSound}
use Rattle.occ_core.proofs.Placed.{finds_standing, row_found}
use Rattle.occ_core.proofs.Calls.{held_world}
use Rattle.occ_log.proofs.Changes.{placed-set}
use Rattle.occ_core.proofs.Counting.{active_counted}
use Rattle.occ_core.proofs.Moves as moves
use Rattle.occ_log.proofs.Opponents.{active_same}
use Rattle.occ_log.proofs.Places.{length-set, slice_get-below}
use Rattle.occ_core.proofs.ReadPhases.{session_is, last_is, there, reads_are}

-- The guards on the writes.

pair_first : (a b c : Option Fault) (fault : Fault) → first_fault (a ∷ b ∷ []) ≡ Some fault → first_fault (a ∷ b ∷ c ∷ []) ≡ Some fault
pair_first (Some x) b c fault e = e
pair_first None (Some x) c fault e = e
pair_first None None c fault e = cc

pair_none : (a b c : Option Fault) → first_fault (a ∷ b ∷ []) ≡ None → first_fault (a ∷ b ∷ c ∷ []) ≡ c
pair_none (Some x) b c e = cc
pair_none None (Some x) c e = cc
pair_none None None None e = refl
pair_none None None (Some x) e = refl

-- the write at a place has the first fault of those that are left
pub checks_first : (schema : Schema) (writes : List Write) (k : ℕ) (fault : Fault) → write_fault schema (slice_get writes k) ≡ Some fault → check_writes schema (drop k writes) ≡ Some fault
checks_first schema [] k fault e = cc
checks_first schema (w ∷ ws) zero fault e = pair_first _ _ _ fault e
checks_first schema (w ∷ ws) (suc k) fault e = checks_first schema ws k fault e

checks_then : (schema : Schema) (writes : List Write) (k : ℕ) → write_fault schema (slice_get writes k) ≡ None → k < length writes → check_writes schema (drop k writes) ≡ check_writes schema (drop (suc k) writes)
checks_then schema [] k e less = absurd (omega arith)
checks_then schema (w ∷ ws) zero e less = pair_none _ _ _ e
checks_then schema (w ∷ ws) (suc k) e less = checks_then schema ws k e (omega arith)

pub checks_next : (schema : Schema) (writes : List Write) (k : ℕ) → write_fault schema (slice_get writes k) ≡ None → k < length writes → check_writes schema (drop k writes) ≡ check_writes schema (drop (k + 1) writes)
checks_next schema writes k e less = checks_then schema writes k e less ∙ ap (λ n. check_writes schema (drop n writes)) (let h : suc k ≡ k + 1 = omega arith in h)

-- writes that fit are of tables that there are
pub checks_placed : (schema : Schema) (writes : List Write) → check_writes schema writes ≡ None → ArePlaced (length schema) writes
checks_placed schema [] e = tt
checks_placed schema (w ∷ ws) e =
    let p = none_of_three _ _ _ e in
    (placed schema w.0.0 w.0.1 p.0, checks_placed schema ws p.2)
  where
    none_of_three : (a b c : Option Fault) → first_fault (a ∷ b ∷ c ∷ []) ≡ None → (a ≡ None) × (b ≡ None) × (c ≡ None)
    none_of_three None None None e = (refl, refl, refl)
    none_of_three (Some x) b c e = cc
    none_of_three None (Some x) c e = cc
    none_of_three None None (Some x) e = cc

    placed : (schema : Schema) (table : ℕ) (key : Rattle.occ_types.specs.Key.Key) → check_key schema table key ≡ None → table < length schema
    placed schema table key e = at (slice_get schema table) refl e
      where
        at : (o : Option Rattle.occ_types.specs.Schema.Table) → slice_get schema table ≡ o → (elim o as (λ _. Option Fault) [ None ↦ Some faults.NoTable | Some t ↦ Rattle.occ_types.specs.Schema.check_key_in t key ]) ≡ None → table < length schema
        at None is e = cc
        at (Some t) is e = slice_get-below schema table t is

-- The guards of an entry.

pub nest : (xs ys : List (Option Fault)) → first_fault (first_fault xs ∷ ys) ≡ first_fault (xs ++ ys)
nest [] ys = refl
nest (None ∷ xs) ys = nest xs ys
nest (Some f ∷ xs) ys = refl

pub nest_last : (xs ys : List (Option Fault)) → first_fault (xs ++ first_fault ys ∷ []) ≡ first_fault (xs ++ ys)
nest_last [] ys = alone (first_fault ys)
  where
    alone : (o : Option Fault) → first_fault (o ∷ []) ≡ o
    alone None = refl
    alone (Some f) = refl
nest_last (None ∷ xs) ys = nest_last xs ys
nest_last (Some f ∷ xs) ys = refl

without : (a b c : Option Fault) (others : List (Option Fault)) → first_fault (a ∷ b ∷ c ∷ None ∷ others) ≡ first_fault (a ∷ b ∷ c ∷ others)
without None None None others = refl
without (Some f) b c others = refl
without None (Some f) c others = refl
without None None (Some f) others = refl

pub busy_is : (parts : Parts) (session : ℕ) → AreSound parts → session_fault parts.slots session ≡ None → refusals.session_busy (world_of parts) session ≡ busy_fault (slice_get parts.slots (session - 1))
busy_is parts session sound free =
    let both = tests.and_true (nat_le 1 session) (nat_le session (length parts.slots)) (tests.not_false _ (not_refused _ faults.NoSession free)) in
    let from = leb-true 1 session both.0 in
    let below = leb-true session (length parts.slots) both.1 in
    let found = there parts.slots (session - 1) (omega arith) in
    let same : session ≡ suc (session - 1) = omega arith in
    ap (λ s. fault_if (is_held (world_of parts) s) faults.SessionBusy) same
    ∙ ap (λ b. fault_if b faults.SessionBusy) (held_world parts (session - 1) found.0 found.1) ∙ sym (ap busy_fault found.1)

pub counter_is : (parts : Parts) → AreSound parts → refusals.counter_exhausted (world_of parts) ≡ counter_fault parts.counter (length (active_from (found_at parts) parts.slots))
counter_is parts sound =
    ap (λ b. fault_if b faults.CounterExhausted) (
    upto MAX_COUNTER parts.counter (active_count (world_of parts)))
    ∙ ap (λ n. fault_if (nat_le (MAX_COUNTER - parts.counter) n) faults.CounterExhausted) (sym (active_counted parts sound))
  where
    upto : (m c a : ℕ) → nat_le m (c + a) ≡ nat_le (m - c) a
    upto m c a = tests.decided (nat_le m (c + a))
        (λ e. let h = leb-true m (c + a) e in e ∙ sym (le-leb (m - c) a (omega arith)))
        (λ e. tests.decided (nat_le (m - c) a)
        (λ f. let h = leb-true (m - c) a f in absurd (tests.clash (nat_le m (c + a)) (le-leb m (c + a) (omega arith)) e))
        (λ f. e ∙ sym f))

pub entry_refusal : (parts : Parts) (session number start : ℕ) (writes : List Write) → AreSound parts
    → refusal (world_of parts) (Enter session (Request number start writes))
    ≡ first_fault (turn_to_enter parts.slots parts.marks parts.phases parts.counter session number start ∷ room_to_enter parts.settings.schema parts.slots (length parts.log) (found_at parts) parts.counter writes ∷ [])
entry_refusal parts session number start writes sound =
    ap (λ o. first_fault (o ∷ refusals.session_closed w session ∷ refusals.not_due w session number ∷ refusals.session_busy w session ∷ None ∷ rest)) (session_is parts session sound)
    ∙ at (session_fault parts.slots session) refl
  where
    w : World
    w = world_of parts

    room : List (Option Fault)
    room = check_writes parts.settings.schema writes ∷ log_fault (length parts.log) ∷ counter_fault parts.counter (length (active_from (found_at parts) parts.slots)) ∷ []

    closed : Option Fault
    closed = closed_fault parts.marks session

    turn : Option Fault → List (Option Fault)
    turn o =
        o ∷ closed ∷ due_fault (last_of parts.slots (session - 1)) number ∷ busy_fault (slice_get parts.slots (session - 1)) ∷ spare_fault number ∷ start_fault (finite.get parts.phases (session, number)) parts.counter start ∷ []

    rest : List (Option Fault)
    rest = refusals.numbers_exhausted number ∷ refusals.wrong_start w session number start ∷ check_writes parts.settings.schema writes ∷ refusals.log_full w ∷ refusals.counter_exhausted w ∷ []

    at : (o : Option Fault) → session_fault parts.slots session ≡ o
        → first_fault (session_fault parts.slots session ∷ refusals.session_closed w session ∷ refusals.not_due w session number ∷ refusals.session_busy w session ∷ None ∷ rest)
        ≡ first_fault (first_fault (turn (session_fault parts.slots session)) ∷ first_fault room ∷ [])
    at (Some f) e =
        ap (λ o. first_fault (o ∷ refusals.session_closed w session ∷ refusals.not_due w session number ∷ refusals.session_busy w session ∷ None ∷ rest)) e
        ∙ sym (ap (λ o. first_fault (first_fault (turn o) ∷ first_fault room ∷ [])) e)
    at None e =
        ap (λ o. first_fault (o ∷ refusals.session_closed w session ∷ refusals.not_due w session number ∷ refusals.session_busy w session ∷ None ∷ rest)) e
        ∙ ap (λ last. first_fault (closed ∷ due_fault last number ∷ refusals.session_busy w session ∷ None ∷ rest)) (sym (last_is parts session sound e))
        ∙ ap (λ o. first_fault (closed ∷ due_fault (last_of parts.slots (session - 1)) number ∷ o ∷ None ∷ rest)) (busy_is parts session sound e)
        ∙ without closed (due_fault (last_of parts.slots (session - 1)) number) (busy_fault (slice_get parts.slots (session - 1))) rest
        ∙ ap (λ o. first_fault (closed ∷ due_fault (last_of parts.slots (session - 1)) number ∷ busy_fault (slice_get parts.slots (session - 1)) ∷ spare_fault number ∷ start_fault (finite.get parts.phases (session, number)) parts.counter start
        ∷ check_writes parts.settings.schema writes ∷ log_fault (length parts.log) ∷ o ∷ [])) (counter_is parts sound)
        ∙ sym (nest_last (turn None) room) ∙ sym (nest (turn None) (first_fault room ∷ []))
        ∙ sym (ap (λ o. first_fault (first_fault (turn o) ∷ first_fault room ∷ [])) e)

-- The case and the row of an entry.

low_same : (log : List LogRow) (counter low start : ℕ) → start ≤ low → finished_opponents log counter low start ≡ finished_opponents log counter low low
low_same [] counter low start less = refl
low_same (row ∷ rows) counter low start less =
    ap (λ b. writes_of (cond b (row ∷ filter (λ row. finished_within low counter row.standing && finished_within start counter row.standing) rows) (filter (λ row. finished_within low counter row.standing && finished_within start counter row.standing) rows))) (both row.standing)
    ∙ chosen (low_same rows counter low start less) (finished_within low counter row.standing && finished_within low counter row.standing)
  where
    chosen : finished_opponents rows counter low start ≡ finished_opponents rows counter low low → (b : Bool) → writes_of (cond b (row ∷ filter (λ row. finished_within low counter row.standing && finished_within start counter row.standing) rows) (filter (λ row. finished_within low counter row.standing && finished_within start counter row.standing) rows))
        ≡ writes_of (cond b (row ∷ filter (λ row. finished_within low counter row.standing && finished_within low counter row.standing) rows) (filter (λ row. finished_within low counter row.standing && finished_within low counter row.standing) rows))
    chosen rest true = ap (λ l. row.writes ∷ l) rest
    chosen rest false = rest

    within : (number : ℕ) → (nat_lt low number && nat_le number counter && (nat_lt start number && nat_le number counter)) ≡ (nat_lt low number && nat_le number counter && (nat_lt low number && nat_le number counter))
    within number = tests.decided (nat_lt low number)
        (λ e. let above = ltb-true low number e in ap (λ b. nat_lt low number && nat_le number counter && (b && nat_le number counter)) (lt-ltb start number (omega arith) ∙ sym e))
        (λ e. ap (λ b. b && nat_le number counter && (nat_lt start number && nat_le number counter)) e ∙ sym (ap (λ b. b && nat_le number counter && (nat_lt low number && nat_le number counter)) e))

    both : (s : Standing) → (finished_within low counter s && finished_within start counter s) ≡ (finished_within low counter s && finished_within low counter s)
    both (Open index case) = refl
    both (Writing done) = refl
    both (Done number) = within number
    both (Back cause) = refl

pub open_case : (parts : Parts) (world : World) → world_of parts ≡ world → AreSound parts → (session number start : ℕ) (writes : List Write) (case : Case)
    → case.start ≡ start → case.low ≡ low world → case.reads ≡ map (λ o. o.0) (reads_of (finite.get parts.phases (session, number))) → case.writes ≡ writes
    → case.finished ≡ drop (start - before_first parts) parts.window → case.active ≡ active_from (found_at parts) parts.slots → IsCaseOf world session number start writes case
open_case parts world seen sound session number start writes case start_is low_is reads_is writes_is finished_is active_is =
    subst (λ w. IsCaseOf w session number start writes case) seen (record {
      start_is = start_is;
      low_is = low_is ∙ ap low (sym seen);
      reads_are = reads_is ∙ ap (map (λ (o : Observation). o.0)) (sym (reads_are (finite.get parts.phases (session, number))));
      writes_are = writes_is;
      finished = λ test. ap (list_any test) finished_is ∙ in_window test;
      active = λ test. ap (list_any test) active_is ∙ active_same parts.log (found_at parts) parts.slots (finds_standing parts.base.place parts.log) sound.law.invariant.one_under_way sound.law.invariant.active_held
          (λ place slot hold at holds. row_found parts.base.place parts.log (suc place) hold ((sound.slots_true place slot at).row_is hold holds)) test;
    })
  where
    in_window : (test : List Write → Bool) → list_any test (drop (start - before_first parts) parts.window) ≡ list_any test (finished_opponents parts.log parts.counter (low_of parts) start)
    in_window test = tests.decided (nat_le (low_of parts) start)
        (λ e. sound.window_is start (leb-true (low_of parts) start e) test)
        (λ e. let under = leb-false (low_of parts) start e in
        let none : start - before_first parts ≡ low_of parts - before_first parts = (let size = sound.window_size in omega arith) in
        ap (λ n. list_any test (drop n parts.window)) none ∙ sound.window_is (low_of parts) (omega arith) test
        ∙ ap (list_any test) (sym (low_same parts.log parts.counter (low_of parts) start (omega arith))))

pub open_row : (parts : Parts) (world : World) → world_of parts ≡ world → (session number start : ℕ) (reads : List Observation) → reads ≡ reads_of (finite.get parts.phases (session, number))
    → (writes theirs : List Write) → theirs ≡ writes → (place : ℕ) → place ≡ parts.base.place + length parts.log → (case : Case) (standing : Standing) → standing ≡ Open place case
    → record { place = place; session = session; number = number; start = start; finish = parts.counter; reads = reads; writes = theirs; standing = standing } ≡ entering world session number start (reads_under world session number) writes (Open (next_place world) case)
open_row parts world seen session number start reads reads_is writes theirs same place place_is case standing stands =
    ap (λ s. record { place = place; session = session; number = number; start = start; finish = parts.counter; reads = reads; writes = theirs; standing = s }) stands
    ∙ (λ i. record { place = place_is i; session = session; number = number; start = start; finish = parts.counter; reads = reads_is i; writes = same i; standing = Open (place_is i) case })
    ∙ ap (λ r. record { place = next_place (world_of parts); session = session; number = number; start = start; finish = parts.counter; reads = r; writes = writes; standing = Open (next_place (world_of parts)) case }) (sym (reads_are (finite.get parts.phases (session, number))))
    ∙ ap (λ w. entering w session number start (reads_under w session number) writes (Open (next_place w) case)) seen

pub entry_turned : (parts : Parts) (world : World) → world_of parts ≡ world → (session number start : ℕ) (writes : List Write) → AreSound parts → (fault : Fault) → turn_to_enter parts.slots parts.marks parts.phases parts.counter session number start ≡ Some fault
    → refusal world (Enter session (Request number start writes)) ≡ Some fault
entry_turned parts world seen session number start writes sound fault told =
    ap (λ w. refusal w (Enter session (Request number start writes))) (sym seen) ∙ entry_refusal parts session number start writes sound
    ∙ ap (λ o. first_fault (o ∷ room_to_enter parts.settings.schema parts.slots (length parts.log) (found_at parts) parts.counter writes ∷ [])) told

pub entry_roomed : (parts : Parts) (world : World) → world_of parts ≡ world → (session number start : ℕ) (writes : List Write) → AreSound parts → turn_to_enter parts.slots parts.marks parts.phases parts.counter session number start ≡ None
    → refusal world (Enter session (Request number start writes)) ≡ room_to_enter parts.settings.schema parts.slots (length parts.log) (found_at parts) parts.counter writes
entry_roomed parts world seen session number start writes sound free =
    ap (λ w. refusal w (Enter session (Request number start writes))) (sym seen) ∙ entry_refusal parts session number start writes sound
    ∙ ap (λ o. first_fault (o ∷ room_to_enter parts.settings.schema parts.slots (length parts.log) (found_at parts) parts.counter writes ∷ [])) free
    ∙ nest_last [] (check_writes parts.settings.schema writes ∷ log_fault (length parts.log) ∷ counter_fault parts.counter (length (active_from (found_at parts) parts.slots)) ∷ [])

-- The entry.

-- the parts after the entry of a request
abbrev pub taken_in : Parts → List LogRow → FinMap phase_cmp ReadPhase → List Slot → Parts
taken_in parts log phases slots = record parts {
  settings = record parts.settings { sessions = length slots };
  log = log;
  phases = phases;
  slots = slots;
}

-- of what nothing refuses, the session is there and the writes fit
free_session : (w : World) (session number start : ℕ) (writes : List Write) → refusal w (Enter session (Request number start writes)) ≡ None → (nat_le 1 session && nat_le session w.settings.sessions) ≡ true
free_session w session number start writes none = tests.not_false _ (not_refused _ faults.NoSession (passed (refusals.no_session w session) _ none).0)

pub free_writes : (w : World) (session number start : ℕ) (writes : List Write) → refusal w (Enter session (Request number start writes)) ≡ None → check_writes w.settings.schema writes ≡ None
free_writes w session number start writes none =
    let a = passed (refusals.no_session w session) _ none in
    let b = passed (refusals.session_closed w session) _ a.1 in
    let c = passed (refusals.not_due w session number) _ b.1 in
    let d = passed (refusals.session_busy w session) _ c.1 in
    let f = passed (refusals.numbers_exhausted number) _ d.1 in
    let g = passed (refusals.wrong_start w session number start) _ f.1 in
    (passed (refusals.check_writes w.settings.schema writes) _ g.1).0

enter_done : (parts : Parts) (sound : AreSound parts) (session number start : ℕ) (writes : List Write) (none : refusal (world_of parts) (Enter session (Request number start writes)) ≡ None) (row : LogRow) (case : Case)
    → IsCaseOf (world_of parts) session number start writes case → row ≡ entering (world_of parts) session number start (reads_under (world_of parts) session number) writes (Open (next_place (world_of parts)) case)
    → (log : List LogRow) → log ≡ parts.log ++ row ∷ [] → (phases : FinMap phase_cmp ReadPhase) → phases ≡ finite.remove parts.phases (session, number)
    → (slots : List Slot) → slots ≡ slice_set parts.slots (session - 1) (record { last = number; hold = Some (record { place = row.place; writes = writes }) })
    → Step (world_of parts) (Enter session (Request number start writes)) (Entered row.place row.place) (world_of (taken_in parts log phases slots)) × AreSound (taken_in parts log phases slots)
enter_done parts sound session number start writes none row case is_case row_is log log_is phases phases_is slots slots_is =
    let both = tests.and_true (nat_le 1 session) (nat_le session parts.settings.sessions) (free_session (world_of parts) session number start writes none) in
    let from = leb-true 1 session both.0 in
    let below = leb-true session parts.settings.sessions both.1 in
    let count = sound.each_session in
    let found = there parts.slots (session - 1) (omega arith) in
    let same : suc (session - 1) ≡ session = omega arith in
    at (session - 1) same found.0 found.1 none is_case row_is phases_is slots_is
  where
    at : (k : ℕ) → suc k ≡ session → (slot : Slot) → slice_get parts.slots k ≡ Some slot
        → refusal (world_of parts) (Enter session (Request number start writes)) ≡ None
        → IsCaseOf (world_of parts) session number start writes case → row ≡ entering (world_of parts) session number start (reads_under (world_of parts) session number) writes (Open (next_place (world_of parts)) case)
        → phases ≡ finite.remove parts.phases (session, number)
        → slots ≡ slice_set parts.slots k (record { last = number; hold = Some (record { place = row.place; writes = writes }) })
        → Step (world_of parts) (Enter session (Request number start writes)) (Entered row.place row.place) (world_of (taken_in parts log phases slots)) × AreSound (taken_in parts log phases slots)
    at k same slot there none is_case row_is phases_is slots_is =
        let none' = subst (λ s. refusal (world_of parts) (Enter s (Request number start writes)) ≡ None) (sym same) none in
        let case' = subst (λ s. IsCaseOf (world_of parts) s number start writes case) (sym same) is_case in
        let place_is : row.place ≡ next_place (world_of parts) = ap (λ (r : LogRow). r.place) row_is in
        let row' : row ≡ moves.entered_row parts k number start writes (next_place (world_of parts)) case slot sound there none' case' =
        row_is ∙ ap (λ s. entering (world_of parts) s number start (reads_under (world_of parts) s number) writes (Open (next_place (world_of parts)) case)) (sym same) in
        let log' = sym (log_is ∙ ap (λ r. parts.log ++ r ∷ []) row') in
        let phases' = sym (phases_is ∙ ap (λ s. finite.remove parts.phases (s, number)) (sym same)) in
        let slots' : slice_set parts.slots k (record { last = number; hold = Some (record { place = next_place (world_of parts); writes = writes }) }) ≡ slots =
        sym (slots_is ∙ ap (λ p. slice_set parts.slots k (record { last = number; hold = Some (record { place = p; writes = writes }) })) place_is) in
        let count : parts.settings.sessions ≡ length slots = sym (ap length (sym slots') ∙ length-set parts.slots k _ ∙ sound.each_session) in
        let moved : moves.entered_parts parts k number start writes (next_place (world_of parts)) case slot sound there none' case' ≡ taken_in parts log phases slots =
        ap (λ l. record (moves.entered_parts parts k number start writes (next_place (world_of parts)) case slot sound there none' case') { log = l }) log'
        ∙ ap (λ p. record (moves.entered_parts parts k number start writes (next_place (world_of parts)) case slot sound there none' case') { log = log; phases = p }) phases'
        ∙ ap (λ s. record parts { log = log; phases = phases; slots = s }) slots'
        ∙ ap (λ n. record (taken_in parts log phases slots) { settings = record parts.settings { sessions = n } }) count in
        let next : ℕ = next_place (world_of parts) in
        let replied : Entered next next ≡ Entered row.place row.place = sym (λ i. Entered (place_is i) (place_is i)) in
        let step = moves.entered_step parts k number start writes (next_place (world_of parts)) case slot sound there none' case' in (
          subst (λ r. Step (world_of parts) (Enter session (Request number start writes)) r (world_of (taken_in parts log phases slots))) replied
              (subst (λ s. Step (world_of parts) (Enter s (Request number start writes)) (Entered next next) (world_of (taken_in parts log phases slots))) same
              (subst (λ p. Step (world_of parts) (Enter (suc k) (Request number start writes)) (Entered next next) (world_of p)) moved step)),
          subst AreSound moved (moves.entered_sound parts k number start writes (next_place (world_of parts)) case slot sound there none' case'),
        )

pub enter_whole : (parts : Parts) (world : World) → world_of parts ≡ world → AreSound parts → (session number start : ℕ) (writes : List Write) → refusal world (Enter session (Request number start writes)) ≡ None → (row : LogRow) (case : Case)
    → IsCaseOf world session number start writes case → row ≡ entering world session number start (reads_under world session number) writes (Open (next_place world) case)
    → (log : List LogRow) → log ≡ parts.log ++ row ∷ [] → (phases : FinMap phase_cmp ReadPhase) → phases ≡ finite.remove parts.phases (session, number)
    → (slots : List Slot) → slots ≡ slice_set parts.slots (session - 1) (record { last = number; hold = Some (record { place = row.place; writes = writes }) })
    → Step world (Enter session (Request number start writes)) (Entered row.place row.place) (world_of (taken_in parts log phases slots)) × AreSound (taken_in parts log phases slots)
enter_whole parts world seen sound session number start writes none row case is_case row_is log log_is phases phases_is slots slots_is =
    subst (λ w. refusal w (Enter session (Request number start writes)) ≡ None → IsCaseOf w session number start writes case → row ≡ entering w session number start (reads_under w session number) writes (Open (next_place w) case)
    → Step w (Enter session (Request number start writes)) (Entered row.place row.place) (world_of (taken_in parts log phases slots)) × AreSound (taken_in parts log phases slots)) seen
    (λ n c r. enter_done parts sound session number start writes n row case c r log log_is phases phases_is slots slots_is)
    none is_case row_is

-- the entry of a request is that of the item which it is
pub entry_of : (old new : World) (session number start : ℕ) (writes : List Write) (item : Item) (reply : Reply) → Step old (Enter session (Request number start writes)) reply new → Request number start writes ≡ item → Step old (Enter session item) reply new
entry_of old new session number start writes item reply step is = subst (λ i. Step old (Enter session i) reply new) is step

-- where the log was asked for room, which it has not, its rows are as they were
pub entry_roomless : (parts : Parts) (world : World) → world_of parts ≡ world → (session number start : ℕ) (writes : List Write) → refusal world (Enter session (Request number start writes)) ≡ None
    → (log : List LogRow) → log ≡ parts.log → Step world (Enter session (Request number start writes)) (Refused faults.Memory) (world_of (record parts { log = log }))
entry_roomless parts world seen session number start writes none log still =
    starved none refl refl (ap (λ l. world_of (record parts { log = l })) still ∙ seen)

pub sound_kept : (parts : Parts) → AreSound parts → (log : List LogRow) → log ≡ parts.log → AreSound (record parts { log = log })
sound_kept parts sound log still = subst (λ l. AreSound (record parts { log = l })) (sym still) sound

-- the place of the row of an entry
pub entering_place : (parts : Parts) (world : World) → world_of parts ≡ world → (session number start : ℕ) (reads : List Observation) (writes : List Write) (standing : Standing)
    → (entering world session number start reads writes standing).place ≡ parts.base.place + length parts.log
entering_place parts world seen session number start reads writes standing = ap next_place (sym seen)

-- the row of an entry, open, with its case
abbrev pub IsOpenRow : World → ℕ → ℕ → ℕ → List Write → LogRow → Type 0
IsOpenRow world session number start writes row =
    (case : Case) × IsCaseOf world session number start writes case × (row ≡ entering world session number start (reads_under world session number) writes (Open (next_place world) case))

-- it is the same where the writes are
pub open_row_kept : (world : World) (session number start : ℕ) (writes theirs : List Write) → theirs ≡ writes → (row : LogRow) → IsOpenRow world session number start theirs row → IsOpenRow world session number start writes row
open_row_kept world session number start writes theirs same row = subst (λ ws. IsOpenRow world session number start ws row) same

-- a session that may enter is numbered from one
pub enter_from : (parts : Parts) (world : World) → world_of parts ≡ world → (session number start : ℕ) (writes : List Write) → refusal world (Enter session (Request number start writes)) ≡ None → 1 ≤ session
enter_from parts world seen session number start writes none =
    let n = subst (λ w. refusal w (Enter session (Request number start writes)) ≡ None) (sym seen) none in
    leb-true 1 session (tests.and_true (nat_le 1 session) (nat_le session parts.settings.sessions) (free_session (world_of parts) session number start writes n)).0

-- the place of a session that may enter
pub enter_below : (parts : Parts) (world : World) → world_of parts ≡ world → AreSound parts → (session number start : ℕ) (writes : List Write) → refusal world (Enter session (Request number start writes)) ≡ None → session - 1 < length parts.slots
enter_below parts world seen sound session number start writes none =
    let n = subst (λ w. refusal w (Enter session (Request number start writes)) ≡ None) (sym seen) none in
    let both = tests.and_true (nat_le 1 session) (nat_le session parts.settings.sessions) (free_session (world_of parts) session number start writes n) in
    let from = leb-true 1 session both.0 in
    let below = leb-true session parts.settings.sessions both.1 in
    let count = sound.each_session in
    omega arith

pub enter_placed : (parts : Parts) (world : World) → world_of parts ≡ world → (session number start : ℕ) (writes : List Write) → refusal world (Enter session (Request number start writes)) ≡ None → ArePlaced (length parts.settings.schema) writes
enter_placed parts world seen session number start writes none =
    checks_placed parts.settings.schema writes (free_writes (world_of parts) session number start writes (subst (λ w. refusal w (Enter session (Request number start writes)) ≡ None) (sym seen) none))

-- a session that takes a row whose writes are of tables that there are
pub held_placed : (tables schema : ℕ) → tables ≡ schema → (slots : List Slot) (k number place : ℕ) (writes : List Write) → HoldsArePlaced tables slots → ArePlaced schema writes
    → (next : List Slot) → next ≡ slice_set slots k (record { last = number; hold = Some (record { place = place; writes = writes }) }) → HoldsArePlaced tables next
held_placed tables schema match slots k number place writes placed fit next is =
    subst (HoldsArePlaced tables) (sym is) (placed-set tables slots k (record { last = number; hold = Some (record { place = place; writes = writes }) }) placed
    (λ hold e. let same : record { place = place; writes = writes } ≡ hold = cc in
    subst (λ (h : Hold). ArePlaced tables h.writes) same (subst (λ n. ArePlaced n writes) (sym match) fit)))
