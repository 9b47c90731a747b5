-- What a transaction that ends in one step has to show, over plain parts.
use Rattle.std.proofs.Common.{◌≡◌, ℕ, zero, suc, ◌+◌, ◌-◌, ◌<◌, ◌≤◌, false, cond, List, [], ◌∷◌, ◌++◌, drop, length, Option, None, Some, refl, sym, ap, subst, ◌∙◌, arith, length-append, eqb-true, eq-eqb, ◌==◌, is_some, nat_le, slice_get, slice_set, if◌then◌else◌}
use Rattle.std.proofs.lemmas.Bool.{leb-true}
use Rattle.std.specs.FinMap as finite
use Rattle.std.specs.FinMap.{FinMap}
use Rattle.std.specs.FinSet as sets
use Rattle.occ_types.specs.declared.limits.TheConstants.{MAX_LOG_ROWS, MAX_COUNTER, MAX_NUMBER}
use Rattle.std.proofs.lemmas.Bool.{ne_eqb}
use Rattle.occ_model.specs.State.{State, Write, Observation, apply}
use Rattle.occ_model.specs.Log.{LogRow, Writing, Done, Back, is_active, last_folded}
use Rattle.occ_model.specs.Validity.{finished_opponents, AreSame, window_low}
use Rattle.occ_model.specs.World.{World, ReadPhase, phase_cmp, latest, active_count, is_held}
use Rattle.occ_model.specs.Invariant.{NumbersAreBelow}
use Rattle.occ_model.specs.Content.{IsLawful}
use Rattle.occ_model.specs.Step.{entering}
use Rattle.occ_model.specs.declared.verdict.Cause.{Cause}
use Rattle.occ_model.proofs.Logs.{standing_at}
use Rattle.occ_model.proofs.Tests as tests
use Rattle.occ_model.proofs.Turns.{latest-push}
use Rattle.occ_core.specs.AtOnce.{committed, backed, MayEnd}
use Rattle.occ_log.specs.SessionStates.{Slot, Hold, held_from}
use Rattle.occ_log.specs.Window.{Window, advanced}
use Rattle.occ_core.specs.CoreParts.{Parts, world_of, low_of, AreSound, before_first}
use Rattle.occ_core.proofs.Calls.{held_world}
use Rattle.occ_core.proofs.Moves.{each_slot}
use Rattle.occ_core.proofs.Placed.{has_push}
use Rattle.occ_log.proofs.Opponents.{finished-push}
use Rattle.occ_log.proofs.Places.{slice_get-below, count-push, length-set}
use Rattle.occ_core.proofs.ReadPhases.{there}
use Rattle.occ_log.proofs.Windows.{window_moved, moved_size, moved_window}

-- as many sessions are held where a slot takes another number alone
held-keep : (n : ℕ) (slots : List Slot) (place : ℕ) (slot next : Slot) → slice_get slots place ≡ Some slot → is_some next.hold ≡ is_some slot.hold → held_from n (slice_set slots place next) ≡ held_from n slots
held-keep n [] place slot next at same = refl
held-keep n (x ∷ xs) zero slot next at same =
    let is : x ≡ slot = cc in
    ap (λ b. cond b (sets.insert (held_from (suc n) xs) n) (held_from (suc n) xs)) (same ∙ ap (λ (s : Slot). is_some s.hold) (sym is))
held-keep n (x ∷ xs) (suc place) slot next at same =
    ap (λ h. cond (is_some x.hold) (sets.insert h n) h) (held-keep (suc n) xs place slot next at same)

-- a row that isn't finished leaves the numbers below the counter
below-push : (counter : ℕ) (rows : List LogRow) (row : LogRow) (done : ℕ) → NumbersAreBelow counter rows → NumbersAreBelow counter (rows ++ standing_at row (Writing done) ∷ [])
below-push counter [] row done below = (tt, tt)
below-push counter (x ∷ xs) row done below = (below.0, below-push counter xs row done below.1)

-- A row that is not under way comes in, and its session has had its number.
module _ (old : Parts) (place : ℕ) (slot : Slot) (row : LogRow) (sound : AreSound old) (at : slice_get old.slots place ≡ Some slot) (free : slot.hold ≡ None)
    (own : row.session ≡ suc place) (fits : row.number < MAX_NUMBER) (idle : is_active row.standing ≡ false) where
  abbrev pub passed_slots : List Slot
  passed_slots = slice_set old.slots place (record { last = row.number; hold = None })

  abbrev pub passed_parts : State → ℕ → FinMap phase_cmp ReadPhase → List (List Write) → Parts
  passed_parts table counter phases window = record old {
    log = old.log ++ row ∷ [];
    table = table;
    counter = counter;
    phases = phases;
    slots = passed_slots;
    window = window;
  }

  pub passed_held : held_from 1 passed_slots ≡ held_from 1 old.slots
  passed_held = held-keep 1 old.slots place slot (record { last = row.number; hold = None }) at (sym (ap is_some free))

  pub passed_sound : (table : State) (counter : ℕ) (phases : FinMap phase_cmp ReadPhase) (window : List (List Write))
      → IsLawful (world_of (passed_parts table counter phases window))
      → length window ≤ counter - window_low counter old.settings.keep
      → ((start : ℕ) → window_low counter old.settings.keep ≤ start → AreSame (drop (start - (counter - length window)) window) (finished_opponents (old.log ++ row ∷ []) counter (window_low counter old.settings.keep) start))
      → length old.log < MAX_LOG_ROWS → counter + active_count (world_of old) ≤ MAX_COUNTER
      → AreSound (passed_parts table counter phases window)
  passed_sound table counter phases window law size is log_left counter_left = record {
    law = law;
    each_session = length-set old.slots place _ ∙ sound.each_session;
    slots_true = each_slot (passed_parts table counter phases window) old.slots place _ (slice_get-below old.slots place slot at)
        (record {
          last_is = sym (ap (λ l. elim l as (λ _. ℕ) [ None ↦ last_folded old.base (suc place) | Some r ↦ r.number ])
              (latest-push (suc place) row old.log ∙ ap (λ b. if b then Some row else latest (suc place) old.log) (eq-eqb row.session (suc place) own)));
          last_fits = omega arith;
          row_is = λ hold (e : None ≡ Some hold). cc e;
        })
        (λ q other ne there. let s = sound.slots_true q other there in
        let apart : row.session ≡ suc q → ⊥ = λ e. ne (let f : suc q ≡ suc place = sym e ∙ own in omega arith) in
        record {
          last_is = s.last_is ∙ sym (ap (λ l. elim l as (λ _. ℕ) [ None ↦ last_folded old.base (suc q) | Some r ↦ r.number ])
              (latest-push (suc q) row old.log ∙ ap (λ b. if b then Some row else latest (suc q) old.log) (ne_eqb row.session (suc q) apart)));
          last_fits = s.last_fits;
          row_is = λ hold h. has_push old.base.place (suc q) hold old.log row apart (s.row_is hold h);
        });
    window_size = size;
    window_is = is;
    log_room = let e = length-append old.log (row ∷ []) in omega arith;
    place_room = sound.place_room;
    base_begins = sound.base_begins;
    counter_room = room counter (active_count (world_of old)) (active_count (world_of (passed_parts table counter phases window))) (cond (is_active row.standing) 1 0) (count-push old.log row) (ap (λ b. cond b 1 0) idle) counter_left;
  }
    where
      room : (counter was now more : ℕ) → now ≡ was + more → more ≡ 0 → counter + was ≤ MAX_COUNTER → counter + now ≤ MAX_COUNTER
      room counter was now more e z left = omega arith

-- the parts after a transaction that ended at once
abbrev pub ended_parts : Parts → List LogRow → State → ℕ → FinMap phase_cmp ReadPhase → List Slot → Window → Parts
ended_parts parts log table counter phases slots window = record {
  settings = record { schema = parts.settings.schema; sessions = length slots; keep = window.keep };
  base = parts.base;
  log = log;
  table = table;
  counter = counter;
  marks = parts.marks;
  phases = phases;
  slots = slots;
  window = window.sets;
}

-- the session's slot, which has nothing under way
record FreeSlot (parts : Parts) (session : ℕ) : Type 0 where
  pub place : ℕ
  pub session_is : session ≡ suc place
  pub place_is : place ≡ session - 1
  pub slot : Slot
  pub at : slice_get parts.slots place ≡ Some slot
  pub free : slot.hold ≡ None

free_slot : (parts : Parts) (session number : ℕ) → AreSound parts → MayEnd (world_of parts) session number → FreeSlot parts session
free_slot parts session number sound may =
    let both = tests.and_true (nat_le 1 session) (nat_le session parts.settings.sessions) may.exists in
    let from = leb-true 1 session both.0 in
    let below = leb-true session parts.settings.sessions both.1 in
    let count = sound.each_session in
    let found = there parts.slots (session - 1) (omega arith) in
    let same : session ≡ suc (session - 1) = omega arith in
    record {
      place = session - 1;
      session_is = same;
      place_is = refl;
      slot = found.0;
      at = found.1;
      free = none_held found.0.hold (sym (held_world parts (session - 1) found.0 found.1) ∙ ap (is_held (world_of parts)) (sym same) ∙ may.free);
    }
  where
    none_held : (h : Option Hold) → is_some h ≡ false → h ≡ None
    none_held None e = refl
    none_held (Some hold) e = cc

-- The end that commits.

commit_done : (parts : Parts) → AreSound parts → (session number start : ℕ) (reads : List Observation) (writes : List Write) → MayEnd (world_of parts) session number
    → IsLawful (committed (world_of parts) session number start reads writes)
    → (row : LogRow) → row ≡ entering (world_of parts) session number start reads writes (Done (parts.counter + 1))
    → (log : List LogRow) → log ≡ parts.log ++ row ∷ [] → (table : State) → table ≡ apply parts.table writes
    → (phases : FinMap phase_cmp ReadPhase) → phases ≡ finite.remove parts.phases (session, number)
    → (slots : List Slot) → slots ≡ slice_set parts.slots (session - 1) (record { last = number; hold = None })
    → (window : Window) → window ≡ advanced (record { keep = parts.settings.keep; sets = parts.window }) writes
    → (world_of (ended_parts parts log table (parts.counter + 1) phases slots window) ≡ committed (world_of parts) session number start reads writes)
    × AreSound (ended_parts parts log table (parts.counter + 1) phases slots window)
commit_done parts sound session number start reads writes may lawful row row_is log log_is table table_is phases phases_is slots slots_is window window_is =
    (ap world_of (sym moved) ∙ worlds, subst AreSound moved passed)
  where
    s : FreeSlot parts session
    s = free_slot parts session number sound may

    own : LogRow
    own = entering (world_of parts) session number start reads writes (Done (parts.counter + 1))

    sets_now : List (List Write)
    sets_now = moved_window parts.settings.keep parts.window writes

    whole : Parts
    whole = passed_parts parts s.place s.slot own sound s.at s.free s.session_is may.number_fits refl (apply parts.table writes) (parts.counter + 1) (finite.remove parts.phases (session, number)) sets_now

    worlds : world_of whole ≡ committed (world_of parts) session number start reads writes
    worlds = ap (λ h. record (committed (world_of parts) session number start reads writes) { held = h }) (passed_held parts s.place s.slot own sound s.at s.free s.session_is may.number_fits refl)

    is : (begin : ℕ) → low_of parts ≤ begin → AreSame (drop (begin - before_first parts) parts.window) (finished_opponents (parts.log ++ standing_at own (Writing 0) ∷ []) parts.counter (low_of parts) begin)
    is begin above test = sound.window_is begin above test ∙ sym (finished-push test parts.log (standing_at own (Writing 0)) parts.counter (low_of parts) begin refl)

    passed : AreSound whole
    passed = passed_sound parts s.place s.slot own sound s.at s.free s.session_is may.number_fits refl (apply parts.table writes) (parts.counter + 1) (finite.remove parts.phases (session, number)) sets_now
        (subst IsLawful (sym worlds) lawful)
        (moved_size parts.log [] (standing_at own (Writing 0)) parts.window parts.counter parts.settings.keep (below-push parts.counter parts.log own 0 sound.law.invariant.below) (λ bound. refl) sound.window_size is)
        (window_moved parts.log [] (standing_at own (Writing 0)) parts.window parts.counter parts.settings.keep (below-push parts.counter parts.log own 0 sound.law.invariant.below) (λ bound. refl) sound.window_size is)
        may.log_room
        (let r = may.counter_room in one_more parts.counter (active_count (world_of parts)) r)
      where
        one_more : (counter active : ℕ) → counter + active < MAX_COUNTER → (counter + 1) + active ≤ MAX_COUNTER
        one_more counter active less = omega arith

    moved : whole ≡ ended_parts parts log table (parts.counter + 1) phases slots window
    moved =
        let log' : parts.log ++ own ∷ [] ≡ log = sym (log_is ∙ ap (λ r. parts.log ++ r ∷ []) row_is) in
        let slots' : slice_set parts.slots s.place (record { last = number; hold = None }) ≡ slots = ap (λ p. slice_set parts.slots p (record { last = number; hold = None })) s.place_is ∙ sym slots_is in
        let count : parts.settings.sessions ≡ length slots = sym (ap length (sym slots') ∙ length-set parts.slots s.place _ ∙ sound.each_session) in
        let keeps : parts.settings.keep ≡ window.keep = sym (ap (λ (w : Window). w.keep) window_is) in
        let sets' : sets_now ≡ window.sets = sym (ap (λ (w : Window). w.sets) window_is) in
        λ i. record {
          settings = record { schema = parts.settings.schema; sessions = count i; keep = keeps i };
          base = parts.base;
          log = log' i;
          table = sym table_is i;
          counter = parts.counter + 1;
          marks = parts.marks;
          phases = sym phases_is i;
          slots = slots' i;
          window = sets' i;
        }

pub commit_whole : (parts : Parts) (world : World) → world_of parts ≡ world → AreSound parts → (session number start : ℕ) (reads : List Observation) (writes : List Write) → MayEnd world session number
    → IsLawful (committed world session number start reads writes)
    → (row : LogRow) → row ≡ entering world session number start reads writes (Done (parts.counter + 1))
    → (log : List LogRow) → log ≡ parts.log ++ row ∷ [] → (table : State) → table ≡ apply parts.table writes
    → (phases : FinMap phase_cmp ReadPhase) → phases ≡ finite.remove parts.phases (session, number)
    → (slots : List Slot) → slots ≡ slice_set parts.slots (session - 1) (record { last = number; hold = None })
    → (window : Window) → window ≡ advanced (record { keep = parts.settings.keep; sets = parts.window }) writes
    → (world_of (ended_parts parts log table (parts.counter + 1) phases slots window) ≡ committed world session number start reads writes)
    × AreSound (ended_parts parts log table (parts.counter + 1) phases slots window)
commit_whole parts world seen sound session number start reads writes may lawful row row_is log log_is table table_is phases phases_is slots slots_is window window_is =
    subst (λ w. MayEnd w session number → IsLawful (committed w session number start reads writes) → row ≡ entering w session number start reads writes (Done (parts.counter + 1))
    → (world_of (ended_parts parts log table (parts.counter + 1) phases slots window) ≡ committed w session number start reads writes) × AreSound (ended_parts parts log table (parts.counter + 1) phases slots window)) seen
    (λ m l r. commit_done parts sound session number start reads writes m l row r log log_is table table_is phases phases_is slots slots_is window window_is)
    may lawful row_is

-- The end that backs up.

back_done : (parts : Parts) → AreSound parts → (session number start : ℕ) (reads : List Observation) (writes : List Write) (cause : Cause) → MayEnd (world_of parts) session number
    → IsLawful (backed (world_of parts) session number start reads writes cause)
    → (row : LogRow) → row ≡ entering (world_of parts) session number start reads writes (Back cause)
    → (log : List LogRow) → log ≡ parts.log ++ row ∷ []
    → (phases : FinMap phase_cmp ReadPhase) → phases ≡ finite.remove parts.phases (session, number)
    → (slots : List Slot) → slots ≡ slice_set parts.slots (session - 1) (record { last = number; hold = None })
    → (world_of (ended_parts parts log parts.table parts.counter phases slots (record { keep = parts.settings.keep; sets = parts.window })) ≡ backed (world_of parts) session number start reads writes cause)
    × AreSound (ended_parts parts log parts.table parts.counter phases slots (record { keep = parts.settings.keep; sets = parts.window }))
back_done parts sound session number start reads writes cause may lawful row row_is log log_is phases phases_is slots slots_is =
    (ap world_of (sym moved) ∙ worlds, subst AreSound moved passed)
  where
    s : FreeSlot parts session
    s = free_slot parts session number sound may

    own : LogRow
    own = entering (world_of parts) session number start reads writes (Back cause)

    whole : Parts
    whole = passed_parts parts s.place s.slot own sound s.at s.free s.session_is may.number_fits refl parts.table parts.counter (finite.remove parts.phases (session, number)) parts.window

    worlds : world_of whole ≡ backed (world_of parts) session number start reads writes cause
    worlds = ap (λ h. record (backed (world_of parts) session number start reads writes cause) { held = h }) (passed_held parts s.place s.slot own sound s.at s.free s.session_is may.number_fits refl)

    passed : AreSound whole
    passed = passed_sound parts s.place s.slot own sound s.at s.free s.session_is may.number_fits refl parts.table parts.counter (finite.remove parts.phases (session, number)) parts.window
        (subst IsLawful (sym worlds) lawful)
        sound.window_size
        (λ begin above test. sound.window_is begin above test ∙ sym (finished-push test parts.log own parts.counter (low_of parts) begin refl))
        may.log_room
        sound.counter_room

    moved : whole ≡ ended_parts parts log parts.table parts.counter phases slots (record { keep = parts.settings.keep; sets = parts.window })
    moved =
        let log' : parts.log ++ own ∷ [] ≡ log = sym (log_is ∙ ap (λ r. parts.log ++ r ∷ []) row_is) in
        let slots' : slice_set parts.slots s.place (record { last = number; hold = None }) ≡ slots = ap (λ p. slice_set parts.slots p (record { last = number; hold = None })) s.place_is ∙ sym slots_is in
        let count : parts.settings.sessions ≡ length slots = sym (ap length (sym slots') ∙ length-set parts.slots s.place _ ∙ sound.each_session) in
        λ i. record {
          settings = record { schema = parts.settings.schema; sessions = count i; keep = parts.settings.keep };
          base = parts.base;
          log = log' i;
          table = parts.table;
          counter = parts.counter;
          marks = parts.marks;
          phases = sym phases_is i;
          slots = slots' i;
          window = parts.window;
        }

pub back_whole : (parts : Parts) (world : World) → world_of parts ≡ world → AreSound parts → (session number start : ℕ) (reads : List Observation) (writes : List Write) (cause : Cause) → MayEnd world session number
    → IsLawful (backed world session number start reads writes cause)
    → (row : LogRow) → row ≡ entering world session number start reads writes (Back cause)
    → (log : List LogRow) → log ≡ parts.log ++ row ∷ []
    → (phases : FinMap phase_cmp ReadPhase) → phases ≡ finite.remove parts.phases (session, number)
    → (slots : List Slot) → slots ≡ slice_set parts.slots (session - 1) (record { last = number; hold = None })
    → (world_of (ended_parts parts log parts.table parts.counter phases slots (record { keep = parts.settings.keep; sets = parts.window })) ≡ backed world session number start reads writes cause)
    × AreSound (ended_parts parts log parts.table parts.counter phases slots (record { keep = parts.settings.keep; sets = parts.window }))
back_whole parts world seen sound session number start reads writes cause may lawful row row_is log log_is phases phases_is slots slots_is =
    subst (λ w. MayEnd w session number → IsLawful (backed w session number start reads writes cause) → row ≡ entering w session number start reads writes (Back cause)
    → (world_of (ended_parts parts log parts.table parts.counter phases slots (record { keep = parts.settings.keep; sets = parts.window })) ≡ backed w session number start reads writes cause)
    × AreSound (ended_parts parts log parts.table parts.counter phases slots (record { keep = parts.settings.keep; sets = parts.window }))) seen
    (λ m l r. back_done parts sound session number start reads writes cause m l row r log log_is phases phases_is slots slots_is)
    may lawful row_is
