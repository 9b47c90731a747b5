-- Each call of the core moves the parts as a step moves the world.
use Rattle.std.proofs.Common.{◌≡◌, ℕ, zero, suc, ◌+◌, ◌<◌, ◌≤◌, Bool, false, cond, List, [], ◌∷◌, ◌++◌, length, None, Some, refl, sym, ap, subst, ◌∙◌, arith, length-append, eqb-true, eq-eqb, inl, inr, MatchOption, slice_get, slice_set, ◌==◌, if◌then◌else◌}
use Rattle.std.proofs.lemmas.Bool.{leb-false}
use Rattle.std.specs.FinMap as finite
use Rattle.std.specs.FinSet as sets
use Rattle.occ_types.specs.declared.fault.Fault.TheVariants as faults
use Rattle.occ_types.specs.declared.limits.TheConstants.{MAX_LOG_ROWS, MAX_COUNTER, MAX_NUMBER}
use Rattle.occ_types.specs.Question.{Question}
use Rattle.std.proofs.lemmas.Bool.{ne_eqb}
use Rattle.occ_model.specs.State.{Write, answer, put}
use Rattle.occ_model.specs.Log.{Base, LogRow, Standing, Open, Writing, Done, Case, last_folded, is_active}
use Rattle.occ_model.specs.Validity.{finished_within, verdict, window_low}
use Rattle.occ_model.specs.World.{World, low, latest, turn, active_count, next_place, reads_under}
use Rattle.occ_model.specs.Event.{Request, Read, Enter, Decide, WriteOne, Finish, BackUp, Answered, Entered, Decided, Wrote, NoMore, Finished, BackedUp}
use Rattle.occ_model.specs.Refusal as refusals
use Rattle.occ_model.specs.Refusal.{refusal, refusal_of_request}
use Rattle.occ_model.specs.Step.{Step, taken, IsCaseOf, entering, entered, read_more, decided, finished}
use Rattle.occ_model.specs.Invariant.{NumbersAreBelow}
use Rattle.occ_model.specs.declared.verdict.Verdict.{Verdict}
use Rattle.occ_model.specs.declared.verdict.Verdict.TheVariants as verdicts
use Rattle.occ_model.proofs.Tests as tests
use Rattle.occ_model.proofs.Logs.{standing_at}
use Rattle.occ_model.proofs.Turns.{latest-push}
use Rattle.occ_model.proofs.Phases.{not_refused}
use Rattle.occ_model.proofs.Admitted.{passed}
use Rattle.occ_model.proofs.InSchema.{keeps_lawful}
use Rattle.occ_log.specs.SessionStates.{Slot, Hold, held_from, IsHeldAt}
use Rattle.occ_core.specs.CoreParts.{Parts, world_of, low_of, Stands, HasRow, AreSound, SlotIsTrue}
use Rattle.occ_core.proofs.Placed.{has_push}
use Rattle.occ_log.proofs.Holding.{held-hold, held-free}
use Rattle.occ_log.proofs.Opponents.{some_finished, finished-push, finished-turn}
use Rattle.occ_log.proofs.Windows.{moved_window, window_moved, moved_size}
use Rattle.occ_log.proofs.Places.{held-get, latest-none-set, slice_get-other, slice_get-below, held_latest, turn-at, held-set-own, held-set-other, held-push-own, held-session, split-at, latest_number_or, number-set, count-push, count-set, length-set}

-- what a slot says stands where the log and the base stand
pub slot_same : (old new : Parts) → new.base ≡ old.base → new.log ≡ old.log → (place : ℕ) (slot : Slot) → SlotIsTrue old place slot → SlotIsTrue new place slot
slot_same old new based same place slot true' = record {
  last_is = true'.last_is ∙ (λ i. latest_number_or (last_folded (sym based i) (suc place)) (suc place) (sym same i));
  last_fits = true'.last_fits;
  row_is = λ hold is. subst (λ (b : Base). HasRow b.place new.log (suc place) hold) (sym based) (subst (λ l. HasRow old.base.place l (suc place) hold) (sym same) (true'.row_is hold is));
}

-- A question that was read.
pub read_moves : (old : Parts) (session number start : ℕ) (question : Question) → AreSound old → refusal (world_of old) (Read session number start question) ≡ None
    → AreSound (record old { phases = (read_more (world_of old) session number start question).phases })
read_moves old session number start question sound none = record {
  law = keeps_lawful (world_of old) (Read session number start question) (Answered (answer question old.table)) (read_more (world_of old) session number start question) sound.law (taken none (refl, refl));
  each_session = sound.each_session;
  slots_true = λ place slot at. slot_same old (record old { phases = (read_more (world_of old) session number start question).phases }) refl refl place slot (sound.slots_true place slot at);
  window_size = sound.window_size;
  window_is = sound.window_is;
  log_room = sound.log_room;
  place_room = sound.place_room;
  base_begins = sound.base_begins;
  counter_room = sound.counter_room;
}

-- a slot of a session, replaced: what is said of each holds of the new one and of the others
pub each_slot : (parts : Parts) (slots : List Slot) (place : ℕ) (slot : Slot) → place < length slots
    → SlotIsTrue parts place slot
    → ((q : ℕ) (other : Slot) → (q ≡ place → ⊥) → slice_get slots q ≡ Some other → SlotIsTrue parts q other)
    → (q : ℕ) (other : Slot) → slice_get (slice_set slots place slot) q ≡ Some other → SlotIsTrue parts q other
each_slot parts slots place slot less own others q other at = tests.decided (q == place)
    (λ e. let same : q ≡ place = eqb-true q place e in
    let here : Some slot ≡ Some other = sym (there slots place less) ∙ ap (slice_get (slice_set slots place slot)) (sym same) ∙ at in
    let is : slot ≡ other = cc in
    subst (λ k. SlotIsTrue parts k other) (sym same) (subst (SlotIsTrue parts place) is own))
    (λ e. let ne : q ≡ place → ⊥ = λ is. tests.clash (q == place) (eq-eqb q place is) e in
    others q other ne (sym (slice_get-other slots place q slot ne) ∙ at))
  where
    there : (xs : List Slot) (k : ℕ) → k < length xs → slice_get (slice_set xs k slot) k ≡ Some slot
    there [] k less = absurd (omega arith)
    there (x ∷ xs) zero less = refl
    there (x ∷ xs) (suc k) less = there xs k (omega arith)

-- the guards of an entry that leave room
room_left : (w : World) (session number start : ℕ) (writes : List Write) → refusal_of_request w None session number start writes ≡ None
    → (length w.log < MAX_LOG_ROWS) × (w.counter + active_count w < MAX_COUNTER) × (number < MAX_NUMBER)
room_left w session number start writes none =
    let a = passed (refusals.no_session w session) _ none in
    let b = passed (refusals.session_closed w session) _ a.1 in
    let c = passed (refusals.not_due w session number) _ b.1 in
    let d = passed (refusals.session_busy w session) _ c.1 in
    let f = passed (refusals.numbers_exhausted number) _ d.1 in
    let g = passed (refusals.wrong_start w session number start) _ f.1 in
    let h = passed (refusals.check_writes w.settings.schema writes) _ g.1 in
    let i = passed (refusals.log_full w) _ h.1 in
    let j = passed (refusals.counter_exhausted w) _ i.1 in (
      leb-false MAX_LOG_ROWS (length w.log) (not_refused _ faults.LogFull i.0),
      leb-false MAX_COUNTER (w.counter + active_count w) (not_refused _ faults.CounterExhausted j.0),
      leb-false MAX_NUMBER number (not_refused _ faults.NumbersExhausted f.0),
    )

-- A request that entered: its row stands at the end of the log, and its session's slot has its number and its place.
module _ (old : Parts) (place number start : ℕ) (writes : List Write) (index : ℕ) (case : Case) (slot : Slot) (sound : AreSound old)
    (at : slice_get old.slots place ≡ Some slot) (none : refusal (world_of old) (Enter (suc place) (Request number start writes)) ≡ None)
    (is_case : IsCaseOf (world_of old) (suc place) number start writes case) where
  abbrev pub entered_row : LogRow
  entered_row = entering (world_of old) (suc place) number start (reads_under (world_of old) (suc place) number) writes (Open index case)

  abbrev pub entered_parts : Parts
  entered_parts = record old {
    log = old.log ++ entered_row ∷ [];
    phases = finite.remove old.phases (suc place, number);
    slots = slice_set old.slots place (record { last = number; hold = Some (record { place = next_place (world_of old); writes = writes }) });
  }

  less : place < length old.slots
  less = slice_get-below old.slots place slot at

  pub entered_world : world_of entered_parts ≡ entered (world_of old) (suc place) number start writes index case
  entered_world =
      let e : 1 + place ≡ suc place = omega arith in
      ap (λ h. record (world_of entered_parts) { held = h })
      (sym (held-hold 1 old.slots place (record { last = number; hold = Some (record { place = next_place (world_of old); writes = writes }) }) less refl) ∙ ap (sets.insert (held_from 1 old.slots)) e)

  pub entered_step : Step (world_of old) (Enter (suc place) (Request number start writes)) (Entered (next_place (world_of old)) index) (world_of entered_parts)
  entered_step = taken none (index, case, is_case, refl, entered_world)

  room : (length old.log < MAX_LOG_ROWS) × (old.counter + active_count (world_of old) < MAX_COUNTER) × (number < MAX_NUMBER)
  room = room_left (world_of old) (suc place) number start writes none

  pub entered_sound : AreSound entered_parts
  entered_sound = record {
    law = keeps_lawful (world_of old) (Enter (suc place) (Request number start writes)) (Entered (next_place (world_of old)) index) (world_of entered_parts) sound.law entered_step;
    each_session = length-set old.slots place _ ∙ sound.each_session;
    slots_true = each_slot entered_parts old.slots place _ less
        (record {
          last_is = sym (ap (λ l. elim l as (λ _. ℕ) [ None ↦ last_folded old.base (suc place) | Some row ↦ row.number ])
              (latest-push (suc place) entered_row old.log ∙ ap (λ b. if b then Some entered_row else latest (suc place) old.log) (eq-eqb (suc place) (suc place) refl)));
          last_fits = let r = room.2 in omega arith;
          row_is = λ hold is. subst (HasRow old.base.place (old.log ++ entered_row ∷ []) (suc place)) (inside hold is) (inl (record {
            index = length old.log;
            place_is = refl;
            row = entered_row;
            there = held-push-own (suc place) old.log entered_row refl;
            writes_are = refl;
          }));
        })
        (λ q other ne there. let s = sound.slots_true q other there in
        let apart : suc place ≡ suc q → ⊥ = λ e. ne (let f : q ≡ place = omega arith in f) in
        record {
          last_is = s.last_is ∙ sym (ap (λ l. elim l as (λ _. ℕ) [ None ↦ last_folded old.base (suc q) | Some row ↦ row.number ])
              (latest-push (suc q) entered_row old.log ∙ ap (λ b. if b then Some entered_row else latest (suc q) old.log) (ne_eqb (suc place) (suc q) apart)));
          last_fits = s.last_fits;
          row_is = λ hold is. has_push old.base.place (suc q) hold old.log entered_row apart (s.row_is hold is);
        });
    window_size = sound.window_size;
    window_is = λ from above test. sound.window_is from above test ∙ sym (finished-push test old.log entered_row old.counter (low_of old) from refl);
    log_room = let r = room.0 in let e = length-append old.log (entered_row ∷ []) in omega arith;
    place_room = sound.place_room;
    base_begins = sound.base_begins;
    counter_room = let r = room.1 in let e = count-push old.log entered_row in omega arith;
  }
    where
      inside : (hold : Hold) → Some (record { place = next_place (world_of old); writes = writes }) ≡ Some hold → record { place = next_place (world_of old); writes = writes } ≡ hold
      inside hold e = cc

-- the room under the greatest counter stays where a row turns, and where one finishes
room_kept : (counter new old was now : ℕ) → new + was ≡ old + now → was ≡ 1 → now ≤ 1 → counter + old ≤ MAX_COUNTER → counter + new ≤ MAX_COUNTER
room_kept counter new old was now c a n r = omega arith

room_used : (counter new old was : ℕ) → new + was ≡ old + 0 → was ≡ 1 → counter + old ≤ MAX_COUNTER → (counter + 1) + new ≤ MAX_COUNTER
room_used counter new old was c a r = omega arith

-- A session's row that is under way takes another standing.
module _ (old : Parts) (place : ℕ) (slot : Slot) (index : ℕ) (row : LogRow) (sound : AreSound old) (at : slice_get old.slots place ≡ Some slot)
    (there : IsHeldAt (suc place) index old.log row) where
  abbrev pub turned_log : Standing → List LogRow
  turned_log standing = slice_set old.log index (standing_at row standing)

  is_there : slice_get old.log index ≡ Some row
  is_there = held-get (suc place) index old.log row there

  pub turned_is : (standing : Standing) → turn (suc place) standing old.log ≡ turned_log standing
  turned_is standing = turn-at (suc place) index standing old.log row there

  -- what the slots say of the log after it
  slots_turned : (new : Parts) (standing : Standing) → new.base ≡ old.base → new.log ≡ turned_log standing → (q : ℕ) (other : Slot) → SlotIsTrue old q other → SlotIsTrue new q other
  slots_turned new standing based is q other s = record {
    last_is = s.last_is ∙ sym ((λ i. latest_number_or (last_folded (based i) (suc q)) (suc q) (is i))
        ∙ number-set (last_folded old.base (suc q)) (suc q) index old.log row (standing_at row standing) is_there refl refl);
    last_fits = s.last_fits;
    row_is = λ h e. subst (λ (b : Base). HasRow b.place new.log (suc q) h) (sym based) (subst (λ l. HasRow old.base.place l (suc q) h) (sym is) (has_turned h (s.row_is h e)));
  }
    where
      -- a session's latest row stands at one place
      held-place : (session p k : ℕ) (log : List LogRow) (r : LogRow) → IsHeldAt session p log r → IsHeldAt session k log r → p ≡ k
      held-place session p k [] r a b = absurd a
      held-place session zero zero (x ∷ xs) r a b = refl
      held-place session zero (suc k) (x ∷ xs) r a b = absurd (clash (sym a.2 ∙ held_latest session k xs r b))
        where
          clash : None ≡ Some r → ⊥
          clash e = cc
      held-place session (suc p) zero (x ∷ xs) r a b = absurd (clash (sym b.2 ∙ held_latest session p xs r a))
        where
          clash : None ≡ Some r → ⊥
          clash e = cc
      held-place session (suc p) (suc k) (x ∷ xs) r a b = ap suc (held-place session p k xs r a b)

      -- the row of a session, which may be the one that turns
      stands_turned : (h : Hold) → Stands old.base.place old.log (suc q) h → Stands old.base.place (turned_log standing) (suc q) h
      stands_turned h r = tests.decided (q == place)
          (λ yes. let same : q ≡ place = eqb-true q place yes in
          let mine = subst (λ k. IsHeldAt (suc k) r.index old.log r.row) same r.there in
          let e : Some r.row ≡ Some row = sym (held_latest (suc place) r.index old.log r.row mine) ∙ held_latest (suc place) index old.log row there in
          let equal : r.row ≡ row = cc in
          let p : r.index ≡ index = held-place (suc place) r.index index old.log row (subst (IsHeldAt (suc place) r.index old.log) equal mine) there in
          record {
            index = r.index;
            place_is = r.place_is;
            row = standing_at row standing;
            there = subst (λ k. IsHeldAt (suc k) r.index (turned_log standing) (standing_at row standing)) (sym same)
                (subst (λ p. IsHeldAt (suc place) p (turned_log standing) (standing_at row standing)) (sym p) (held-set-own (suc place) index old.log row (standing_at row standing) refl there));
            writes_are = r.writes_are ∙ ap (λ x. x.writes) equal;
          })
          (λ no.
          let ne : q ≡ place → ⊥ = λ e. tests.clash (q == place) (eq-eqb q place e) no in
          let far : r.index ≡ index → ⊥ = λ p.
          let both : Some r.row ≡ Some row = sym (held-get (suc q) r.index old.log r.row r.there) ∙ ap (slice_get old.log) p ∙ is_there in
          let equal : r.row ≡ row = cc in
          let sessions : suc q ≡ suc place = sym (held-session (suc q) r.index old.log r.row r.there) ∙ ap (λ x. x.session) equal ∙ held-session (suc place) index old.log row there in
          ne (omega arith) in
          record {
            index = r.index;
            place_is = r.place_is;
            row = r.row;
            there = held-set-other (suc q) r.index index old.log r.row row (standing_at row standing) far is_there refl r.there;
            writes_are = r.writes_are;
          })

      has_turned : (h : Hold) → HasRow old.base.place old.log (suc q) h → HasRow old.base.place (turned_log standing) (suc q) h
      has_turned h (inl r) = inl (stands_turned h r)
      has_turned h (inr g) = inr (record { before = g.before; none = latest-none-set (suc q) index old.log row (standing_at row standing) is_there refl g.none })

  -- a row that is not finished, before and after, leaves what has finished
  finished_same : (test : List Write → Bool) (standing : Standing) (low start : ℕ) → finished_within low old.counter row.standing ≡ false → finished_within low old.counter standing ≡ false
      → some_finished test (turned_log standing) old.counter low start ≡ some_finished test old.log old.counter low start
  finished_same test standing low start was now =
      let s = split-at old.log index row is_there in
      ap (λ l. some_finished test l old.counter low start) (s.now (standing_at row standing))
      ∙ finished-turn test s.before s.later row standing old.counter low start was now
      ∙ sym (ap (λ l. some_finished test l old.counter low start) s.was)

  -- The decision.
  module _ (case_index : ℕ) (case : Case) (stands : row.standing ≡ Open case_index case) (none : refusal (world_of old) (Decide (suc place)) ≡ None) where
    abbrev pub decided_parts : Parts
    decided_parts = record old { log = turned_log (decided (verdict case)) }

    pub decided_step : Step (world_of old) (Decide (suc place)) (Decided (verdict case)) (world_of decided_parts)
    decided_step = taken none (
      row,
      case_index,
      case,
      held_latest (suc place) index old.log row there,
      stands,
      refl,
      ap (λ l. record (world_of old) { log = l }) (sym (turned_is (decided (verdict case)))),
    )

    never_finished : (v : Verdict) (low : ℕ) → finished_within low old.counter (decided v) ≡ false
    never_finished verdicts.Commit low = refl
    never_finished (verdicts.BackUp cause) low = refl

    no_more_active : (v : Verdict) → cond (is_active (decided v)) 1 0 ≤ 1
    no_more_active verdicts.Commit = omega arith
    no_more_active (verdicts.BackUp cause) = omega arith

    pub decided_sound : AreSound decided_parts
    decided_sound = record {
      law = keeps_lawful (world_of old) (Decide (suc place)) (Decided (verdict case)) (world_of decided_parts) sound.law decided_step;
      each_session = sound.each_session;
      slots_true = λ q other e. slots_turned decided_parts (decided (verdict case)) refl refl q other (sound.slots_true q other e);
      window_size = sound.window_size;
      window_is = λ start above test. sound.window_is start above test
          ∙ sym (finished_same test (decided (verdict case)) (low_of old) start (ap (finished_within (low_of old) old.counter) stands) (never_finished (verdict case) (low_of old)));
      log_room = let r = sound.log_room in let e = length-set old.log index (standing_at row (decided (verdict case))) in omega arith;
      place_room = sound.place_room;
      base_begins = sound.base_begins;
      counter_room = room_kept old.counter (active_count (world_of decided_parts)) (active_count (world_of old)) (cond (is_active row.standing) 1 0) (cond (is_active (decided (verdict case))) 1 0)
          (count-set old.log index row (standing_at row (decided (verdict case))) is_there) (ap (λ s. cond (is_active s) 1 0) stands) (no_more_active (verdict case)) sound.counter_room;
    }

  -- A single write.
  module _ (done : ℕ) (write : Write) (stands : row.standing ≡ Writing done) (next : slice_get row.writes done ≡ Some write) (none : refusal (world_of old) (WriteOne (suc place)) ≡ None) where
    abbrev pub written_parts : Parts
    written_parts = record old { log = turned_log (Writing (done + 1)); table = put old.table write }

    pub written_step : Step (world_of old) (WriteOne (suc place)) (Wrote write.0) (world_of written_parts)
    written_step = taken none (
      row,
      done,
      held_latest (suc place) index old.log row there,
      stands,
      subst (λ o. MatchOption o ((Wrote write.0 ≡ NoMore) × (world_of written_parts ≡ world_of old))
          (λ w. (Wrote write.0 ≡ Wrote w.0) × (world_of written_parts ≡ record (world_of old) { table = put old.table w; log = turn (suc place) (Writing (done + 1)) old.log })))
          (sym next) (refl, ap (λ l. record (world_of written_parts) { log = l }) (sym (turned_is (Writing (done + 1))))),
    )

    pub written_sound : AreSound written_parts
    written_sound = record {
      law = keeps_lawful (world_of old) (WriteOne (suc place)) (Wrote write.0) (world_of written_parts) sound.law written_step;
      each_session = sound.each_session;
      slots_true = λ q other e. slots_turned written_parts (Writing (done + 1)) refl refl q other (sound.slots_true q other e);
      window_size = sound.window_size;
      window_is = λ start above test. sound.window_is start above test
          ∙ sym (finished_same test (Writing (done + 1)) (low_of old) start (ap (finished_within (low_of old) old.counter) stands) refl);
      log_room = let r = sound.log_room in let e = length-set old.log index (standing_at row (Writing (done + 1))) in omega arith;
      place_room = sound.place_room;
      base_begins = sound.base_begins;
      counter_room = room_kept old.counter (active_count (world_of written_parts)) (active_count (world_of old)) (cond (is_active row.standing) 1 0) 1
          (count-set old.log index row (standing_at row (Writing (done + 1))) is_there) (ap (λ s. cond (is_active s) 1 0) stands) (omega arith) sound.counter_room;
    }

  -- no write is left, and nothing moves
  pub no_more_step : (done : ℕ) → row.standing ≡ Writing done → slice_get row.writes done ≡ None → refusal (world_of old) (WriteOne (suc place)) ≡ None → Step (world_of old) (WriteOne (suc place)) NoMore (world_of old)
  no_more_step done stands next none = taken none (
    row,
    done,
    held_latest (suc place) index old.log row there,
    stands,
    subst (λ o. MatchOption o ((NoMore ≡ NoMore) × (world_of old ≡ world_of old))
        (λ w. (NoMore ≡ Wrote w.0) × (world_of old ≡ record (world_of old) { table = put old.table w; log = turn (suc place) (Writing (done + 1)) old.log })))
        (sym next) (refl, refl),
  )

  -- The end of a write phase.
  module _ (done : ℕ) (stands : row.standing ≡ Writing done) (none : refusal (world_of old) (Finish (suc place)) ≡ None) where
    abbrev pub finished_parts : Parts
    finished_parts = record old {
      log = turned_log (Done (old.counter + 1));
      counter = old.counter + 1;
      slots = slice_set old.slots place (record { last = slot.last; hold = None });
      window = moved_window old.settings.keep old.window row.writes;
    }

    in_slots : place < length old.slots
    in_slots = slice_get-below old.slots place slot at

    pub finished_world : world_of finished_parts ≡ finished (world_of old) (suc place)
    finished_world =
        let e : 1 + place ≡ suc place = omega arith in
        ap (λ h. record (world_of finished_parts) { held = h }) (sym (held-free 1 old.slots place (record { last = slot.last; hold = None }) in_slots refl) ∙ ap (sets.remove (held_from 1 old.slots)) e)
        ∙ ap (λ l. record (finished (world_of old) (suc place)) { log = l }) (sym (turned_is (Done (old.counter + 1))))

    pub finished_step : Step (world_of old) (Finish (suc place)) (Finished (old.counter + 1)) (world_of finished_parts)
    finished_step = taken none (row, done, held_latest (suc place) index old.log row there, stands, refl, finished_world)

    pub finished_sound : AreSound finished_parts
    finished_sound =
        let s = split-at old.log index row is_there in
        record {
          law = keeps_lawful (world_of old) (Finish (suc place)) (Finished (old.counter + 1)) (world_of finished_parts) sound.law finished_step;
          each_session = length-set old.slots place _ ∙ sound.each_session;
          slots_true = each_slot finished_parts old.slots place (record { last = slot.last; hold = None }) in_slots
              (let t = slots_turned finished_parts (Done (old.counter + 1)) refl refl place slot (sound.slots_true place slot at) in
              record { last_is = t.last_is; last_fits = t.last_fits; row_is = λ h (e : None ≡ Some h). cc e })
              (λ q other ne e. slots_turned finished_parts (Done (old.counter + 1)) refl refl q other (sound.slots_true q other e));
          window_size = moved_size s.before s.later row old.window old.counter old.settings.keep
              (subst (NumbersAreBelow old.counter) s.was sound.law.invariant.below) (λ bound. ap (finished_within bound old.counter) stands) sound.window_size
              (λ start above test. sound.window_is start above test ∙ ap (λ l. some_finished test l old.counter (low_of old) start) s.was);
          window_is = λ start above test.
              window_moved s.before s.later row old.window old.counter old.settings.keep
              (subst (NumbersAreBelow old.counter) s.was sound.law.invariant.below) (λ bound. ap (finished_within bound old.counter) stands) sound.window_size
              (λ start above test. sound.window_is start above test ∙ ap (λ l. some_finished test l old.counter (low_of old) start) s.was) start above test
              ∙ sym (ap (λ l. some_finished test l (old.counter + 1) (window_low (old.counter + 1) old.settings.keep) start) (s.now (standing_at row (Done (old.counter + 1)))));
          log_room = let r = sound.log_room in let e = length-set old.log index (standing_at row (Done (old.counter + 1))) in omega arith;
          place_room = sound.place_room;
          base_begins = sound.base_begins;
          counter_room = room_used old.counter (active_count (world_of finished_parts)) (active_count (world_of old)) (cond (is_active row.standing) 1 0)
              (count-set old.log index row (standing_at row (Done (old.counter + 1))) is_there) (ap (λ s. cond (is_active s) 1 0) stands) sound.counter_room;
        }

-- A session is let go whose row was backed up.
module _ (old : Parts) (place : ℕ) (slot : Slot) (sound : AreSound old) (at : slice_get old.slots place ≡ Some slot) (none : refusal (world_of old) (BackUp (suc place)) ≡ None) where
  abbrev pub backed_parts : Parts
  backed_parts = record old { slots = slice_set old.slots place (record { last = slot.last; hold = None }) }

  pub backed_step : Step (world_of old) (BackUp (suc place)) (BackedUp slot.last) (world_of backed_parts)
  backed_step =
      let e : 1 + place ≡ suc place = omega arith in
      taken none (
        ap BackedUp (sound.slots_true place slot at).last_is,
        ap (λ h. record (world_of backed_parts) { held = h })
            (sym (held-free 1 old.slots place (record { last = slot.last; hold = None }) (slice_get-below old.slots place slot at) refl) ∙ ap (sets.remove (held_from 1 old.slots)) e),
      )

  pub backed_sound : AreSound backed_parts
  backed_sound = record {
    law = keeps_lawful (world_of old) (BackUp (suc place)) (BackedUp slot.last) (world_of backed_parts) sound.law backed_step;
    each_session = length-set old.slots place _ ∙ sound.each_session;
    slots_true = each_slot backed_parts old.slots place (record { last = slot.last; hold = None }) (slice_get-below old.slots place slot at)
        (let t = sound.slots_true place slot at in record { last_is = t.last_is; last_fits = t.last_fits; row_is = λ h (e : None ≡ Some h). cc e })
        (λ q other ne e. slot_same old backed_parts refl refl q other (sound.slots_true q other e));
    window_size = sound.window_size;
    window_is = sound.window_is;
    log_room = sound.log_room;
    place_room = sound.place_room;
    base_begins = sound.base_begins;
    counter_room = sound.counter_room;
  }
