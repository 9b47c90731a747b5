-- The next single write of a session, over plain parts.
use Rattle.std.proofs.Common.{◌≡◌, ℕ, zero, suc, ◌+◌, Bool, true, false, cond, List, [], ◌∷◌, drop, Option, None, Some, Result, Ok, Err, refl, sym, ap, subst, ◌∙◌, arith, is_some, slice_get, option_map}
use Rattle.std.specs.FinSet as sets
use Rattle.occ_types.specs.declared.fault.Fault.{Fault}
use Rattle.occ_types.specs.declared.fault.Fault.TheVariants as faults
use Rattle.occ_types.specs.Object.{Object}
use Rattle.occ_model.specs.State.{Write}
use Rattle.occ_model.specs.Log.{LogRow, Standing, Open, Writing, Done, Back, is_active, remaining, rest}
use Rattle.occ_model.specs.World.{World, latest}
use Rattle.occ_model.specs.Event.{WriteOne}
use Rattle.occ_model.specs.Refusal.{refusal}
use Rattle.occ_log.specs.SessionStates.{Slot, Hold, held_from, row_under_way, writes_done}
use Rattle.occ_core.specs.CoreParts.{Parts, world_of, found_at, AreSound}
use Rattle.occ_core.specs.Folding.{under_way_fault}
use Rattle.occ_core.specs.Replies.{first_object, next_object, IsNextWrite}
use Rattle.occ_log.proofs.Holding.{is_held_at, contains-held, below_first}
use Rattle.occ_core.proofs.Counting.{act, idle}
use Rattle.occ_log.proofs.Places.{held_latest, slice_get-below}
use Rattle.occ_core.proofs.Calls.{found_row, found_is, held_slot, gone_none}
use Rattle.occ_core.proofs.Finishes.{writing_is, may_write}

-- a session that has nothing under way is not held
pub not_held : (parts : Parts) (session : ℕ) (fault : Fault) → row_under_way parts.slots session ≡ Err fault → sets.contains (held_from 1 parts.slots) session ≡ false
not_held parts zero fault e = below_first 1 0 parts.slots (omega arith)
not_held parts (suc k) fault e =
    ap (sets.contains (held_from 1 parts.slots)) (let n : suc k ≡ 1 + k = omega arith in n) ∙ contains-held 1 parts.slots k ∙ free parts.slots k e
  where
    at : (h : Option Hold) → (elim h as (λ _. Result ℕ Fault) [ None ↦ Err faults.NothingEntered | Some hold ↦ Ok hold.place ]) ≡ Err fault → is_some h ≡ false
    at None e = refl
    at (Some hold) e = cc

    free : (slots : List Slot) (k : ℕ) → row_under_way slots (suc k) ≡ Err fault → is_held_at slots k ≡ false
    free [] k e = refl
    free (x ∷ xs) zero e = at x.hold e
    free (x ∷ xs) (suc k) e = free xs k e

-- what is not active has no write left
idle_rest : (writes : List Write) (standing : Standing) → is_active standing ≡ false → remaining writes standing ≡ []
idle_rest writes (Open index case) e = cc
idle_rest writes (Writing done) e = cc
idle_rest writes (Done number) e = refl
idle_rest writes (Back cause) e = refl

idle_object : (o : Option LogRow) → act o ≡ 0 → (elim o as (λ _. Option Object) [ None ↦ None | Some row ↦ first_object (rest row) ]) ≡ None
idle_object None e = refl
idle_object (Some row) e = ap first_object (idle_rest row.writes row.standing (at (is_active row.standing) e))
  where
    at : (b : Bool) → ◌≡◌ {A = ℕ} (cond b 1 0) 0 → b ≡ false
    at true e = cc
    at false e = refl

-- nothing is under way, or its row was folded, so no write is left
pub next_none : (parts : Parts) (world : World) → world_of parts ≡ world → AreSound parts → (session : ℕ) (fault : Fault) → under_way_fault parts.slots (found_at parts) session ≡ Some fault → next_object world session ≡ None
next_none parts world seen sound session fault found = ap (λ w. next_object w session) (sym seen) ∙ at (row_under_way parts.slots session) refl found
  where
    gone : (place : ℕ) → row_under_way parts.slots session ≡ Ok place → found_at parts place ≡ None → next_object (world_of parts) session ≡ None
    gone place is away =
        let h = held_slot parts session place is in
        ap (next_object (world_of parts)) h.session_is
        ∙ ap (λ o. elim o as (λ _. Option Object) [ None ↦ None | Some row ↦ first_object (rest row) ]) (gone_none parts session place sound h away)

    at_place : (place : ℕ) → row_under_way parts.slots session ≡ Ok place → (o : Option LogRow) → found_at parts place ≡ o → (elim o as (λ _. Option Fault) [ None ↦ Some faults.AlreadyDecided | Some row ↦ None ]) ≡ Some fault → next_object (world_of parts) session ≡ None
    at_place place is None away e = gone place is away
    at_place place is (Some row) away e = cc

    at : (r : Result ℕ Fault) → row_under_way parts.slots session ≡ r
        → (elim r as (λ _. Option Fault) [ Ok place ↦ elim (found_at parts place) [ None ↦ Some faults.AlreadyDecided | Some row ↦ None ] | Err fault ↦ Some fault ]) ≡ Some fault
        → next_object (world_of parts) session ≡ None
    at (Ok place) is e = at_place place is (found_at parts place) refl e
    at (Err f) is e = idle_object (latest session parts.log) (idle parts.slots parts.log sound.law.invariant.active_held session (not_held parts session f is))

pub first_dropped : (n : ℕ) (writes : List Write) → first_object (drop n writes) ≡ option_map (λ w. w.0) (slice_get writes n)
first_dropped zero [] = refl
first_dropped zero (w ∷ ws) = refl
first_dropped (suc n) [] = refl
first_dropped (suc n) (w ∷ ws) = first_dropped n ws

-- the row under way has its next write
next_found : (parts : Parts) (world : World) → world_of parts ≡ world → AreSound parts → (session place : ℕ) (row : LogRow) → row_under_way parts.slots session ≡ Ok place → found_at parts place ≡ Some row
    → next_object world session ≡ first_object (rest row)
next_found parts world seen sound session place row found at =
    let u = found_row parts session place sound found row at in
    ap (λ w. next_object w session) (sym seen) ∙ ap (next_object (world_of parts)) u.session_is
    ∙ ap (λ o. elim o as (λ _. Option Object) [ None ↦ None | Some row ↦ first_object (rest row) ]) (held_latest (suc u.slot_at) u.index parts.log u.row u.row_there)
    ∙ ap (λ r. first_object (rest r)) (found_is parts session place u row at)

-- a row that is not in its write phase has no write left
pub next_idle : (parts : Parts) (world : World) → world_of parts ≡ world → AreSound parts → (session place : ℕ) (row : LogRow) (fault : Fault) → row_under_way parts.slots session ≡ Ok place → found_at parts place ≡ Some row → writes_done row.standing ≡ Err fault
    → next_object world session ≡ None
next_idle parts world seen sound session place row fault found at why =
    next_found parts world seen sound session place row found at ∙ go row.standing why
  where
    go : (standing : Standing) → writes_done standing ≡ Err fault → first_object (remaining row.writes standing) ≡ None
    go (Open index case) e = refl
    go (Writing done) e = cc
    go (Done number) e = refl
    go (Back cause) e = refl

-- a row in its write phase does the write at the count of those that are done
pub next_at : (parts : Parts) (world : World) → world_of parts ≡ world → AreSound parts → (session place : ℕ) (row : LogRow) (done : ℕ) → row_under_way parts.slots session ≡ Ok place → found_at parts place ≡ Some row → writes_done row.standing ≡ Ok done
    → next_object world session ≡ option_map (λ w. w.0) (slice_get row.writes done)
next_at parts world seen sound session place row done found at goes =
    next_found parts world seen sound session place row found at
    ∙ ap (λ s. first_object (remaining row.writes s)) (writing_is row.standing done goes) ∙ first_dropped done row.writes

-- and nothing refuses it
pub next_free : (parts : Parts) (world : World) → world_of parts ≡ world → AreSound parts → (session place : ℕ) (row : LogRow) (done : ℕ) → row_under_way parts.slots session ≡ Ok place → found_at parts place ≡ Some row → writes_done row.standing ≡ Ok done
    → refusal world (WriteOne session) ≡ None
next_free parts world seen sound session place row done found at goes =
    let u = found_row parts session place sound found row at in
    ap (λ w. refusal w (WriteOne session)) (sym seen) ∙ ap (λ s. refusal (world_of parts) (WriteOne s)) u.session_is
    ∙ may_write parts sound session place u row done at (writing_is row.standing done goes)

-- the write that it does is the session's next
pub next_placed : (parts : Parts) (world : World) → world_of parts ≡ world → AreSound parts → (session place : ℕ) (row : LogRow) (done : ℕ) (write : Write) → row_under_way parts.slots session ≡ Ok place → found_at parts place ≡ Some row → writes_done row.standing ≡ Ok done
    → slice_get row.writes done ≡ Some write → IsNextWrite world session place done
next_placed parts world seen sound session place row done write found at goes next =
    let u = found_row parts session place sound found row at in
    subst (λ w. IsNextWrite w session place done) seen
    (subst (λ s. IsNextWrite (world_of parts) s place done) (sym u.session_is)
    (record {
      found = row;
      there = at;
      own = held_latest (suc u.slot_at) u.index parts.log u.row u.row_there ∙ ap Some (found_is parts session place u row at);
      standing = writing_is row.standing done goes;
      left = slice_get-below row.writes done write next;
    }))
