-- The open case of a session, over plain parts.
use Rattle.std.proofs.Common.{◌≡◌, ℕ, zero, suc, Bool, true, false, not, cond, [], ◌∷◌, Option, None, Some, Result, Ok, Err, refl, sym, ap, subst, ◌∙◌, arith}
use Rattle.std.specs.Prelude.{option_and_then}
use Rattle.occ_types.specs.declared.fault.Fault.{Fault}
use Rattle.occ_types.specs.declared.fault.Fault.TheVariants as faults
use Rattle.occ_model.specs.Log.{LogRow, Standing, Open, Writing, Done, Back, Case, is_active, is_open}
use Rattle.occ_model.specs.Validity.{verdict}
use Rattle.occ_model.specs.Event.{Decide}
use Rattle.occ_model.specs.Refusal.{refusal}
use Rattle.occ_types.specs.Schema.{fault_if, first_fault}
use Rattle.occ_model.specs.World.{World, latest}
use Rattle.occ_model.specs.declared.verdict.Verdict.{Verdict}
use Rattle.occ_log.specs.SessionStates.{row_under_way}
use Rattle.occ_core.specs.CoreParts.{Parts, world_of, found_at, AreSound}
use Rattle.occ_core.specs.Folding.{under_way_fault}
use Rattle.occ_core.specs.OpenCases.{case_of, open_case, IsRight}
use Rattle.occ_core.proofs.Counting.{act, idle}
use Rattle.occ_log.proofs.Places.{held_latest}
use Rattle.occ_core.proofs.Calls.{found_row, found_is, held_slot, gone_none, let_through, latest_reads}
use Rattle.occ_core.proofs.Nexts.{not_held}

abbrev in_row : Option LogRow → Option (ℕ × Case)
in_row = option_and_then (λ row. case_of row.standing)

-- what is not active is not open
idle_case : (standing : Standing) → is_active standing ≡ false → case_of standing ≡ None
idle_case (Open index case) e = cc
idle_case (Writing done) e = cc
idle_case (Done number) e = refl
idle_case (Back cause) e = refl

idle_row : (o : Option LogRow) → act o ≡ 0 → in_row o ≡ None
idle_row None e = refl
idle_row (Some row) e = idle_case row.standing (at (is_active row.standing) e)
  where
    at : (b : Bool) → ◌≡◌ {A = ℕ} (cond b 1 0) 0 → b ≡ false
    at true e = cc
    at false e = refl

-- nothing is under way, or its row was folded, so no case is open
pub case_none : (parts : Parts) (world : World) → world_of parts ≡ world → AreSound parts → (session : ℕ) (fault : Fault) → under_way_fault parts.slots (found_at parts) session ≡ Some fault → open_case world session ≡ None
case_none parts world seen sound session fault found = ap (λ w. open_case w session) (sym seen) ∙ at (row_under_way parts.slots session) refl found
  where
    gone : (place : ℕ) → row_under_way parts.slots session ≡ Ok place → found_at parts place ≡ None → open_case (world_of parts) session ≡ None
    gone place is away =
        let h = held_slot parts session place is in
        ap (open_case (world_of parts)) h.session_is ∙ ap in_row (gone_none parts session place sound h away)

    at_place : (place : ℕ) → row_under_way parts.slots session ≡ Ok place → (o : Option LogRow) → found_at parts place ≡ o → (elim o as (λ _. Option Fault) [ None ↦ Some faults.AlreadyDecided | Some row ↦ None ]) ≡ Some fault → open_case (world_of parts) session ≡ None
    at_place place is None away e = gone place is away
    at_place place is (Some row) away e = cc

    at : (r : Result ℕ Fault) → row_under_way parts.slots session ≡ r
        → (elim r as (λ _. Option Fault) [ Ok place ↦ elim (found_at parts place) [ None ↦ Some faults.AlreadyDecided | Some row ↦ None ] | Err fault ↦ Some fault ]) ≡ Some fault
        → open_case (world_of parts) session ≡ None
    at (Ok place) is e = at_place place is (found_at parts place) refl e
    at (Err f) is e = idle_row (latest session parts.log) (idle parts.slots parts.log sound.law.invariant.active_held session (not_held parts session f is))

-- the case is that of the row under way
pub case_found : (parts : Parts) (world : World) → world_of parts ≡ world → AreSound parts → (session place : ℕ) (row : LogRow) → row_under_way parts.slots session ≡ Ok place → found_at parts place ≡ Some row
    → open_case world session ≡ case_of row.standing
case_found parts world seen sound session place row found at =
    let u = found_row parts session place sound found row at in
    ap (λ w. open_case w session) (sym seen) ∙ ap (open_case (world_of parts)) u.session_is
    ∙ ap in_row (held_latest (suc u.slot_at) u.index parts.log u.row u.row_there)
    ∙ ap (λ r. case_of r.standing) (found_is parts session place u row at)

-- no case is open where the row is not
pub case_closed : (parts : Parts) (world : World) → world_of parts ≡ world → AreSound parts → (session place : ℕ) (row : LogRow) → row_under_way parts.slots session ≡ Ok place → found_at parts place ≡ Some row
    → is_open row.standing ≡ false → open_case world session ≡ None
case_closed parts world seen sound session place row found at closed = case_found parts world seen sound session place row found at ∙ go row.standing closed
  where
    go : (standing : Standing) → is_open standing ≡ false → case_of standing ≡ None
    go (Open index case) e = cc
    go (Writing done) e = refl
    go (Done number) e = refl
    go (Back cause) e = refl

-- and a row that is open may be decided
pub case_free : (parts : Parts) (world : World) → world_of parts ≡ world → AreSound parts → (session place : ℕ) (row : LogRow) (index : ℕ) (case : Case) → row_under_way parts.slots session ≡ Ok place → found_at parts place ≡ Some row
    → row.standing ≡ Open index case → refusal world (Decide session) ≡ None
case_free parts world seen sound session place row index case found at stands =
    let u = found_row parts session place sound found row at in
    let own : u.row.standing ≡ Open index case = ap (λ r. r.standing) (found_is parts session place u row at) ∙ stands in
    ap (λ w. refusal w (Decide session)) (sym seen) ∙ ap (λ s. refusal (world_of parts) (Decide s)) u.session_is
    ∙ let_through parts u.slot_at u.slot u.hold _ sound u.there u.holds
    ∙ ap (λ b. first_fault (fault_if (not b) faults.AlreadyDecided ∷ []))
    (latest_reads parts.log (suc u.slot_at) u.row false (λ r. is_open r.standing) (held_latest (suc u.slot_at) u.index parts.log u.row u.row_there) ∙ ap is_open own)

-- a verdict that is right for the open case is right for the row's
pub right_for : (parts : Parts) (world : World) → world_of parts ≡ world → AreSound parts → (session place : ℕ) (row : LogRow) (index : ℕ) (case : Case) → row_under_way parts.slots session ≡ Ok place → found_at parts place ≡ Some row
    → row.standing ≡ Open index case → (given : Verdict) → IsRight world session given → given ≡ verdict case
right_for parts world seen sound session place row index case found at stands given right =
    right index case (case_found parts world seen sound session place row found at ∙ ap case_of stands)
