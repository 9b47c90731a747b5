-- Rows by their places in the order of entry, in a log that begins at any place.
use Rattle.std.proofs.Common.{◌≡◌, ℕ, ◌+◌, ◌-◌, ◌<◌, false, List, [], ◌∷◌, ◌++◌, length, Option, None, Some, sym, ap, ◌∙◌, arith, inl, inr, nat_lt, if◌then◌else◌, slice_get, slice_set}
use Rattle.std.proofs.lemmas.Bool.{ltb-true, ltb-false, lt-ltb, ne_eqb}
use Rattle.occ_model.specs.Log.{LogRow}
use Rattle.occ_model.specs.World.{latest}
use Rattle.occ_model.proofs.Tests as tests
use Rattle.occ_model.proofs.Turns.{latest-push}
use Rattle.occ_log.specs.Logs.{Kept, row_at}
use Rattle.occ_log.specs.SessionStates.{Slot, Hold}
use Rattle.occ_types.specs.declared.fault.Fault.{Fault}
use Rattle.occ_log.proofs.Opponents.{FindsStanding, IsFoundOrNone}
use Rattle.occ_log.proofs.Places.{held-get, held_latest, held-push-other}
use Rattle.occ_core.specs.Folding.{under_way_fault}
use Rattle.occ_core.specs.CoreParts.{row_placed, HasRow}

-- a row that is found has an index, by which its place lies behind the first
pub at_index : (first : ℕ) (log : List LogRow) (place : ℕ) (row : LogRow) → row_placed first log place ≡ Some row → (index : ℕ) × (place ≡ first + index) × (slice_get log index ≡ Some row)
unfolding row_placed
at_index first log place row there = tests.decided (nat_lt place first)
    (λ before. let none : None ≡ Some row = sym (ap (λ b. if b then None else slice_get log (place - first)) before) ∙ there in cc)
    (λ from. let up = ltb-false place first from in
    (place - first, omega arith, sym (ap (λ b. if b then None else slice_get log (place - first)) from) ∙ there))

-- the row at an index
pub from_index : (first index : ℕ) (log : List LogRow) → row_placed first log (first + index) ≡ slice_get log index
unfolding row_placed
from_index first index log =
    let no : nat_lt (first + index) first ≡ false = tests.decided (nat_lt (first + index) first) (λ yes. let h = ltb-true (first + index) first yes in absurd (omega arith)) (λ no. no) in
    let same : first + index - first ≡ index = omega arith in
    ap (λ b. if b then None else slice_get log (first + index - first)) no ∙ ap (slice_get log) same

-- no row stands before the first
pub before_first : (first place : ℕ) (log : List LogRow) → place < first → row_placed first log place ≡ None
unfolding row_placed
before_first first place log less = ap (λ b. if b then None else slice_get log (place - first)) (lt-ltb place first less)

-- what is found stands in the log
pub finds_standing : (first : ℕ) (log : List LogRow) → FindsStanding (row_placed first log) log
finds_standing first log place row there = let i = at_index first log place row there in (i.0, i.2)

-- In the log that is kept.

pub found_in : {first : ℕ} (kept : Kept) (place : ℕ) → kept.first ≡ first → row_at kept place ≡ row_placed first kept.rows place
unfolding row_at row_placed
found_in kept place begins = ap (λ n. if nat_lt place n then None else slice_get kept.rows (place - n)) begins

pub rows_found : {first : ℕ} (kept : Kept) → kept.first ≡ first → row_at kept ≡ row_placed first kept.rows
rows_found kept begins = λ i place. found_in kept place begins i

pub in_log : {first : ℕ} (kept : Kept) (place : ℕ) (row : LogRow) → kept.first ≡ first → row_at kept place ≡ Some row → row_placed first kept.rows place ≡ Some row
in_log kept place row begins there = sym (found_in kept place begins) ∙ there

pub stood_in : {first : ℕ} (kept : Kept) (place : ℕ) (next : LogRow) (log : List LogRow) → kept.first ≡ first → log ≡ slice_set kept.rows (place - kept.first) next → log ≡ slice_set kept.rows (place - first) next
stood_in kept place next log begins is = is ∙ ap (λ n. slice_set kept.rows (place - n) next) begins

pub next_is : {first : ℕ} (kept : Kept) → kept.first ≡ first → kept.first + length kept.rows ≡ first + length kept.rows
next_is kept begins = ap (λ n. n + length kept.rows) begins

pub next_kept : {first : ℕ} (kept new : Kept) → kept.first ≡ first → new.first ≡ kept.first → new.rows ≡ kept.rows → first + length kept.rows ≡ new.first + length new.rows
next_kept kept new begins first rows = λ i. sym (first ∙ begins) i + length (sym rows i)

pub fault_in : {first : ℕ} {fault : Option Fault} (kept : Kept) (slots : List Slot) (session : ℕ) → kept.first ≡ first → under_way_fault slots (row_at kept) session ≡ fault → under_way_fault slots (row_placed first kept.rows) session ≡ fault
fault_in kept slots session begins is = sym (ap (λ at. under_way_fault slots at session) (rows_found kept begins)) ∙ is

-- The row that a session has under way.

-- it is found by its place, or its session has none
pub row_found : (first : ℕ) (log : List LogRow) (session : ℕ) (hold : Hold) → HasRow first log session hold → IsFoundOrNone (row_placed first log) log session hold
row_found first log session hold (inl s) = inl (
  s.row,
  ap (row_placed first log) s.place_is ∙ from_index first s.index log ∙ held-get session s.index log s.row s.there,
  held_latest session s.index log s.row s.there,
)
row_found first log session hold (inr g) = inr g.none

-- a row of another session comes in
pub has_push : (first session : ℕ) (hold : Hold) (log : List LogRow) (next : LogRow) → (next.session ≡ session → ⊥) → HasRow first log session hold → HasRow first (log ++ next ∷ []) session hold
has_push first session hold log next apart (inl s) = inl (record {
  index = s.index;
  place_is = s.place_is;
  row = s.row;
  there = held-push-other session s.index log s.row next apart s.there;
  writes_are = s.writes_are;
})
has_push first session hold log next apart (inr g) = inr (record {
  before = g.before;
  none = latest-push session next log ∙ ap (λ b. if b then Some next else latest session log) (ne_eqb next.session session apart) ∙ g.none;
})
