-- Whether a row is open: found through the sessions, and in the log.
use Rattle.std.proofs.Common.{◌≡◌, ℕ, zero, suc, ◌+◌, ◌<◌, Bool, true, false, ◌||◌, ◌==◌, List, [], ◌∷◌, drop, length, Option, None, Some, refl, sym, ap, ◌∙◌, arith, inl, inr, slice_get, if◌then◌else◌, eq-eqb}
use Rattle.std.specs.List.{list_any}
use Rattle.std.specs.Ordering.{nat_cmp}
use Rattle.std.specs.FinSet as sets
use Rattle.std.specs.FinSet.{FinSet}
use Rattle.occ_model.specs.Log.{LogRow, Standing, Open, Writing, Done, Back, is_open, is_active}
use Rattle.occ_model.specs.World.{latest}
use Rattle.occ_model.specs.Invariant.{OneUnderWay, ActiveAreHeld}
use Rattle.occ_model.proofs.Tests as tests
use Rattle.occ_log.specs.SessionStates.{Slot, Hold, held_from, IsHeldAt}
use Rattle.occ_log.proofs.Holding.{HeldPlace, held_place}
use Rattle.occ_log.proofs.Places.{held-get, held_latest}
use Rattle.occ_core.specs.CoreParts.{Parts, found_at, HasRow, AreSound}
use Rattle.occ_core.specs.Folding.{holds_open, open_at}
use Rattle.occ_core.specs.Core.{parts_of, IsCore}
use Rattle.occ_core.specs.declared.core_state.Core.TheInside.{Inside}
use Rattle.occ_log.specs.Logs.{row_at}
use Rattle.occ_core.proofs.Placed.{from_index, before_first, rows_found}

-- Through the sessions, one by one.

pub open_found : (log : ℕ → Option LogRow) (slots : List Slot) (k : ℕ) → open_at log (slice_get slots k) ≡ true → list_any (holds_open log) slots ≡ true
open_found log [] k e = cc
open_found log (slot ∷ slots) zero e = ap (λ b. b || list_any (holds_open log) slots) e
open_found log (slot ∷ slots) (suc k) e = tests.decided (holds_open log slot)
    (λ yes. ap (λ b. b || list_any (holds_open log) slots) yes)
    (λ no. ap (λ b. b || list_any (holds_open log) slots) no ∙ open_found log slots k e)

skipped : (log : ℕ → Option LogRow) (slots : List Slot) (k : ℕ) → k < length slots → open_at log (slice_get slots k) ≡ false → list_any (holds_open log) (drop (suc k) slots) ≡ list_any (holds_open log) (drop k slots)
skipped log [] k less e = absurd (omega arith)
skipped log (slot ∷ slots) zero less e = sym (ap (λ b. b || list_any (holds_open log) slots) e)
skipped log (slot ∷ slots) (suc k) less e = skipped log slots k (omega arith) e

pub open_skipped : (log : ℕ → Option LogRow) (slots : List Slot) (k : ℕ) (all : Bool) → k < length slots → open_at log (slice_get slots k) ≡ false → list_any (holds_open log) (drop k slots) ≡ all → list_any (holds_open log) (drop (k + 1) slots) ≡ all
open_skipped log slots k all less e was =
    ap (λ n. list_any (holds_open log) (drop n slots)) (let n : k + 1 ≡ suc k = omega arith in n) ∙ skipped log slots k less e ∙ was

-- In the log.

open_active : (standing : Standing) → is_open standing ≡ true → is_active standing ≡ true
open_active (Open index case) e = refl
open_active (Writing done) e = refl
open_active (Done number) e = e
open_active (Back cause) e = e

-- a row that is open, which is the latest of its session, and its session is held
record OpenRow (held : FinSet nat_cmp) (log : List LogRow) : Type 0 where
  row : LogRow
  is_latest : latest row.session log ≡ Some row
  undecided : is_open row.standing ≡ true
  kept : sets.contains held row.session ≡ true

open_row : (held : FinSet nat_cmp) (log : List LogRow) → OneUnderWay log → ActiveAreHeld held log → list_any (λ row. is_open row.standing) log ≡ true → OpenRow held log
open_row held [] one are e = cc
open_row held (first ∷ rows) one are e = tests.decided (is_open first.standing)
    (λ yes. let active = open_active first.standing yes in
    record {
      row = first;
      is_latest = ap (λ l. elim l as (λ _. Option LogRow) [ None ↦ if first.session == first.session then Some first else None | Some later ↦ Some later ]) (one.0 active) ∙ ap (λ b. if b then Some first else None) (eq-eqb first.session first.session refl);
      undecided = yes;
      kept = are.0 active;
    })
    (λ no. let r = open_row held rows one.1 are.1 (ap (λ b. b || list_any (λ row. is_open row.standing) rows) (sym no) ∙ e) in
    record {
      row = r.row;
      is_latest = ap (λ l. elim l as (λ _. Option LogRow) [ None ↦ if first.session == r.row.session then Some first else None | Some later ↦ Some later ]) r.is_latest;
      undecided = r.undecided;
      kept = r.kept;
    })

held_open : (session index : ℕ) (log : List LogRow) (row : LogRow) → IsHeldAt session index log row → is_open row.standing ≡ true → list_any (λ row. is_open row.standing) log ≡ true
held_open session index [] row at e = absurd at
held_open session zero (first ∷ rows) row at e = ap (λ b. b || list_any (λ row. is_open row.standing) rows) (ap (λ (r : LogRow). is_open r.standing) at.0 ∙ e)
held_open session (suc index) (first ∷ rows) row at e = tests.decided (is_open first.standing)
    (λ yes. ap (λ b. b || list_any (λ row. is_open row.standing) rows) yes)
    (λ no. ap (λ b. b || list_any (λ row. is_open row.standing) rows) no ∙ held_open session index rows row at e)

-- The two agree.

none_open : (find : ℕ → Option LogRow) (slots : List Slot) → ((k : ℕ) (slot : Slot) → slice_get slots k ≡ Some slot → holds_open find slot ≡ false) → list_any (holds_open find) slots ≡ false
none_open find [] each = refl
none_open find (slot ∷ slots) each = ap (λ b. b || list_any (holds_open find) slots) (each 0 slot refl) ∙ none_open find slots (λ k s at. each (suc k) s at)

module _ (parts : Parts) (sound : AreSound parts) where
  stands_at : (session : ℕ) (hold : Hold) (index : ℕ) (row : LogRow) → hold.place ≡ parts.base.place + index → IsHeldAt session index parts.log row → found_at parts hold.place ≡ Some row
  stands_at session hold index row is there = ap (found_at parts) is ∙ from_index parts.base.place index parts.log ∙ held-get session index parts.log row there

  of_hold : (slot : Slot) (hold : Hold) → slot.hold ≡ Some hold → holds_open (found_at parts) slot ≡ (elim (found_at parts hold.place) as (λ _. Bool) [ None ↦ false | Some row ↦ is_open row.standing ])
  of_hold slot hold e = ap (λ h. elim h as (λ _. Bool) [ None ↦ false | Some hold ↦ elim (found_at parts hold.place) [ None ↦ false | Some row ↦ is_open row.standing ] ]) e

  of_row : (place : ℕ) (o : Option LogRow) → found_at parts place ≡ o → (elim (found_at parts place) as (λ _. Bool) [ None ↦ false | Some row ↦ is_open row.standing ]) ≡ (elim o as (λ _. Bool) [ None ↦ false | Some row ↦ is_open row.standing ])
  of_row place o e = ap (λ o. elim o as (λ _. Bool) [ None ↦ false | Some row ↦ is_open row.standing ]) e

  shown : list_any (λ row. is_open row.standing) parts.log ≡ true → list_any (holds_open (found_at parts)) parts.slots ≡ true
  shown e = go (held_place parts.slots o.row.session o.kept)
    where
      o : OpenRow (held_from 1 parts.slots) parts.log
      o = open_row (held_from 1 parts.slots) parts.log sound.law.invariant.one_under_way sound.law.invariant.active_held e

      go : (p : HeldPlace parts.slots o.row.session) → list_any (holds_open (found_at parts)) parts.slots ≡ true
      go p = open_found (found_at parts) parts.slots p.place (ap (open_at (found_at parts)) p.there ∙ of_hold p.session p.at p.held ∙ at ((sound.slots_true p.place p.session p.there).row_is p.at p.held))
        where
          own : latest (suc p.place) parts.log ≡ Some o.row
          own = ap (λ s. latest s parts.log) (let is = p.is_number in let s : suc p.place ≡ o.row.session = omega arith in s) ∙ o.is_latest

          at : HasRow parts.base.place parts.log (suc p.place) p.at → (elim (found_at parts p.at.place) as (λ _. Bool) [ None ↦ false | Some row ↦ is_open row.standing ]) ≡ true
          at (inl s) =
              let same : Some o.row ≡ Some s.row = sym own ∙ held_latest (suc p.place) s.index parts.log s.row s.there in
              of_row p.at.place (Some s.row) (stands_at (suc p.place) p.at s.index s.row s.place_is s.there)
              ∙ sym (ap (λ o. elim o as (λ _. Bool) [ None ↦ false | Some row ↦ is_open row.standing ]) same) ∙ o.undecided
          at (inr g) = let none : None ≡ Some o.row = sym g.none ∙ own in cc

  hidden : list_any (λ row. is_open row.standing) parts.log ≡ false → list_any (holds_open (found_at parts)) parts.slots ≡ false
  hidden e = none_open (found_at parts) parts.slots each
    where
      each : (k : ℕ) (slot : Slot) → slice_get parts.slots k ≡ Some slot → holds_open (found_at parts) slot ≡ false
      each k slot at = of_held slot.hold refl
        where
          row_at : (hold : Hold) → HasRow parts.base.place parts.log (suc k) hold → (elim (found_at parts hold.place) as (λ _. Bool) [ None ↦ false | Some row ↦ is_open row.standing ]) ≡ false
          row_at hold (inl s) =
              of_row hold.place (Some s.row) (stands_at (suc k) hold s.index s.row s.place_is s.there)
              ∙ tests.decided (is_open s.row.standing)
              (λ yes. absurd (tests.clash (list_any (λ row. is_open row.standing) parts.log) (held_open (suc k) s.index parts.log s.row s.there yes) e))
              (λ no. no)
          row_at hold (inr g) = of_row hold.place None (before_first parts.base.place hold.place parts.log g.before)

          of_held : (h : Option Hold) → slot.hold ≡ h → holds_open (found_at parts) slot ≡ false
          of_held None is = ap (λ h. elim h as (λ _. Bool) [ None ↦ false | Some hold ↦ elim (found_at parts hold.place) [ None ↦ false | Some row ↦ is_open row.standing ] ]) is
          of_held (Some hold) is = of_hold slot hold is ∙ row_at hold ((sound.slots_true k slot at).row_is hold is)

-- a row is open where one that a session holds is
pub open_is : (parts : Parts) → AreSound parts → list_any (holds_open (found_at parts)) parts.slots ≡ list_any (λ row. is_open row.standing) parts.log
open_is parts sound = tests.decided (list_any (λ row. is_open row.standing) parts.log) (λ yes. shown parts sound yes ∙ sym yes) (λ no. hidden parts sound no ∙ sym no)

-- and so of the fields of a core
pub busy_is : {Z : Type 0} (c : Inside Z) → IsCore c → (busy : Bool) → busy ≡ list_any (holds_open (row_at c.log)) c.sessions → busy ≡ list_any (λ row. is_open row.standing) c.log.rows
busy_is c is busy e = e ∙ ap (λ find. list_any (holds_open find) c.sessions) (rows_found c.log is.log_match.begins) ∙ open_is (parts_of c) is.sound
