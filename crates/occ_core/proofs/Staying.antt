-- What a transaction that ends in one step leaves of the other parts of a core, and what its refusal leaves.
use Rattle.std.proofs.Common.{◌≡◌, ℕ, ◌-◌, List, length, None, Result, Ok, Err, sym, ap, subst, ◌∙◌, slice_set}
use Rattle.std.specs.Result.{OnErr}
use Rattle.occ_model.specs.State.{State, Write}
use Rattle.occ_model.specs.Log.{LogRow}
use Rattle.occ_log.specs.Logs.{Kept, IsLogOf}
use Rattle.occ_book.specs.Base.{BaseContent}
use Rattle.occ_core.specs.Core.{IsBaseOf}
use Rattle.occ_core.specs.CoreParts.{Parts}
use Rattle.occ_log.specs.SessionStates.{Slot, HoldsArePlaced}
use Rattle.occ_sets.specs.Sets.{ArePlaced}
use Rattle.occ_log.proofs.Changes.{placed-free}
use Rattle.occ_log.proofs.Places.{length-set}

-- What else of a core stays.

-- the session of a row has had its number
pub session_passed : (slots next : List Slot) (row like : LogRow) → row ≡ like → next ≡ slice_set slots (row.session - 1) (record { last = row.number; hold = None })
    → next ≡ slice_set slots (like.session - 1) (record { last = like.number; hold = None })
session_passed slots next row like same is = is ∙ ap (λ (r : LogRow). slice_set slots (r.session - 1) (record { last = r.number; hold = None })) same

pub marks_kept : (slots next : List Slot) (place : ℕ) (slot : Slot) (marks : ℕ) → next ≡ slice_set slots place slot → marks ≡ length slots → marks ≡ length next
marks_kept slots next place slot marks is match = match ∙ sym (ap length is ∙ length-set slots place slot)

pub log_kept : (log after : Kept) (slots next : List Slot) (place first : ℕ) (slot : Slot) → after.first ≡ log.first → after.sessions ≡ log.sessions → next ≡ slice_set slots place slot → IsLogOf log first (length slots) → IsLogOf after first (length next)
log_kept log after slots next place first slot begins knows is match = record {
  begins = begins ∙ match.begins;
  knows = knows ∙ match.knows ∙ sym (ap length is ∙ length-set slots place slot);
}

pub base_kept : (base : BaseContent) (tables : ℕ) (slots next : List Slot) (place : ℕ) (slot : Slot) → next ≡ slice_set slots place slot → IsBaseOf base tables (length slots) → IsBaseOf base tables (length next)
base_kept base tables slots next place slot is match = record { holds = match.holds; knows = match.knows ∙ sym (ap length is ∙ length-set slots place slot) }

pub still_placed : (tables : ℕ) (slots next : List Slot) (place number : ℕ) → next ≡ slice_set slots place (record { last = number; hold = None }) → HoldsArePlaced tables slots → HoldsArePlaced tables next
still_placed tables slots next place number is placed = subst (HoldsArePlaced tables) (sym is) (placed-free tables slots place number placed)

-- Where there is no memory.

-- what holds anyway holds at an error
pub at_err : {T E P : Type 0} (r : Result T E) → P → OnErr r P
at_err (Ok x) p = tt
at_err (Err e) p = p

-- the log and the table are as they were
pub unmoved : (parts : Parts) (log : List LogRow) (table : State) → log ≡ parts.log → table ≡ parts.table → parts ≡ record parts { log = log; table = table }
unmoved parts log table still kept = λ i. record parts { log = sym still i; table = sym kept i }

pub same_log : (log after : Kept) (first sessions : ℕ) → after.first ≡ log.first → after.sessions ≡ log.sessions → IsLogOf log first sessions → IsLogOf after first sessions
same_log log after first sessions begins knows match = record { begins = begins ∙ match.begins; knows = knows ∙ match.knows }

-- writes of tables that the schema has are of tables that there are
pub placed_all : (tables schema : ℕ) (writes : List Write) → tables ≡ schema → ArePlaced schema writes → ArePlaced tables writes
placed_all tables schema writes match placed = subst (λ n. ArePlaced n writes) (sym match) placed
