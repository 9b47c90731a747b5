-- What the parts of the search for a finding answer.
use Rattle.std.specs.Prelude.{◌≡◌, ◌≢◌, ℕ, suc, ◌+◌, ◌<◌, List, Option, None, Some, IsSomeAnd}
use Rattle.std.specs.Ordering.{nat_cmp}
use Rattle.std.specs.BTreeMap.{BTreeMap}
use Rattle.std.specs.FinMap as finite
use Rattle.std.specs.FinMap.{FinMap}
use Rattle.occ_model.specs.Log.{Base, LogRow}
use Rattle.occ_audit.specs.Order.{AreClosed, AreLast, last_of}
use Rattle.occ_audit.specs.Findings.{AreOrdered, IsMisplaced, IsMisnumbered, IsTold}
use Rattle.occ_audit.specs.declared.findings.Disorder.{Disorder}
use Rattle.occ_audit.specs.declared.findings.Disorder.TheVariants as disorders
use Rattle.occ_audit.specs.declared.disorders.Counted as counted
use Rattle.occ_audit.specs.declared.disorders.Counted.TheVariants as counts

-- what is out of order of a row with this index, place and number, behind a first place and the last number of its session
abbrev pub RowGives : ℕ → ℕ → ℕ → ℕ → ℕ → Option Disorder → Type 0
RowGives first index last place number None = (place ≡ first + index) × (number ≡ suc last)
RowGives first index last place number (Some (disorders.Place row due)) =
    (row ≡ index) × (place ≢ first + index) × IsTold due (first + index)
RowGives first index last place number (Some (disorders.Number row due)) =
    (row ≡ index) × (place ≡ first + index) × (number ≢ suc last) × IsTold due (suc last)
RowGives first index last place number (Some (disorders.Mark session due)) = ⊥

-- the first row that is out of order
abbrev pub IsRowDisorder : Base → List LogRow → Disorder → Type 0
IsRowDisorder base log (disorders.Place row due) = IsMisplaced base log row due
IsRowDisorder base log (disorders.Number row due) = IsMisnumbered base log row due
IsRowDisorder base log (disorders.Mark session due) = ⊥

-- the last numbers of rows that are all in order, or the first row that isn't
abbrev pub RowsGive : {Z : Type 0} → Base → List LogRow → counted.Counted Z → Type 0
RowsGive base log (counts.Whole last) = AreOrdered base log × AreLast base last log
RowsGive base log (counts.To disorder) = IsRowDisorder base log disorder

-- by what is kept of the sessions, no mark is out of order, or this is the first one
abbrev pub MarksGive : Base → FinMap nat_cmp ℕ → BTreeMap ℕ ℕ → Option Disorder → Type 0
MarksGive base marks last None = AreClosed base marks last
MarksGive base marks last (Some (disorders.Place row due)) = ⊥
MarksGive base marks last (Some (disorders.Number row due)) = ⊥
MarksGive base marks last (Some (disorders.Mark session due)) =
    ((other mark : ℕ) → other < session → finite.get marks other ≡ Some mark → mark ≡ suc (last_of base last other))
    × IsSomeAnd (finite.get marks session) (λ mark. mark ≢ suc (last_of base last session))
    × IsTold due (suc (last_of base last session))
