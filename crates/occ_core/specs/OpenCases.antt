-- The case of what a session has entered and is not decided, and the verdict that is right for it.
use Rattle.std.specs.Prelude.{◌≡◌, ℕ, Option, None, Some, option_and_then}
use Rattle.occ_model.specs.Log.{Standing, Open, Writing, Done, Back, Case}
use Rattle.occ_model.specs.Validity.{verdict}
use Rattle.occ_model.specs.World.{World, latest}
use Rattle.occ_model.specs.declared.verdict.Verdict.{Verdict}

-- the index and the case of a row that stands so, while it is open
abbrev pub case_of : Standing → Option (ℕ × Case)
case_of (Open index case) = Some (index, case)
case_of (Writing done) = None
case_of (Done number) = None
case_of (Back cause) = None

-- those of a session's latest row
abbrev pub open_case : World → ℕ → Option (ℕ × Case)
open_case world session = option_and_then (λ row. case_of row.standing) (latest session world.log)

-- the verdict is right for the case of a session's latest row, where that is open (Kung and Robinson, section 5)
abbrev pub IsRight : World → ℕ → Verdict → Type 0
IsRight world session given = (index : ℕ) (case : Case) → open_case world session ≡ Some (index, case) → given ≡ verdict case
