-- What a book leaves for a store that goes on from it, and why it may leave nothing.
use Rattle.std.specs.Prelude.{◌≡◌, ◌<◌, ◌≤◌, ◌+◌, ◌^◌, Bool, true, false, List, length}
use Rattle.std.specs.List.{list_any}
use Rattle.occ_model.specs.Log.{Audited, LogRow, is_active}
use Rattle.occ_print.specs.Books.{Book}
use Rattle.occ_reading.specs.declared.bases.NoBase.{NoBase}
use Rattle.occ_reading.specs.declared.bases.NoBase.TheVariants.{Wrong, Busy, Full, Memory}

-- the claim on a book holds
abbrev pub IsAudited : Book → Type 0
IsAudited book = Audited book.base book.marks book.state book.log

-- a row is open, or in its write phase
abbrev pub has_active : List LogRow → Bool
has_active log = list_any (λ row. is_active row.standing) log

-- a book leaves a base: its claim holds, no row is active, and a row more would have a place of 64 bits
pub record LeavesBase (book : Book) : Type 0 where
  pub audited : IsAudited book
  pub quiet : has_active book.log ≡ false
  pub place : book.base.place + length book.log < 2 ^ 64

-- why it leaves none: the first that holds
abbrev pub HasNoBase : Book → NoBase → Type 0
HasNoBase book Wrong = IsAudited book → ⊥
HasNoBase book Busy = IsAudited book × (has_active book.log ≡ true)
HasNoBase book Full = IsAudited book × (has_active book.log ≡ false) × (2 ^ 64 ≤ book.base.place + length book.log)
HasNoBase book Memory = Unit {0}
