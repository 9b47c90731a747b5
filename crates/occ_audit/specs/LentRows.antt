-- What clauses see of the rows of one table that are lent.
use Rattle.std.specs.Prelude.{◌≡◌, ℕ, false, List, map, Option, Result, Ok, Err}
use Rattle.std.specs.Borrow.{Bor}
use Rattle.std.specs.Map.Iter.{deref_pair}
use Rattle.occ_types.specs.Key.{Key, Num}
use Rattle.occ_types.specs.PlainData.{key_of}
use Rattle.occ_types.specs.Row.{Row}
use Rattle.occ_types.specs.declared.keys.Key as code_key
use Rattle.occ_pages.specs.Entries.{within}
use Rattle.occ_book.specs.Content.{is_backward}
use Rattle.occ_book.specs.Table.{IsOther, number_ends, numbers_within, rows_in, rows_within}

-- a number with the row that is lent under it
abbrev pub at_number : ℕ × Bor Row → ℕ × Row
at_number e = (e.0, e.1.now)

module _ {Z : Type 0} where
  -- the rows that are lent under numbers, and those under other keys
  abbrev pub rows_lent : List (ℕ × Bor Row) → List (Bor (code_key.Key Z) × Bor Row) → List (Key × Row)
  rows_lent numbers others = rows_in (map at_number numbers) (map deref_pair others)

  -- a key is this number, or else this key, which is none
  abbrev pub IsNumberOr : Key → Result ℕ (Bor (code_key.Key Z)) → Type 0
  IsNumberOr key (Ok number) = key ≡ Num number
  IsNumberOr key (Err other) = (key ≡ key_of other.now) × IsOther other.now

-- a range up to this end does not run backwards, and has the rows of one up to the other end
pub record IsForwardTo (lower upper end : Option Key) : Type 0 where
  pub forward : is_backward lower end ≡ false
  pub same : (rows : List (Key × Row)) → rows_within lower end rows ≡ rows_within lower upper rows

-- between these ends lie the numbers of a range of keys
abbrev pub IsNumberRange : Option Key → Option Key → Option ℕ × Option ℕ → Type 0
IsNumberRange lower upper ends = (numbers : List (ℕ × Row)) → within ends.0 ends.1 numbers ≡ numbers_within (number_ends lower upper) numbers
