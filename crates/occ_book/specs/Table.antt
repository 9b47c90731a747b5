-- What clauses see of one table: its rows under their keys, the numbers first.
use Rattle.std.specs.Prelude.{◌≡◌, ◌<◌, ◌≤◌, ◌-◌, ℕ, drop, Vec, length, cond, List, [], ◌∷◌, ◌++◌, map, Option, None, Some}
use Rattle.std.specs.List.{filter}
use Rattle.std.specs.Map.{lookup}
use Rattle.occ_types.specs.Key.{Key, Num, Text as KeyText, Pair}
use Rattle.occ_types.specs.Same.{key_same}
use Rattle.occ_types.specs.Row.{Row}
use Rattle.occ_types.specs.declared.keys.Key as code_key
use Rattle.occ_types.specs.declared.keys.Key.TheVariants as keys
use Rattle.occ_sets.specs.PlainSets.{rows_of}
use Rattle.occ_pages.specs.Entries.{within}
use Rattle.occ_model.specs.Paging.{first_key}
use Rattle.occ_book.specs.Content.{is_within, seen}

-- a row under a number
abbrev pub numbered : ℕ × Row → Key × Row
numbered e = (Num e.0, e.1)

-- the row under a key
abbrev pub row_under : List (Key × Row) → Key → Option Row
row_under rows key = lookup (key_same key) rows

-- after a write: the row, or none, under the key, and under each other key what stood there
abbrev pub IsWritten : List (Key × Row) → Key → Option Row → List (Key × Row) → Type 0
IsWritten old key row new = (other : Key) → row_under new other ≡ cond (key_same other key) row (row_under old other)

-- the last key
abbrev pub last_key : List (Key × Row) → Option Key
last_key rows = first_key (drop (length rows - 1) rows)

-- the rows from a lower end on and below an upper one; either end may be missing
abbrev pub rows_within : Option Key → Option Key → List (Key × Row) → List (Key × Row)
rows_within lower upper = filter (λ e. is_within lower upper e.0)

-- an end of a range of keys among the numbers, where it is one
abbrev pub number_end : Option Key → Option ℕ
number_end None = None
number_end (Some (Num n)) = Some n
number_end (Some (KeyText t)) = None
number_end (Some (Pair a b)) = None

-- the ends of a range of keys among the numbers, or none where it has no number: all of them stand before each other key
abbrev pub number_ends : Option Key → Option Key → Option (Option ℕ × Option ℕ)
number_ends None upper = Some (None, number_end upper)
number_ends (Some (Num n)) upper = Some (Some n, number_end upper)
number_ends (Some (KeyText t)) upper = None
number_ends (Some (Pair a b)) upper = None

-- the rows under numbers between such ends
abbrev pub numbers_within : Option (Option ℕ × Option ℕ) → List (ℕ × Row) → List (ℕ × Row)
numbers_within None numbers = []
numbers_within (Some ends) numbers = within ends.0 ends.1 numbers

module _ {Z : Type 0} where
  -- a row under a number, as the code has it
  abbrev pub under_number : ℕ × Row → code_key.Key Z × Row
  under_number e = (keys.Num e.0, e.1)

  -- copies of all rows where they are at most so many, and none where they are more
  abbrev pub AreAllUpTo : ℕ → List (Key × Row) → Option (Vec (code_key.Key Z × Row) Z) → Type 0
  AreAllUpTo most rows None = most < length rows
  AreAllUpTo most rows (Some copies) = (length rows ≤ most) × (map seen copies.items ≡ rows)

  -- a key that isn't a number
  abbrev pub IsOther : code_key.Key Z → Type 0
  IsOther (keys.Num number) = ⊥
  IsOther (keys.Text text) = Unit {0}
  IsOther (keys.Pair pair) = Unit {0}

  -- no key is a number
  abbrev pub AreOthers : List (code_key.Key Z × Row) → Type 0
  AreOthers [] = Unit {0}
  AreOthers (e ∷ es) = IsOther e.0 × AreOthers es

  -- the rows under numbers, and those under other keys
  abbrev pub rows_in : List (ℕ × Row) → List (code_key.Key Z × Row) → List (Key × Row)
  rows_in numbers others = map numbered numbers ++ rows_of others
