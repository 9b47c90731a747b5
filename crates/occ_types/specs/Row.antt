-- Rows of a table (our own choice).
use Rattle.std.specs.Prelude.{ℕ, ℤ, List, Option, None, Some, slice_get}

-- a whole number, or a text by its bytes
pub data Cell : Type 0 where
  Int : ℤ → Cell
  Text : List ℕ → Cell

-- its cells, in the order of the columns
abbrev pub Row : Type 0
Row = List Cell

-- the number of a cell
abbrev pub int_in : Cell → Option ℤ
int_in (Int z) = Some z
int_in (Text t) = None

-- the text of a cell, by its bytes
abbrev pub text_in : Cell → Option (List ℕ)
text_in (Int z) = None
text_in (Text t) = Some t

-- the number of the cell at a place
abbrev pub int_at : Row → ℕ → Option ℤ
int_at row place = elim (slice_get row place) [ None ↦ None | Some cell ↦ int_in cell ]

-- the text of the cell at a place
abbrev pub text_at : Row → ℕ → Option (List ℕ)
text_at row place = elim (slice_get row place) [ None ↦ None | Some cell ↦ text_in cell ]
