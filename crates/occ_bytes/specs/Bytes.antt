-- Keys and rows as bytes (our own choice).
use Rattle.std.specs.Prelude.{◌≡◌, ℕ, ◌+◌, ◌-◌, ◌^◌, min, List, [], ◌∷◌, ◌++◌, length, take, drop}
use Rattle.std.specs.Int.{w64, to_le_bytes, cast_unsigned}
use Rattle.occ_types.specs.Key.{Key, Num, Text as KeyText, Pair}
use Rattle.occ_types.specs.KeyPart as parts
use Rattle.occ_types.specs.KeyPart.{KeyPart}
use Rattle.occ_types.specs.Row.{Cell, Int, Text as CellText, Row}

unfoldable pub number_bytes : ℕ → List ℕ
number_bytes number = to_le_bytes w64 number

abbrev pub text_bytes : List ℕ → List ℕ
text_bytes text = number_bytes (length text) ++ text

abbrev pub part_bytes : KeyPart → List ℕ
part_bytes (parts.Num number) = number_bytes number
part_bytes (parts.Text text) = text_bytes text

abbrev pub key_bytes : Key → List ℕ
key_bytes (Num number) = number_bytes number
key_bytes (KeyText text) = text_bytes text
key_bytes (Pair first second) = part_bytes first ++ part_bytes second

abbrev pub cell_bytes : Cell → List ℕ
cell_bytes (Int number) = number_bytes (cast_unsigned w64 number)
cell_bytes (CellText text) = text_bytes text

abbrev pub row_bytes : Row → List ℕ
row_bytes [] = []
row_bytes (cell ∷ cells) = cell_bytes cell ++ row_bytes cells

-- a room with bytes put at a place of it
abbrev pub put_at : List ℕ → ℕ → List ℕ → List ℕ
put_at room at bytes = take at room ++ bytes ++ drop (at + length bytes) room

-- a size, or the greatest number where it is none of 64 bits
abbrev pub IsSize : ℕ → ℕ → Type 0
IsSize size wanted = size ≡ min wanted (2 ^ 64 - 1)
