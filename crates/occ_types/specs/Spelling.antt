-- The one spelling of each text, key, cell and row, which texts have and `Display` writes (our own choice).
use Rattle.std.specs.Prelude.{◌+◌, ◌/◌, ◌%◌, ◌==◌, ◌||◌, ℕ, zero, suc, Bool, nat_lt, List, [], ◌∷◌, if◌then◌else◌, map}
use Rattle.std.specs.List.{flat_map, join_with_byte}
use Rattle.std.specs.Char.{is_ascii_alphanumeric}
use Rattle.std.specs.Fmt.{decimal, signed_decimal}
use Rattle.occ_types.specs.Key.{Key}
use Rattle.occ_types.specs.Key as keys
use Rattle.occ_types.specs.KeyPart.{KeyPart}
use Rattle.occ_types.specs.KeyPart as parts
use Rattle.occ_types.specs.Row.{Cell, Row}
use Rattle.occ_types.specs.Row as rows

-- a byte that stands for itself in a text: a letter, a digit, `_`, `-` or `.`
abbrev pub is_plain : ℕ → Bool
is_plain byte = is_ascii_alphanumeric byte || (byte == 95) || (byte == 45) || (byte == 46)

-- 0 to 9, a to f
abbrev pub hex_digit : ℕ → ℕ
hex_digit n = if nat_lt n 10 then 48 + n else 87 + n

-- a plain byte is itself, and every other one is `%` and two digits
abbrev pub escaped_byte : ℕ → List ℕ
escaped_byte byte = if is_plain byte then byte ∷ [] else 37 ∷ hex_digit (byte / 16) ∷ hex_digit (byte % 16) ∷ []

abbrev pub escaped : List ℕ → List ℕ
escaped bytes = flat_map escaped_byte bytes

-- `'` and the text's bytes
abbrev pub text_text : List ℕ → List ℕ
text_text bytes = 39 ∷ escaped bytes

-- one part of a key of two parts
abbrev pub part_text : KeyPart → List ℕ
part_text (parts.Num n) = decimal n
part_text (parts.Text bytes) = text_text bytes

-- a pair is its parts, with one `+` between them
abbrev pub key_text : Key → List ℕ
key_text (keys.Num n) = decimal n
key_text (keys.Text bytes) = text_text bytes
key_text (keys.Pair a b) = join_with_byte 43 (part_text a ∷ part_text b ∷ [])

abbrev pub cell_text : Cell → List ℕ
cell_text (rows.Int z) = signed_decimal z
cell_text (rows.Text bytes) = text_text bytes

-- a row is its cells, with one comma between two of them
abbrev pub row_text : Row → List ℕ
row_text cells = join_with_byte 44 (map cell_text cells)

-- what stands before the cell at a place
abbrev pub comma : ℕ → List ℕ
comma zero = []
comma (suc place) = 44 ∷ []
