-- The one spelling of each thing that a line may have (our own choice). These functions are the grammar.
use Rattle.std.specs.Prelude.{◌≡◌, ◌<◌, ◌≤◌, ◌^◌, ℕ, List, Option, Some, None, length, All, IsUtf8, FitsSigned, codes}
use Rattle.std.specs.Int.{w64}
use Rattle.std.specs.List.{join_with_byte, AllPass}
use Rattle.std.specs.Char.{is_ascii_graphic, is_ascii_lowercase}
use Rattle.occ_types.specs.Key.{Key}
use Rattle.occ_types.specs.Key as keys
use Rattle.occ_types.specs.KeyPart.{KeyPart}
use Rattle.occ_types.specs.KeyPart as parts
use Rattle.occ_types.specs.Row.{Cell, Row}
use Rattle.occ_types.specs.Row as rows
use Rattle.occ_types.specs.Spelling.{key_text}
use Rattle.occ_text.specs.declared.versions.Version.{Version}
use Rattle.occ_text.specs.declared.versions.Version.TheVariants.{Two}

-- a line is its tokens, with one space between two of them
abbrev pub line_text : List (List ℕ) → List ℕ
line_text tokens = join_with_byte 32 tokens

-- at least one byte, and only bytes 33 to 126
pub record IsToken (token : List ℕ) : Type 0 where
  pub some : 0 < length token
  pub graphic : AllPass is_ascii_graphic token

pub record AreTokens (tokens : List (List ℕ)) : Type 0 where
  pub some : 0 < length tokens
  pub each : All IsToken tokens

-- 1 to 16 letters a to z
pub record IsName (name : List ℕ) : Type 0 where
  pub some : 0 < length name
  pub short : length name ≤ 16
  pub letters : AllPass is_ascii_lowercase name

-- an end of a range, or `*` where there is none
abbrev pub end_text : Option Key → List ℕ
end_text None = codes "*"
end_text (Some key) = key_text key

-- what has a spelling: texts of UTF-8, numbers of 64 bits, rows of at least one cell
pub record IsText (bytes : List ℕ) : Type 0 where
  pub utf8 : IsUtf8 bytes
  pub small : All (λ byte. byte < 256) bytes

abbrev pub PartFits : KeyPart → Type 0
PartFits (parts.Num n) = n < 2 ^ 64
PartFits (parts.Text bytes) = IsText bytes

-- a pair stands in texts of version 2 alone
abbrev pub KeyFits : Version → Key → Type 0
KeyFits version (keys.Num n) = n < 2 ^ 64
KeyFits version (keys.Text bytes) = IsText bytes
KeyFits version (keys.Pair a b) = (version ≡ Two) × PartFits a × PartFits b

-- a range lacks an end in texts of version 2 alone
abbrev pub EndFits : Version → Option Key → Type 0
EndFits version None = version ≡ Two
EndFits version (Some key) = KeyFits version key

abbrev pub CellFits : Cell → Type 0
CellFits (rows.Int z) = FitsSigned w64 z
CellFits (rows.Text bytes) = IsText bytes

pub record RowFits (cells : Row) : Type 0 where
  pub some : 0 < length cells
  pub each : All CellFits cells
