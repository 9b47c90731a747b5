-- What is read of bytes (our own choice): what a key or a row is written as is read back.
use Rattle.std.specs.Prelude.{⊤, ◌≡◌, ◌<◌, ◌^◌, ℕ, List, [], ◌∷◌, ◌++◌, Option, None, Some, Result, Ok, Err}
use Rattle.std.specs.Borrow.{Bor}
use Rattle.std.specs.Int.{w64, cast_unsigned, cast_signed}
use Rattle.std.specs.Str.{IsUtf8}
use Rattle.occ_types.specs.declared.kind.Kind.{Kind}
use Rattle.occ_types.specs.declared.kind.Kind.TheVariants as cells
use Rattle.occ_types.specs.declared.kind.KeyKind.{KeyKind}
use Rattle.occ_types.specs.declared.kind.KeyKind.TheVariants as keys
use Rattle.occ_types.specs.declared.kind.PartKind.{PartKind}
use Rattle.occ_types.specs.declared.kind.PartKind.TheVariants as part_kinds
use Rattle.occ_types.specs.Key.{Key, Num, Text as KeyText, Pair}
use Rattle.occ_types.specs.KeyPart as parts
use Rattle.occ_types.specs.KeyPart.{KeyPart}
use Rattle.occ_types.specs.Row.{Cell, Int, Text as CellText, Row}
use Rattle.occ_bytes.specs.declared.reading.Unread.{Unread}
use Rattle.occ_bytes.specs.declared.reading.Unread.TheVariants as unreads

-- a part of a kind, whose number has 64 bits
abbrev pub IsPart : PartKind → KeyPart → Type 0
IsPart part_kinds.Num (parts.Num number) = number < 2 ^ 64
IsPart part_kinds.Num (parts.Text text) = ⊥
IsPart part_kinds.Text (parts.Num number) = ⊥
IsPart part_kinds.Text (parts.Text text) = ⊤

-- a key of a kind, whose numbers have 64 bits
abbrev pub IsKey : KeyKind → Key → Type 0
IsKey keys.Num (Num number) = number < 2 ^ 64
IsKey keys.Text (KeyText text) = ⊤
IsKey (keys.Pair first second) (Pair part other) = IsPart first part × IsPart second other
IsKey kind key = ⊥

-- a cell of a kind, whose number has 64 bits
abbrev pub IsCell : Kind → Cell → Type 0
IsCell cells.Int (Int number) = cast_signed w64 (cast_unsigned w64 number) ≡ number
IsCell cells.Int (CellText text) = ⊥
IsCell cells.Text (Int number) = ⊥
IsCell cells.Text (CellText text) = ⊤

-- a row of such columns, whose numbers have 64 bits
abbrev pub IsRow : List Kind → Row → Type 0
IsRow [] [] = ⊤
IsRow [] (cell ∷ row) = ⊥
IsRow (kind ∷ kinds) [] = ⊥
IsRow (kind ∷ kinds) (cell ∷ row) = IsCell kind cell × IsRow kinds row

-- the texts are UTF-8
abbrev pub IsUtf8Part : KeyPart → Type 0
IsUtf8Part (parts.Num number) = ⊤
IsUtf8Part (parts.Text text) = IsUtf8 text

abbrev pub IsUtf8Key : Key → Type 0
IsUtf8Key (Num number) = ⊤
IsUtf8Key (KeyText text) = IsUtf8 text
IsUtf8Key (Pair part other) = IsUtf8Part part × IsUtf8Part other

abbrev pub IsUtf8Cell : Cell → Type 0
IsUtf8Cell (Int number) = ⊤
IsUtf8Cell (CellText text) = IsUtf8 text

abbrev pub IsUtf8Row : Row → Type 0
IsUtf8Row [] = ⊤
IsUtf8Row (cell ∷ row) = IsUtf8Cell cell × IsUtf8Row row

-- a cell of a kind stands behind others
pub record IsPushed (kind : Kind) (old new : Row) : Type 0 where
  pub cell : Cell
  pub fits : IsCell kind cell
  pub is : new ≡ old ++ cell ∷ []

-- what may refuse the bytes that something is written as: a text of it that isn't UTF-8, or a want of memory
abbrev pub MayRefuse : Type 0 → Unread → Type 0
MayRefuse utf8 unreads.Malformed = ⊥
MayRefuse utf8 unreads.NotUtf8 = ¬ utf8
MayRefuse utf8 unreads.Memory = ⊤

-- what comes of the bytes that something is written as: that, unless they may be refused
abbrev pub ReadsBack : {C X : Type 0} → (C → X) → X → Type 0 → Result C Unread → Type 0
ReadsBack view written utf8 (Ok read) = view read ≡ written
ReadsBack view written utf8 (Err unread) = MayRefuse utf8 unread

-- the same where nothing but that can come
abbrev pub TakesBack : {C X : Type 0} → (C → X) → X → Option C → Type 0
TakesBack view written None = ⊥
TakesBack view written (Some read) = view read ≡ written

-- what was taken, and what stands behind it
abbrev pub taken_of : {C X : Type 0} → (C → X) → C × Bor (List ℕ) → X × List ℕ
taken_of view taken = (view taken.0, taken.1.now)
