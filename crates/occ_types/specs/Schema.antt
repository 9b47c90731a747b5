-- The tables of a store, and what fits them (our own choice). Each check answers the first fault, in the order in which the tests stand.
use Rattle.std.specs.Prelude.{ℕ, Bool, true, false, not, nat_le, nat_lt, nat_eq, ◌&&◌, ◌||◌, List, [], ◌∷◌, length, Option, None, Some, slice_get}
use Rattle.std.specs.List.{list_all, list_any}
use Rattle.std.specs.Cmp.Lexicographic.{pointwise}
use Rattle.std.specs.Ordering.{is_lt}
use Rattle.occ_types.specs.declared.fault.Fault.{Fault}
use Rattle.occ_types.specs.declared.fault.Fault.TheVariants.{NoTable, WrongKind, WrongColumns, TooLong, EmptyRange, BadSchema}
use Rattle.occ_types.specs.declared.kind.Kind.{Kind}
use Rattle.occ_types.specs.declared.kind.Kind.TheVariants as cells
use Rattle.occ_types.specs.declared.kind.KeyKind.{KeyKind}
use Rattle.occ_types.specs.declared.kind.KeyKind.TheVariants as keys
use Rattle.occ_types.specs.declared.kind.PartKind.{PartKind}
use Rattle.occ_types.specs.declared.kind.PartKind.TheVariants as part_kinds
use Rattle.occ_types.specs.declared.limits.TheConstants.{MAX_TABLES, MAX_COLUMNS, MAX_NAME_LETTERS, MAX_KEY_BYTES, MAX_CELL_BYTES}
use Rattle.occ_types.specs.Key.{Key, Num, Text as KeyText, Pair, key_cmp}
use Rattle.occ_types.specs.KeyPart as parts
use Rattle.occ_types.specs.KeyPart.{KeyPart}
use Rattle.occ_types.specs.Row.{Cell, Int, Text as CellText, Row}
use Rattle.occ_types.specs.Question.{Question, One, Span}

pub record Table : Type 0 where
  pub name : List ℕ
  pub key : KeyKind
  pub columns : List Kind

-- its tables, which are named by their places
abbrev pub Schema : Type 0
Schema = List Table

-- a fault where the test is true
abbrev pub fault_if : Bool → Fault → Option Fault
fault_if true fault = Some fault
fault_if false fault = None

-- the first fault of some tests
abbrev pub first_fault : List (Option Fault) → Option Fault
first_fault [] = None
first_fault (None ∷ tests) = first_fault tests
first_fault (Some fault ∷ tests) = Some fault

abbrev pub part_has_kind : PartKind → KeyPart → Bool
part_has_kind part_kinds.Num (parts.Num n) = true
part_has_kind part_kinds.Text (parts.Text t) = true
part_has_kind kind part = false

abbrev pub part_is_too_long : KeyPart → Bool
part_is_too_long (parts.Num n) = false
part_is_too_long (parts.Text t) = nat_lt MAX_KEY_BYTES (length t)

abbrev pub key_has_kind : KeyKind → Key → Bool
key_has_kind keys.Num (Num n) = true
key_has_kind keys.Text (KeyText t) = true
key_has_kind (keys.Pair k l) (Pair a b) = part_has_kind k a && part_has_kind l b
key_has_kind kind key = false

abbrev pub key_is_too_long : Key → Bool
key_is_too_long (Num n) = false
key_is_too_long (KeyText t) = nat_lt MAX_KEY_BYTES (length t)
key_is_too_long (Pair a b) = part_is_too_long a || part_is_too_long b

abbrev pub cell_has_kind : Kind → Cell → Bool
cell_has_kind cells.Int (Int z) = true
cell_has_kind cells.Int (CellText t) = false
cell_has_kind cells.Text (Int z) = false
cell_has_kind cells.Text (CellText t) = true

abbrev pub cell_is_too_long : Cell → Bool
cell_is_too_long (Int z) = false
cell_is_too_long (CellText t) = nat_lt MAX_CELL_BYTES (length t)

-- whether a key fits a table
abbrev pub check_key_in : Table → Key → Option Fault
check_key_in table key = first_fault (
    fault_if (not (key_has_kind table.key key)) WrongKind
    ∷ fault_if (key_is_too_long key) TooLong
    ∷ [])

-- whether a cell fits its column
abbrev pub check_cell : Kind → Cell → Option Fault
check_cell kind cell = first_fault (
    fault_if (not (cell_has_kind kind cell)) WrongKind
    ∷ fault_if (cell_is_too_long cell) TooLong
    ∷ [])

-- whether each cell fits its column
abbrev pub check_cells : List Kind → Row → Option Fault
check_cells [] row = None
check_cells (kind ∷ kinds) [] = None
check_cells (kind ∷ kinds) (cell ∷ row) = first_fault (check_cell kind cell ∷ check_cells kinds row ∷ [])

-- whether a row fits a table
abbrev pub check_row_in : Table → Row → Option Fault
check_row_in table row = first_fault (
    fault_if (not (nat_eq (length row) (length table.columns))) WrongColumns
    ∷ check_cells table.columns row
    ∷ [])

-- a check of the table at a place of the schema, where there is one
abbrev pub in_table : Schema → ℕ → (Table → Option Fault) → Option Fault
in_table schema place check = elim (slice_get schema place) [ None ↦ Some NoTable | Some table ↦ check table ]

abbrev pub check_key : Schema → ℕ → Key → Option Fault
check_key schema place key = in_table schema place (λ table. check_key_in table key)

abbrev pub check_row : Schema → ℕ → Row → Option Fault
check_row schema place row = in_table schema place (λ table. check_row_in table row)

-- an end of a range, where there is one
abbrev pub check_end : Table → Option Key → Option Fault
check_end table None = None
check_end table (Some end) = check_key_in table end

-- whether both ends are there, and the lower one is not below the upper one
abbrev pub is_empty_range : Option Key → Option Key → Bool
is_empty_range None upper = false
is_empty_range (Some lower) None = false
is_empty_range (Some lower) (Some upper) = not (is_lt (key_cmp lower upper))

-- whether a range fits its table
abbrev pub check_range : Table → Option Key → Option Key → Option Fault
check_range table lower upper = first_fault (
    check_end table lower
    ∷ check_end table upper
    ∷ fault_if (is_empty_range lower upper) EmptyRange
    ∷ [])

abbrev pub check_question : Schema → Question → Option Fault
check_question schema (One place key) = check_key schema place key
check_question schema (Span place lower upper) = in_table schema place (λ table. check_range table lower upper)

-- a letter a to z
abbrev pub is_letter : ℕ → Bool
is_letter byte = nat_le 97 byte && nat_le byte 122

-- 1 to 16 letters
abbrev pub is_name : List ℕ → Bool
is_name name = nat_le 1 (length name) && (nat_le (length name) MAX_NAME_LETTERS && list_all is_letter name)

-- whether a table may stand before others in a schema: it has a name of its own, and 1 to 8 columns
abbrev pub fits_before : Table → Schema → Bool
fits_before table tables =
    (is_name table.name && not (list_any (λ other. pointwise nat_eq table.name other.name) tables))
    && (nat_le 1 (length table.columns) && nat_le (length table.columns) MAX_COLUMNS)

-- whether each table has a name of its own, and 1 to 8 columns
abbrev pub are_tables : Schema → Bool
are_tables [] = true
are_tables (table ∷ tables) = fits_before table tables && are_tables tables

-- whether 1 to 32 tables make a schema
abbrev pub check_tables : Schema → Option Fault
check_tables schema = fault_if (not (nat_le 1 (length schema) && nat_le (length schema) MAX_TABLES && are_tables schema)) BadSchema

-- whether a table has a name
abbrev pub has_name : List ℕ → Table → Bool
has_name name table = pointwise nat_eq table.name name
