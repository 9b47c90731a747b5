-- How long keys and rows are that fit a schema.
use Rattle.std.proofs.Common.{◌≡◌, ℕ, suc, pos, negsuc, ◌*◌, ◌≤◌, Bool, true, false, List, ◌∷◌, map, length, ◌||◌, not, Option, Some, None, refl, sym, subst, arith, length-append, []}
use Rattle.occ_reading.proofs.Common.{All, All-head, All-tail, AllByRecursion, Cell, CellFits, EndFits, Fault, IsSchema-from_check, Key, KeyFits, Kind, ObjectFits, PartFits, Row, RowFits, RowFitsIn, Schema, Span, SpanFits, Table, TableFits, TooLong, Version, WrongColumns, WrongKind, cell_is_too_long, cell_text, check_cell, check_cells, check_end, check_key_in, check_row_in, check_tables, decimal_width, each_fits, end_text, eqb-true, escape_spelling, escaped, escaped_byte, fault_if, first_fault, is_plain, joined_width, key_text, ltb-false, nat_eq, nat_lt, negsuc_small, part_is_too_long, part_text, plain_spelling, pos_small, row_text, width}
use Rattle.occ_types.specs.KeyPart.{KeyPart}
use Rattle.occ_types.specs.Key as keys
use Rattle.occ_types.specs.KeyPart as parts
use Rattle.occ_types.specs.Row as cells
use Rattle.occ_text.proofs.SchemaLines.{neither}
use Rattle.occ_reading.proofs.TableNames.{no_fault, fits_there}

byte_width : (b : Bool) (byte : ℕ) → is_plain byte ≡ b → length (escaped_byte byte) ≤ 3
byte_width true byte h = subst (λ (l : List ℕ). length l ≤ 3) (sym (plain_spelling byte h)) (omega arith)
byte_width false byte h = subst (λ (l : List ℕ). length l ≤ 3) (sym (escape_spelling byte h)) (omega arith)

escaped_width : (bytes : List ℕ) → length (escaped bytes) ≤ 3 * length bytes
escaped_width [] = omega arith
escaped_width (byte ∷ bytes) =
    let first = byte_width (is_plain byte) byte refl in
    let rest = escaped_width bytes in
    omega (arith, length-append (escaped_byte byte) (escaped bytes))

no_faults : (tests : List (Option Fault)) → first_fault tests ≡ None → AllByRecursion (λ test. test ≡ None) tests
no_faults [] h = tt
no_faults (None ∷ tests) h = (refl, no_faults tests h)
no_faults (Some fault ∷ tests) h = absurd cc

is_off : (b : Bool) (fault : Fault) → fault_if b fault ≡ None → b ≡ false
is_off true fault h = absurd cc
is_off false fault h = refl

part_width : (part : KeyPart) → PartFits part → part_is_too_long part ≡ false → length (part_text part) ≤ 193
part_width (parts.Num n) fits good = let d = decimal_width n fits in omega arith
part_width (parts.Text bytes) fits good =
    let few = ltb-false 64 (length bytes) good in
    let e = escaped_width bytes in
    omega arith

key_width : (version : Version) (table : Table) (key : Key) → KeyFits version key → check_key_in table key ≡ None → length (key_text key) ≤ 387
key_width version table (keys.Num n) fits good = let d = decimal_width n fits in omega arith
key_width version table (keys.Text bytes) fits good =
    let few = ltb-false 64 (length bytes) (is_off _ TooLong (no_faults (fault_if _ WrongKind ∷ fault_if (nat_lt 64 (length bytes)) TooLong ∷ []) good).1.0) in
    let e = escaped_width bytes in
    omega arith
key_width version table (keys.Pair a b) fits good =
    let passed = no_faults (fault_if _ WrongKind ∷ fault_if (part_is_too_long a || part_is_too_long b) TooLong ∷ []) good in
    let short = neither (part_is_too_long a) (part_is_too_long b) (is_off _ TooLong passed.1.0) in
    let first = part_width a fits.1 short.0 in
    let second = part_width b fits.2 short.1 in
    omega (arith, length-append (part_text a) (43 ∷ part_text b))

cell_width : (cell : Cell) → CellFits cell → cell_is_too_long cell ≡ false → length (cell_text cell) ≤ 769
cell_width (cells.Int (pos n)) fits good = let d = decimal_width n (pos_small n fits) in omega arith
cell_width (cells.Int (negsuc n)) fits good = let d = decimal_width (suc n) (negsuc_small n fits) in omega arith
cell_width (cells.Text bytes) fits good =
    let few = ltb-false 256 (length bytes) good in
    let e = escaped_width bytes in
    omega arith

cells_width : (kinds : List Kind) (row : Row) → length row ≡ length kinds → All CellFits row → check_cells kinds row ≡ None → width (map cell_text row) ≤ 770 * length kinds
cells_width kinds [] same each good = omega arith
cells_width [] (cell ∷ row) same each good = absurd (omega arith)
cells_width (kind ∷ kinds) (cell ∷ row) same each good =
    let p = no_faults (check_cell kind cell ∷ check_cells kinds row ∷ []) good in
    let fits = no_faults (fault_if _ WrongKind ∷ fault_if (cell_is_too_long cell) TooLong ∷ []) p.0 in
    let first = cell_width cell (All-head CellFits cell row each) (is_off _ TooLong fits.1.0) in
    let rest = cells_width kinds row (omega arith) (All-tail CellFits cell row each) p.1.0 in
    omega arith

row_passes : (b : Bool) (o : Option Fault) → first_fault (fault_if (not b) WrongColumns ∷ o ∷ []) ≡ None → (b ≡ true) × (o ≡ None)
row_passes false o h = absurd cc
row_passes true None h = (refl, refl)
row_passes true (Some fault) h = absurd cc

row_width : (table : Table) (row : Row) → TableFits table → RowFits row → check_row_in table row ≡ None → length (row_text row) ≤ 6160
row_width table row few fits good =
    let p = row_passes (nat_eq (length row) (length table.columns)) (check_cells table.columns row) good in
    let same = eqb-true (length row) (length table.columns) p.0 in
    let w = cells_width table.columns row same fits.each p.1 in
    let j = joined_width 44 (map cell_text row) in
    let most = few.few in
    omega arith

-- ---- of a schema

pub object_key_width : (version : Version) (schema : Schema) (table : ℕ) (key : Key) → ObjectFits version schema (table, key) → length (key_text key) ≤ 387
object_key_width version schema table key fits = let t = no_fault schema table _ fits.checked in key_width version t.0 key fits.key t.2

pub row_in_width : (schema : Schema) (table : ℕ) (row : Row) → check_tables schema ≡ None → RowFitsIn schema table row → length (row_text row) ≤ 6160
row_in_width schema table row good fits =
    let t = no_fault schema table _ fits.checked in
    row_width t.0 row (fits_there schema table t.0 (each_fits schema (IsSchema-from_check schema good).each) t.1) fits.cells t.2

end_width : (version : Version) (table : Table) (end : Option Key) → EndFits version end → check_end table end ≡ None → length (end_text end) ≤ 387
end_width version table None fits good = omega arith
end_width version table (Some key) fits good = key_width version table key fits good

pub ends_width : (version : Version) (schema : Schema) (table : ℕ) (lower upper : Option Key) → SpanFits version schema (Span table lower upper) → (length (end_text lower) ≤ 387) × (length (end_text upper) ≤ 387)
ends_width version schema table lower upper fits =
    let t = no_fault schema table _ fits.checked in
    let p = no_faults (check_end t.0 lower ∷ check_end t.0 upper ∷ _ ∷ []) t.2 in
    (end_width version t.0 lower fits.ends.0 p.0, end_width version t.0 upper fits.ends.1 p.1.0)
