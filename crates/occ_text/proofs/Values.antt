-- Texts, keys, cells and rows: what is read is spelled so, and what is spelled so is read again.
use Rattle.std.proofs.Common.{◌≡◌, ◌≢◌, ℕ, pos, negsuc, ◌-◌, ◌^◌, Bool, true, false, cond, eqb, List, [], ◌∷◌, length, map, drop, Option, Some, None, Result, Ok, Err, option_map, IfOk, IfSome, lit<, refl, sym, ap, subst, ◌∙◌, arith}
use Rattle.std.specs.Prelude.{option_and_then, codes}
use Rattle.std.specs.List.{All, slice_split, join_with_byte}
use Rattle.std.specs.Str.{IsUtf8, is_utf8, bytes_eq}
use Rattle.std.proofs.lemmas.Bool.{false_from_ne_true, false≢true}
use Rattle.std.proofs.lemmas.List.{length-map}
use Rattle.std.proofs.lemmas.List.Elements.{All-nil, All-cons, All-head, All-tail}
use Rattle.std.proofs.lemmas.List.Splits.{join_with_byte-slice_split, length-slice_split}
use Rattle.std.proofs.lemmas.Str.{IsUtf8-from_is_utf8, is_utf8-from_IsUtf8}
use Rattle.std.proofs.lemmas.Slice.Eq.{bytes_eq-Decides}
use Rattle.occ_types.specs.Key.{Key}
use Rattle.occ_types.specs.Key as keys
use Rattle.occ_types.specs.KeyPart.{KeyPart}
use Rattle.occ_types.specs.KeyPart as parts
use Rattle.occ_types.specs.Row.{Cell, Row}
use Rattle.occ_types.specs.Row as rows
use Rattle.occ_text.specs.declared.tokens.Unread.{Unread}
use Rattle.occ_text.specs.declared.versions.Version.{Version}
use Rattle.occ_text.specs.declared.versions.Version.TheVariants.{One, Two}
use Rattle.occ_types.specs.Spelling.{is_plain, text_text, part_text, key_text, cell_text, row_text}
use Rattle.occ_text.specs.Spelling.{end_text, IsText, PartFits, KeyFits, EndFits, CellFits, RowFits}
use Rattle.occ_text.specs.Reading.{Reads, begins_with, number_of, int_of}
use Rattle.occ_text.specs.Escapes.{Gives, unescaped, if_text, text_of, read_part, key_of_part, simple_key, pair_key, key_of_parts, read_key, is_missing, read_end, read_cell, read_cells, read_row}
use Rattle.occ_text.proofs.Numbers.{first_is, number_takes, number_again, int_takes, int_again, decimal_begins_otherwise, some_or_none}
use Rattle.occ_text.proofs.Escapes.{some_is, bind_value, map_value, unescaped_takes, unescaped_again}
use Rattle.occ_text.proofs.Words.{split_joined}
use Rattle.occ_text.proofs.Spelled.{OfSpellings, of_part, of_key, of_cell, pos_small}

-- ---- from a reader of lists to a call

pub found_by : {X Y : Type 0} (view : X → Y) (r : Result X Unread) (read : Option Y) (spell : Y → List ℕ) (fits : Y → Type 0) (token : List ℕ)
    → Gives view r read → Reads spell fits token read → IfOk r (λ x. (token ≡ spell (view x)) × fits (view x))
found_by view (Ok x) read spell fits token gives reads = subst (λ o. IfSome o (λ y. (token ≡ spell y) × fits y)) gives reads.found
found_by view (Err e) read spell fits token gives reads = tt

pub again_by : {X Y : Type 0} (view : X → Y) (r : Result X Unread) (read : Option Y) (spell : Y → List ℕ) (fits : Y → Type 0) (token : List ℕ)
    → Gives view r read → Reads spell fits token read → (y : Y) → fits y → token ≡ spell y → Gives view r (Some y)
again_by view r read spell fits token gives reads y fit e = subst (Gives view r) (reads.again y fit e) gives

-- ---- texts

text_cases : (b : Bool) (o : Option (List ℕ)) (y : List ℕ) → cond b o None ≡ Some y → (b ≡ true) × (o ≡ Some y)
text_cases true o y h = (refl, h)
text_cases false o y h = absurd cc

if_takes : (b : Bool) (bytes y : List ℕ) → cond b (Some bytes) None ≡ Some y → (b ≡ true) × (bytes ≡ y)
if_takes true bytes y h = (refl, cc)
if_takes false bytes y h = absurd cc

text_takes : (token bytes : List ℕ) → text_of token ≡ Some bytes → (token ≡ text_text bytes) × IsText bytes
unfolding text_of
text_takes token bytes h =
    let c = text_cases (begins_with token 39) (option_and_then if_text (unescaped (drop 1 token))) bytes h in
    let u = bind_value (unescaped (drop 1 token)) if_text bytes c.1 in
    let t = if_takes (is_utf8 u.0) u.0 bytes u.2 in
    let e = unescaped_takes (drop 1 token) u.0 u.1 in
    subst (λ (l : List ℕ). (token ≡ text_text l) × IsText l) t.1
    (first_is token 39 c.0 ∙ ap (λ (l : List ℕ). 39 ∷ l) e.spelled, record { utf8 = IsUtf8-from_is_utf8 u.0 t.0; small = e.small })

text_again : (bytes : List ℕ) → IsText bytes → text_of (text_text bytes) ≡ Some bytes
unfolding text_of
text_again bytes fits = rw (unescaped_again bytes fits.small, is_utf8-from_IsUtf8 bytes fits.utf8) refl

pub text_reads : (token : List ℕ) → Reads text_text IsText token (text_of token)
text_reads token = record {
  found = some_or_none (text_of token) (λ bytes. (token ≡ text_text bytes) × IsText bytes) (λ bytes h. text_takes token bytes h);
  again = λ bytes fits e. ap text_of e ∙ text_again bytes fits;
}

-- what a string was made of is read
pub text_made : (token rest bytes : List ℕ) → begins_with token 39 ≡ true → rest ≡ drop 1 token → unescaped rest ≡ Some bytes → IsUtf8 bytes → text_of token ≡ Some bytes
unfolding text_of
text_made token rest bytes first is u text = rw (first, ← is, u, is_utf8-from_IsUtf8 bytes text) refl

-- what no string can be made of is not
pub text_refused : (token rest bytes : List ℕ) → begins_with token 39 ≡ true → rest ≡ drop 1 token → unescaped rest ≡ Some bytes → (IsUtf8 bytes → ⊥) → text_of token ≡ None
unfolding text_of
text_refused token rest bytes first is u other = rw (first, ← is, u, false_from_ne_true (is_utf8 bytes) (λ t. other (IsUtf8-from_is_utf8 bytes t))) refl

-- ---- what stands between values

abbrev pub Lacks : ℕ → List ℕ → Type 0
Lacks separator bytes = All (λ byte. byte ≢ separator) bytes

-- a byte that stands in no cell, and in no key
abbrev pub Separates : ℕ → Type 0
Separates separator = OfSpellings (λ byte. byte ≢ separator)

pub plain_differs : (separator byte : ℕ) → is_plain separator ≡ false → is_plain byte ≡ true → byte ≢ separator
plain_differs separator byte other h e = absurd (false≢true (sym other ∙ ap is_plain (sym e) ∙ h))

pub comma_separates : Separates 44
comma_separates = record {
  plain = λ byte h. plain_differs 44 byte refl h;
  percent = λ e. omega arith;
  quote = λ e. omega arith;
  minus = λ e. omega arith;
  digit = λ n lt e. omega arith;
  letter = λ n le lt e. omega arith;
}

-- neither sign of version 2 stands in a part
plus_separates : Separates 43
plus_separates = record {
  plain = λ byte h. plain_differs 43 byte refl h;
  percent = λ e. omega arith;
  quote = λ e. omega arith;
  minus = λ e. omega arith;
  digit = λ n lt e. omega arith;
  letter = λ n le lt e. omega arith;
}

star_separates : Separates 42
star_separates = record {
  plain = λ byte h. plain_differs 42 byte refl h;
  percent = λ e. omega arith;
  quote = λ e. omega arith;
  minus = λ e. omega arith;
  digit = λ n lt e. omega arith;
  letter = λ n le lt e. omega arith;
}

-- ---- parts of keys

part_cases : (b : Bool) (token : List ℕ) (part : KeyPart) → cond b (option_map parts.Text (text_of token)) (option_map parts.Num (number_of (2 ^ 64 - 1) token)) ≡ Some part
    → (token ≡ part_text part) × PartFits part
part_cases true token part h =
    let m = map_value (text_of token) parts.Text part h in
    subst (λ (k : KeyPart). (token ≡ part_text k) × PartFits k) m.2 (text_takes token m.0 m.1)
part_cases false token part h =
    let m = map_value (number_of (2 ^ 64 - 1) token) parts.Num part h in
    let t = number_takes (2 ^ 64 - 1) token m.0 m.1 in
    subst (λ (k : KeyPart). (token ≡ part_text k) × PartFits k) m.2 (t.0, omega arith)

part_takes : (token : List ℕ) (part : KeyPart) → read_part token ≡ Some part → (token ≡ part_text part) × PartFits part
unfolding read_part
part_takes token part h = part_cases (begins_with token 39) token part h

part_again : (part : KeyPart) → PartFits part → read_part (part_text part) ≡ Some part
unfolding read_part
part_again (parts.Num n) fits = rw (decimal_begins_otherwise n 39 fits (lit< tt), number_again (2 ^ 64 - 1) n (lit< tt) (omega arith)) refl
part_again (parts.Text bytes) fits = ap (option_map parts.Text) (text_again bytes fits)

part_lacks : (part : KeyPart) → PartFits part → Lacks 43 (part_text part)
part_lacks part fits = of_part (λ byte. byte ≢ 43) part plus_separates fits

-- ---- keys

-- a part alone is a key of every version
alone_fits : (version : Version) (token : List ℕ) (part : KeyPart) → token ≡ part_text part → PartFits part → (token ≡ key_text (key_of_part part)) × KeyFits version (key_of_part part)
alone_fits version token (parts.Num n) same fits = (same, fits)
alone_fits version token (parts.Text bytes) same fits = (same, fits)

simple_takes : (version : Version) (token : List ℕ) (key : Key) → simple_key token ≡ Some key → (token ≡ key_text key) × KeyFits version key
unfolding simple_key
simple_takes version token key h =
    let m = map_value (read_part token) key_of_part key h in
    let t = part_takes token m.0 m.1 in
    subst (λ (k : Key). (token ≡ key_text k) × KeyFits version k) m.2 (alone_fits version token m.0 t.0 t.1)

pair_takes : (first second : List ℕ) (key : Key) → pair_key first second ≡ Some key → (join_with_byte 43 (first ∷ second ∷ []) ≡ key_text key) × KeyFits Two key
unfolding pair_key
pair_takes first second key h =
    let a = bind_value (read_part first) (λ a. option_map (λ b. keys.Pair a b) (read_part second)) key h in
    let b = map_value (read_part second) (λ b. keys.Pair a.0 b) key a.2 in
    let x = part_takes first a.0 a.1 in
    let y = part_takes second b.0 b.1 in
    subst (λ (k : Key). (join_with_byte 43 (first ∷ second ∷ []) ≡ key_text k) × KeyFits Two k) b.2
    ((λ i. join_with_byte 43 (x.0 i ∷ y.0 i ∷ [])), (refl, x.1, y.1))

key_parts_take : (tokens : List (List ℕ)) (key : Key) → key_of_parts tokens ≡ Some key → (join_with_byte 43 tokens ≡ key_text key) × KeyFits Two key
unfolding key_of_parts
key_parts_take [] key h = absurd cc
key_parts_take (first ∷ []) key h = simple_takes Two first key h
key_parts_take (first ∷ second ∷ []) key h = pair_takes first second key h
key_parts_take (first ∷ second ∷ other ∷ more) key h = absurd cc

key_takes : (version : Version) (token : List ℕ) (key : Key) → read_key version token ≡ Some key → (token ≡ key_text key) × KeyFits version key
unfolding read_key
key_takes One token key h = simple_takes One token key h
key_takes Two token key h =
    let p = key_parts_take (slice_split (λ byte. eqb byte 43) token) key h in
    (sym (join_with_byte-slice_split 43 token) ∙ p.0, p.1)

alone_again : (version : Version) (part : KeyPart) → PartFits part → read_key version (part_text part) ≡ Some (key_of_part part)
unfolding read_key key_of_parts simple_key
alone_again One part fits = ap (option_map key_of_part) (part_again part fits)
alone_again Two part fits =
    let each = All-cons (Lacks 43) (part_text part) [] (part_lacks part fits) (All-nil (Lacks 43)) in
    ap key_of_parts (split_joined 43 (part_text part ∷ []) (omega arith) each) ∙ ap (option_map key_of_part) (part_again part fits)

pair_again : (a b : KeyPart) → PartFits a → PartFits b → read_key Two (key_text (keys.Pair a b)) ≡ Some (keys.Pair a b)
unfolding read_key key_of_parts pair_key
pair_again a b x y =
    let each = All-cons (Lacks 43) (part_text a) (part_text b ∷ []) (part_lacks a x) (All-cons (Lacks 43) (part_text b) [] (part_lacks b y) (All-nil (Lacks 43))) in
    ap key_of_parts (split_joined 43 (part_text a ∷ part_text b ∷ []) (omega arith) each) ∙ rw (part_again a x, part_again b y) refl

key_again : (version : Version) (key : Key) → KeyFits version key → read_key version (key_text key) ≡ Some key
key_again version (keys.Num n) fits = alone_again version (parts.Num n) fits
key_again version (keys.Text bytes) fits = alone_again version (parts.Text bytes) fits
key_again version (keys.Pair a b) fits = subst (λ (v : Version). read_key v (key_text (keys.Pair a b)) ≡ Some (keys.Pair a b)) (sym fits.0) (pair_again a b fits.1 fits.2)

pub key_reads : (version : Version) (token : List ℕ) → Reads key_text (KeyFits version) token (read_key version token)
key_reads version token = record {
  found = some_or_none (read_key version token) (λ key. (token ≡ key_text key) × KeyFits version key) (λ key h. key_takes version token key h);
  again = λ key fits e. ap (read_key version) e ∙ key_again version key fits;
}

-- ---- ends of ranges

missing_takes : (version : Version) (token : List ℕ) → is_missing version token ≡ true → (token ≡ codes "*") × (version ≡ Two)
missing_takes One token h = absurd cc
missing_takes Two token h = ((bytes_eq-Decides token (codes "*")).0 h, refl)

end_cases : (version : Version) (token : List ℕ) (end : Option Key) (missing : Bool) → is_missing version token ≡ missing → cond missing (Some None) (option_map Some (read_key version token)) ≡ Some end
    → (token ≡ end_text end) × EndFits version end
end_cases version token end true is h = subst (λ (e : Option Key). (token ≡ end_text e) × EndFits version e) (some_is None end h) (missing_takes version token is)
end_cases version token end false is h =
    let m = map_value (read_key version token) Some end h in
    subst (λ (e : Option Key). (token ≡ end_text e) × EndFits version e) m.2 (key_takes version token m.0 m.1)

end_takes : (version : Version) (token : List ℕ) (end : Option Key) → read_end version token ≡ Some end → (token ≡ end_text end) × EndFits version end
unfolding read_end
end_takes version token end h = end_cases version token end (is_missing version token) refl h

star_is_no_key : (version : Version) (key : Key) → KeyFits version key → key_text key ≡ codes "*" → ⊥
star_is_no_key version key fits e =
    let none = subst (Lacks 42) e (of_key (λ byte. byte ≢ 42) version key star_separates (λ same. omega arith) fits) in
    All-head (λ byte. byte ≢ 42) 42 [] none refl

key_is_there : (version : Version) (key : Key) → KeyFits version key → is_missing version (key_text key) ≡ false
key_is_there One key fits = refl
key_is_there Two key fits = false_from_ne_true (bytes_eq (key_text key) (codes "*")) (λ t. star_is_no_key Two key fits ((bytes_eq-Decides (key_text key) (codes "*")).0 t))

star_again : (version : Version) → version ≡ Two → read_end version (codes "*") ≡ Some None
unfolding read_end
star_again One two = absurd cc
star_again Two two = refl

there_again : (version : Version) (key : Key) → KeyFits version key → read_end version (key_text key) ≡ Some (Some key)
unfolding read_end
there_again version key fits = rw (key_is_there version key fits, key_again version key fits) refl

end_again : (version : Version) (end : Option Key) → EndFits version end → read_end version (end_text end) ≡ Some end
end_again version None fits = star_again version fits
end_again version (Some key) fits = there_again version key fits

pub end_reads : (version : Version) (token : List ℕ) → Reads end_text (EndFits version) token (read_end version token)
end_reads version token = record {
  found = some_or_none (read_end version token) (λ end. (token ≡ end_text end) × EndFits version end) (λ end h. end_takes version token end h);
  again = λ end fits e. ap (read_end version) e ∙ end_again version end fits;
}

-- ---- cells

cell_cases : (b : Bool) (token : List ℕ) (cell : Cell) → cond b (option_map rows.Text (text_of token)) (option_map rows.Int (int_of token)) ≡ Some cell
    → (token ≡ cell_text cell) × CellFits cell
cell_cases true token cell h =
    let m = map_value (text_of token) rows.Text cell h in
    subst (λ (k : Cell). (token ≡ cell_text k) × CellFits k) m.2 (text_takes token m.0 m.1)
cell_cases false token cell h =
    let m = map_value (int_of token) rows.Int cell h in
    subst (λ (k : Cell). (token ≡ cell_text k) × CellFits k) m.2 (int_takes token m.0 m.1)

cell_takes : (token : List ℕ) (cell : Cell) → read_cell token ≡ Some cell → (token ≡ cell_text cell) × CellFits cell
unfolding read_cell
cell_takes token cell h = cell_cases (begins_with token 39) token cell h

cell_again : (cell : Cell) → CellFits cell → read_cell (cell_text cell) ≡ Some cell
unfolding read_cell
cell_again (rows.Int (pos n)) fits = rw (decimal_begins_otherwise n 39 (pos_small n fits) (lit< tt), int_again (pos n) fits) refl
cell_again (rows.Int (negsuc n)) fits = ap (option_map rows.Int) (int_again (negsuc n) fits)
cell_again (rows.Text bytes) fits = ap (option_map rows.Text) (text_again bytes fits)

-- ---- rows

-- no separator stands in a cell, or in a key
pub cell_lacks : (separator : ℕ) (cell : Cell) → Separates separator → CellFits cell → Lacks separator (cell_text cell)
cell_lacks separator cell s fits = of_cell (λ byte. byte ≢ separator) cell s fits

-- cells that were read are spelled by their parts, and fit
record Cells (parts : List (List ℕ)) (cells : Row) : Type 0 where
  spelled : map cell_text cells ≡ parts
  each : All CellFits cells

cells_take : (parts : List (List ℕ)) (cells : Row) → read_cells parts ≡ Some cells → Cells parts cells
cells_take [] cells h = subst (Cells []) (some_is [] cells h) (record { spelled = refl; each = All-nil CellFits })
cells_take (part ∷ parts) cells h =
    let b = bind_value (read_cell part) (λ cell. option_map (λ more. cell ∷ more) (read_cells parts)) cells h in
    let m = map_value (read_cells parts) (λ more. b.0 ∷ more) cells b.2 in
    let c = cell_takes part b.0 b.1 in
    let rest = cells_take parts m.0 m.1 in
    subst (Cells (part ∷ parts)) m.2 (record {
      spelled = ap (λ (l : List ℕ). l ∷ map cell_text m.0) (sym c.0) ∙ ap (λ (l : List (List ℕ)). part ∷ l) rest.spelled;
      each = All-cons CellFits b.0 m.0 c.1 rest.each;
    })

row_takes : (token : List ℕ) (cells : Row) → read_row token ≡ Some cells → (token ≡ row_text cells) × RowFits cells
unfolding read_row
row_takes token cells h =
    let parts = slice_split (λ byte. eqb byte 44) token in
    let c = cells_take parts cells h in
    let n = length-slice_split (λ (byte : ℕ). eqb byte 44) token in
    let m : length cells ≡ length (slice_split (λ (byte : ℕ). eqb byte 44) token) = sym (length-map cells cell_text) ∙ ap length c.spelled in
    (sym (join_with_byte-slice_split 44 token) ∙ ap (join_with_byte 44) (sym c.spelled), record { some = omega arith; each = c.each })

cells_again : (cells : Row) → All CellFits cells → read_cells (map cell_text cells) ≡ Some cells
cells_again [] each = refl
cells_again (cell ∷ cells) each =
    rw (cell_again cell (All-head CellFits cell cells each), cells_again cells (All-tail CellFits cell cells each)) refl

each_lacks : (cells : Row) → All CellFits cells → All (Lacks 44) (map cell_text cells)
each_lacks [] each = All-nil (Lacks 44)
each_lacks (cell ∷ cells) each =
    All-cons (Lacks 44) (cell_text cell) (map cell_text cells) (cell_lacks 44 cell comma_separates (All-head CellFits cell cells each)) (each_lacks cells (All-tail CellFits cell cells each))

row_again : (cells : Row) → RowFits cells → read_row (row_text cells) ≡ Some cells
unfolding read_row
row_again cells fits =
    ap read_cells (split_joined 44 (map cell_text cells) (omega (arith, length-map cells cell_text, fits.some)) (each_lacks cells fits.each)) ∙ cells_again cells fits.each

pub row_reads : (token : List ℕ) → Reads row_text RowFits token (read_row token)
row_reads token = record {
  found = some_or_none (read_row token) (λ cells. (token ≡ row_text cells) × RowFits cells) (λ cells h. row_takes token cells h);
  again = λ cells fits e. ap read_row e ∙ row_again cells fits;
}
