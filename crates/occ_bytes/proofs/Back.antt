-- What is written is read back.
use Rattle.std.proofs.Common.{◌≡◌, ℕ, ◌+◌, ◌≤◌, ◌<◌, ◌^◌, zero, suc, Bool, true, false, List, [], ◌∷◌, ◌++◌, length, take, drop, refl, sym, ap, subst, ◌∙◌, append_assoc, append-nil, arith, Option, None, Result, Ok, Err}
use Rattle.std.specs.Prelude.{◌==◌, get_or, IsErrAnd}
use Rattle.std.specs.Int.{w64, from_le_bytes}
use Rattle.std.proofs.lemmas.Nat.{from_le_bytes-to_le_bytes_8}
use Rattle.std.proofs.lemmas.Bool.{eqb-true}
use Rattle.std.proofs.lemmas.List.{length-append, nil_from_length}
use Rattle.std.proofs.Math.Seq.{take-append_seam, drop-append_seam}
use Rattle.occ_types.specs.declared.kind.Kind.{Kind}
use Rattle.occ_types.specs.declared.kind.PartKind.{PartKind}
use Rattle.occ_types.specs.declared.kind.KeyKind.TheVariants as key_kinds
use Rattle.occ_types.specs.Key.{Key, Num, Text as KeyText, Pair}
use Rattle.occ_types.specs.KeyPart.{KeyPart}
use Rattle.occ_types.specs.Row.{Cell, Row}
use Rattle.occ_bytes.specs.declared.reading.Unread.{Unread}
use Rattle.occ_bytes.specs.declared.reading.Unread.TheVariants as unreads
use Rattle.occ_bytes.specs.Bytes.{number_bytes, part_bytes, key_bytes, cell_bytes, row_bytes}
use Rattle.occ_types.proofs.Walks.{drop_at}
use Rattle.occ_bytes.specs.Reading.{IsPart, IsKey, IsCell, IsRow, IsPushed, IsUtf8Part, IsUtf8Key, IsUtf8Cell, IsUtf8Row, MayRefuse, ReadsBack, TakesBack}
use Rattle.occ_bytes.proofs.Rooms.{eight}

number_read : (n : ℕ) → n < 2 ^ 64 → from_le_bytes w64 (number_bytes n) ≡ n
unfolding number_bytes
number_read n small = from_le_bytes-to_le_bytes_8 n small

pub number_back : (bytes front behind : List ℕ) (m n : ℕ) (rest : List ℕ) → front ≡ take 8 bytes → behind ≡ drop 8 bytes → m ≡ from_le_bytes w64 front → n < 2 ^ 64
    → bytes ≡ number_bytes n ++ rest → ◌≡◌ {A = ℕ × List ℕ} (m, behind) (n, rest)
number_back bytes front behind m n rest starts ends is small written =
    let long : 8 ≡ length (number_bytes n) = sym (eight n) in
    let there : take 8 bytes ≡ number_bytes n = ap (λ (l : List ℕ). take 8 l) written ∙ ap (λ (k : ℕ). take k (number_bytes n ++ rest)) long ∙ take-append_seam (number_bytes n) rest in
    let after : drop 8 bytes ≡ rest = ap (λ (l : List ℕ). drop 8 l) written ∙ ap (λ (k : ℕ). drop k (number_bytes n ++ rest)) long ∙ drop-append_seam (number_bytes n) rest in
    let same : m ≡ n = is ∙ ap (λ (l : List ℕ). from_le_bytes w64 l) (starts ∙ there) ∙ number_read n small in
    let number : ℕ → List ℕ → ℕ × List ℕ = λ k l. (k, l) in
    ap (λ (k : ℕ). number k behind) same ∙ ap (λ (l : List ℕ). number n l) (ends ∙ after)

pub too_short : (bytes : List ℕ) (n : ℕ) (rest : List ℕ) → length bytes < 8 → bytes ≡ number_bytes n ++ rest → ⊥
too_short bytes n rest short written = omega (arith, short, ap (λ (l : List ℕ). length l) written, length-append (number_bytes n) rest, eight n)

-- what wasn't there
pub nothing_back : {C X : Type 0} (view : C → X) (written : X) (came : Option C) → came ≡ None → TakesBack view written came → ⊥
nothing_back {C = C} view written came none back = subst (λ (o : Option C). TakesBack view written o) none back

pub not_empty : (xs : List ℕ) (empty : Bool) → empty ≡ (length xs == 0) → empty ≡ false → xs ≡ [] → ⊥
not_empty xs empty is some none = absurd (cc (sym some ∙ is ∙ ap (λ (l : List ℕ). length l == 0) none))

narrowed : (part whole : Type 0) (fault : Unread) → (whole → part) → MayRefuse part fault → MayRefuse whole fault
narrowed part whole unreads.Malformed narrower before = before
narrowed part whole unreads.NotUtf8 narrower before = λ (all_are : whole). before (narrower all_are)
narrowed part whole unreads.Memory narrower before = tt

-- the exit of a `?`
pub stopped : {C D X Y : Type 0} (view : C → X) (outer : D → Y) (written : X) (all : Y) (part whole : Type 0) (fault : Unread) (result : Result D Unread)
    → IsErrAnd result (λ told. told ≡ fault) → (whole → part) → ReadsBack view written part (Err fault) → ReadsBack outer all whole result
stopped view outer written all part whole fault (Ok x) is narrower before = absurd is
stopped view outer written all part whole fault (Err told) is narrower before =
    subst (λ (f : Unread). MayRefuse whole f) (sym is) (narrowed part whole fault narrower before)

-- ---- keys of two parts

pub pair_stops : {C D : Type 0} (seen : C → KeyPart × List ℕ) (view : D → Key) (first second : PartKind) (bytes rest : List ℕ) (one : KeyPart) (fault : Unread) (result : Result D Unread)
    → ((part : KeyPart) (behind : List ℕ) → IsPart first part → bytes ≡ part_bytes part ++ behind → ◌≡◌ {A = KeyPart × List ℕ} (one, rest) (part, behind))
    → ((part : KeyPart) (behind : List ℕ) → IsPart second part → rest ≡ part_bytes part ++ behind → ReadsBack seen (part, behind) (IsUtf8Part part) (Err fault))
    → IsErrAnd result (λ told. told ≡ fault)
    → (key : Key) → IsKey (key_kinds.Pair first second) key → bytes ≡ key_bytes key → ReadsBack view key (IsUtf8Key key) result
pair_stops seen view first second bytes rest one fault result firsts seconds is (Num number) fits written = absurd fits
pair_stops seen view first second bytes rest one fault result firsts seconds is (KeyText text) fits written = absurd fits
pair_stops seen view first second bytes rest one fault result firsts seconds is (Pair part other) fits written =
    let there : rest ≡ part_bytes other = ap (λ (p : KeyPart × List ℕ). p.1) (firsts part (part_bytes other) fits.0 written) in
    stopped seen view (other, []) (Pair part other) (IsUtf8Part other) (IsUtf8Key (Pair part other)) fault result is (λ (both : IsUtf8Key (Pair part other)). both.1)
    (seconds other [] fits.1 (there ∙ sym (append-nil (part_bytes other))))

-- its two parts are those that were taken, and nothing stands behind them
pub pair_parts : (first second : PartKind) (bytes rest behind : List ℕ) (one two : KeyPart)
    → ((part : KeyPart) (after : List ℕ) → IsPart first part → bytes ≡ part_bytes part ++ after → ◌≡◌ {A = KeyPart × List ℕ} (one, rest) (part, after))
    → ((part : KeyPart) (after : List ℕ) → IsPart second part → rest ≡ part_bytes part ++ after → ◌≡◌ {A = KeyPart × List ℕ} (two, behind) (part, after))
    → (key : Key) → IsKey (key_kinds.Pair first second) key → bytes ≡ key_bytes key → (Pair one two ≡ key) × (behind ≡ [])
pair_parts first second bytes rest behind one two firsts seconds (Num number) fits written = absurd fits
pair_parts first second bytes rest behind one two firsts seconds (KeyText text) fits written = absurd fits
pair_parts first second bytes rest behind one two firsts seconds (Pair part other) fits written =
    let took : ◌≡◌ {A = KeyPart × List ℕ} (one, rest) (part, part_bytes other) = firsts part (part_bytes other) fits.0 written in
    let there : rest ≡ part_bytes other = ap (λ (p : KeyPart × List ℕ). p.1) took in
    let also : ◌≡◌ {A = KeyPart × List ℕ} (two, behind) (other, []) = seconds other [] fits.1 (there ∙ sym (append-nil (part_bytes other))) in (
      ap (λ (p : KeyPart × List ℕ). Pair p.0 two) took ∙ ap (λ (p : KeyPart × List ℕ). Pair part p.0) also,
      ap (λ (p : KeyPart × List ℕ). p.1) also,
    )

nil : (xs : List ℕ) → (length xs == 0) ≡ true → xs ≡ []
nil xs e = nil_from_length xs (eqb-true (length xs) 0 e)

pub pair_read : (first second : PartKind) (bytes rest behind : List ℕ) (one two : KeyPart) (key : Key) (empty : Bool) → key ≡ Pair one two → bytes ≡ part_bytes one ++ rest
    → rest ≡ part_bytes two ++ behind → empty ≡ (length behind == 0) → empty ≡ true → IsPart first one → IsPart second two
    → (bytes ≡ key_bytes key) × IsKey (key_kinds.Pair first second) key
pair_read first second bytes rest behind one two key empty same was also is none p q =
    subst (λ (k : Key). (bytes ≡ key_bytes k) × IsKey (key_kinds.Pair first second) k) (sym same)
    (was ∙ ap (λ (l : List ℕ). part_bytes one ++ l) (also ∙ ap (λ (l : List ℕ). part_bytes two ++ l) (nil behind (sym is ∙ none)) ∙ append-nil (part_bytes two)), (p, q))

-- ---- rows

-- what is left to be read of a row that is written so
pub record Left (kinds : List Kind) (cells row : Row) (rest : List ℕ) (place : ℕ) : Type 0 where
  pub left : Row
  pub is : row ≡ cells ++ left
  pub fit : IsRow (drop place kinds) left
  pub bytes : rest ≡ row_bytes left

abbrev pub Taken : Type 0
Taken = Row × List ℕ

abbrev pub with_rest : Row → List ℕ → Taken
with_rest row rest = (row, rest)

pub pushed_back : (old new : Row) (read cell : Cell) (left rest : List ℕ) → new ≡ old ++ read ∷ [] → ◌≡◌ {A = Cell × List ℕ} (read, left) (cell, rest)
    → ◌≡◌ {A = Row × List ℕ} (new, left) (old ++ cell ∷ [], rest)
pushed_back old new read cell left rest is same = ap (λ (r : Row). with_rest r left) is ∙ ap (λ (p : Cell × List ℕ). with_rest (old ++ p.0 ∷ []) p.1) same

pub left_first : (kinds : List Kind) (bytes : List ℕ) (row : Row) → IsRow kinds row → bytes ≡ row_bytes row → Left kinds [] row bytes 0
left_first kinds bytes row fits written = record { left = row; is = refl; fit = fits; bytes = written }

-- what a cell is written as comes back from here
abbrev pub NextBack : Kind → Row → Row → List ℕ → List ℕ → Type 0
NextBack kind cells new bytes rest = (cell : Cell) (after : List ℕ) → IsCell kind cell → bytes ≡ cell_bytes cell ++ after → ◌≡◌ {A = Row × List ℕ} (new, rest) (cells ++ cell ∷ [], after)

pub left_more : (kinds : List Kind) (cells new row : Row) (bytes rest : List ℕ) (place : ℕ) (d kind : Kind) → place < length kinds → kind ≡ get_or kinds place d
    → NextBack kind cells new bytes rest → Left kinds cells row bytes place → Left kinds new row rest (place + 1)
left_more kinds cells new row bytes rest place d kind below here took l =
    go l.left l.is (subst (λ (ks : List Kind). IsRow ks l.left) (drop_at kinds place d kind below here) l.fit) l.bytes
  where
    go : (left : Row) → row ≡ cells ++ left → IsRow (kind ∷ drop (place + 1) kinds) left → bytes ≡ row_bytes left → Left kinds new row rest (place + 1)
    go [] is fits written = absurd fits
    go (cell ∷ others) is fits written =
        let same : ◌≡◌ {A = Row × List ℕ} (new, rest) (cells ++ cell ∷ [], row_bytes others) = took cell (row_bytes others) fits.0 written in
        let seam : cells ++ cell ∷ others ≡ (cells ++ cell ∷ []) ++ others = sym (append_assoc cells (cell ∷ []) others) in
        record { left = others; is = is ∙ seam ∙ ap (λ (p : Taken). p.0 ++ others) (sym same); fit = fits.1; bytes = ap (λ (p : Taken). p.1) same }

is_row_more : (kinds : List Kind) (cells : Row) (kind : Kind) (cell : Cell) → IsRow kinds cells → IsCell kind cell → IsRow (kinds ++ kind ∷ []) (cells ++ cell ∷ [])
is_row_more [] [] kind cell fit fits = (fits, tt)
is_row_more [] (c ∷ cells) kind cell fit fits = absurd fit
is_row_more (k ∷ kinds) [] kind cell fit fits = absurd fit
is_row_more (k ∷ kinds) (c ∷ cells) kind cell fit fits = (fit.0, is_row_more kinds cells kind cell fit.1 fits)

take_at : (kinds : List Kind) (place : ℕ) (d kind : Kind) → place < length kinds → kind ≡ get_or kinds place d → take (place + 1) kinds ≡ take place kinds ++ kind ∷ []
take_at [] place d kind below here = absurd (omega (arith, below))
take_at (k ∷ kinds) zero d kind below here = ap (λ (x : Kind). x ∷ []) (sym here)
take_at (k ∷ kinds) (suc place) d kind below here =
    let e : suc place + 1 ≡ suc (place + 1) = omega arith in
    ap (λ (n : ℕ). take n (k ∷ kinds)) e ∙ ap (λ (ks : List Kind). k ∷ ks) (take_at kinds place d kind (omega (arith, below)) here)

pub pushed_fits : (kinds : List Kind) (cells new : Row) (place : ℕ) (d kind : Kind) → place < length kinds → kind ≡ get_or kinds place d → IsRow (take place kinds) cells → IsPushed kind cells new
    → IsRow (take (place + 1) kinds) new
pushed_fits kinds cells new place d kind below here fit pushed =
    subst (λ (ks : List Kind). IsRow ks new) (sym (take_at kinds place d kind below here))
    (subst (λ (r : Row). IsRow (take place kinds ++ kind ∷ []) r) (sym pushed.is) (is_row_more (take place kinds) cells kind pushed.cell fit pushed.fits))

utf8_at : (cells : Row) (cell : Cell) (others : Row) → IsUtf8Row (cells ++ cell ∷ others) → IsUtf8Cell cell
utf8_at [] cell others all = all.0
utf8_at (c ∷ cells) cell others all = utf8_at cells cell others all.1

pub left_stops : {C D : Type 0} (seen : C → Taken) (view : D → Row) (kinds : List Kind) (cells row : Row) (bytes : List ℕ) (place : ℕ) (d kind : Kind) (fault : Unread) (result : Result D Unread)
    → place < length kinds → kind ≡ get_or kinds place d
    → ((cell : Cell) (after : List ℕ) → IsCell kind cell → bytes ≡ cell_bytes cell ++ after → ReadsBack {X = Taken} seen (cells ++ cell ∷ [], after) (IsUtf8Cell cell) (Err fault))
    → IsErrAnd result (λ told. told ≡ fault) → Left kinds cells row bytes place → ReadsBack view row (IsUtf8Row row) result
left_stops {C = C} {D = D} seen view kinds cells row bytes place d kind fault result below here stops is l =
    go l.left l.is (subst (λ (ks : List Kind). IsRow ks l.left) (drop_at kinds place d kind below here) l.fit) l.bytes
  where
    go : (left : Row) → row ≡ cells ++ left → IsRow (kind ∷ drop (place + 1) kinds) left → bytes ≡ row_bytes left → ReadsBack view row (IsUtf8Row row) result
    go [] same fits written = absurd fits
    go (cell ∷ others) same fits written =
        stopped {Y = Row} seen view (with_rest (cells ++ cell ∷ []) (row_bytes others)) row (IsUtf8Cell cell) (IsUtf8Row row) fault result is
        (λ (all : IsUtf8Row row). utf8_at cells cell others (subst (λ (r : Row). IsUtf8Row r) same all)) (stops cell (row_bytes others) fits.0 written)

drop_none : (kinds : List Kind) (place : ℕ) → length kinds ≤ place → drop place kinds ≡ []
drop_none [] zero past = refl
drop_none [] (suc place) past = refl
drop_none (k ∷ kinds) zero past = absurd (omega (arith, past))
drop_none (k ∷ kinds) (suc place) past = drop_none kinds place (omega (arith, past))

take_all : (kinds : List Kind) (place : ℕ) → length kinds ≤ place → take place kinds ≡ kinds
take_all [] zero past = refl
take_all [] (suc place) past = refl
take_all (k ∷ kinds) zero past = absurd (omega (arith, past))
take_all (k ∷ kinds) (suc place) past = ap (λ (ks : List Kind). k ∷ ks) (take_all kinds place (omega (arith, past)))

-- all cells were read
pub left_none : (kinds : List Kind) (cells row : Row) (rest : List ℕ) (place : ℕ) → length kinds ≤ place → Left kinds cells row rest place → (cells ≡ row) × (rest ≡ [])
left_none kinds cells row rest place past l = go l.left l.is (subst (λ (ks : List Kind). IsRow ks l.left) (drop_none kinds place past) l.fit) l.bytes
  where
    go : (left : Row) → row ≡ cells ++ left → IsRow [] left → rest ≡ row_bytes left → (cells ≡ row) × (rest ≡ [])
    go [] is fits written = (sym (append-nil cells) ∙ sym is, written)
    go (cell ∷ others) is fits written = absurd fits

pub row_read : (kinds : List Kind) (cells : Row) (bytes rest : List ℕ) (place : ℕ) (empty : Bool) → length kinds ≤ place → row_bytes cells ++ rest ≡ bytes → IsRow (take place kinds) cells
    → empty ≡ (length rest == 0) → empty ≡ true → (bytes ≡ row_bytes cells) × IsRow kinds cells
row_read kinds cells bytes rest place empty past all fit is none = (
  sym all ∙ ap (λ (l : List ℕ). row_bytes cells ++ l) (nil rest (sym is ∙ none)) ∙ append-nil (row_bytes cells),
  subst (λ (ks : List Kind). IsRow ks cells) (take_all kinds place past) fit,
)
