-- When two plain keys, cells, rows or questions are equal, as tests, and what a key feeds a hasher.
use Rattle.std.specs.Prelude.{◌≡◌, Bool, true, false, ◌&&◌, ◌++◌, nat_eq, Option, None, Some, refl}
use Rattle.std.proofs.Common.{ap, ◌∙◌, sym}
use Rattle.std.specs.Bool.{Decides}
use Rattle.std.specs.Ordering.{eq_by_cmp, int_eq, as_partial_cmp}
use Rattle.std.specs.Cmp.{IsEquivalence, IsPartialOrder, decided, eq_by_cmp_equiv, po, tied_itself, Equal-is, signed_Decides, unsigned_Decides}
use Rattle.std.specs.Cmp.Lexicographic.{pointwise, bytes_decides, pointwise_decides}
use Rattle.std.specs.Hash as fed
use Rattle.std.specs.Hash.{HashWrites}
use Rattle.occ_types.specs.Key.{Key, Num, Text as KeyText, Pair, key_cmp, key_cmp_total, key_cmp-IsAntisymmetric}
use Rattle.occ_types.specs.KeyPart as parts
use Rattle.occ_types.specs.KeyPart.{KeyPart, part_cmp, part_cmp_total, part_cmp-IsAntisymmetric, pair_cmp, pair_cmp_total, pair_cmp-IsAntisymmetric}
use Rattle.std.specs.Option.{option_eq}
use Rattle.occ_types.specs.Row.{Cell, Int, Text as CellText, Row}
use Rattle.occ_types.specs.Object.{Object, object_cmp, object_cmp_total, object_cmp-IsAntisymmetric}
use Rattle.occ_types.specs.Question.{Question, One, Span}

-- whether two parts of keys are equal
abbrev pub part_same : KeyPart → KeyPart → Bool
part_same = eq_by_cmp part_cmp

pub part_same_equiv : IsEquivalence part_same
part_same_equiv = eq_by_cmp_equiv part_cmp_total

pub part_po : IsPartialOrder part_same (as_partial_cmp part_cmp)
part_po = po part_cmp_total (λ a b. refl)

-- what a part of a key feeds a hasher: which kind it has, and then its number or its text
abbrev pub part_fed : KeyPart → HashWrites
part_fed (parts.Num n) = fed.u8 0 ++ fed.u64 n
part_fed (parts.Text t) = fed.u8 1 ++ fed.str t

-- equal parts feed alike
pub part_fed_alike : (a b : KeyPart) → part_same a b ≡ true → part_fed a ≡ part_fed b
part_fed_alike a b e = ap part_fed (part_cmp-IsAntisymmetric a b ((Equal-is (part_cmp a b)).0 e))

pub pair_equiv : IsEquivalence (eq_by_cmp pair_cmp)
pair_equiv = eq_by_cmp_equiv pair_cmp_total

pub pair_po : IsPartialOrder (eq_by_cmp pair_cmp) (as_partial_cmp pair_cmp)
pair_po = po pair_cmp_total (λ a b. refl)

-- what a pair feeds a hasher: its first part, and then its second
abbrev pub pair_fed : KeyPart × KeyPart → HashWrites
pair_fed pair = part_fed pair.0 ++ part_fed pair.1

-- equal pairs feed alike
pub pair_fed_alike : (a b : KeyPart × KeyPart) → eq_by_cmp pair_cmp a b ≡ true → pair_fed a ≡ pair_fed b
pair_fed_alike a b e = ap pair_fed (pair_cmp-IsAntisymmetric a b ((Equal-is (pair_cmp a b)).0 e))

-- whether two keys are equal
abbrev pub key_same : Key → Key → Bool
key_same = eq_by_cmp key_cmp

-- the test is true exactly where the keys are equal
pub key_same-decides : (a b : Key) → Decides (key_same a b) (a ≡ b)
key_same-decides a b = (
  λ e. key_cmp-IsAntisymmetric a b ((Equal-is (key_cmp a b)).0 e),
  λ e. (Equal-is (key_cmp a b)).1 (ap (λ k. key_cmp a k) (sym e) ∙ tied_itself key_cmp_total a),
)

pub key_same_equiv : IsEquivalence key_same
key_same_equiv = eq_by_cmp_equiv key_cmp_total

pub key_po : IsPartialOrder key_same (as_partial_cmp key_cmp)
key_po = po key_cmp_total (λ a b. refl)

-- what a key feeds a hasher: which kind it has, and then its number, its text or its parts
abbrev pub key_fed : Key → HashWrites
key_fed (Num n) = fed.u8 0 ++ fed.u64 n
key_fed (KeyText t) = fed.u8 1 ++ fed.str t
key_fed (Pair a b) = fed.u8 2 ++ pair_fed (a, b)

-- equal keys feed alike
pub key_fed_alike : (a b : Key) → key_same a b ≡ true → key_fed a ≡ key_fed b
key_fed_alike a b e = ap key_fed ((key_same-decides a b).0 e)

pub object_same_equiv : IsEquivalence (eq_by_cmp object_cmp)
object_same_equiv = eq_by_cmp_equiv object_cmp_total

pub object_po : IsPartialOrder (eq_by_cmp object_cmp) (as_partial_cmp object_cmp)
object_po = po object_cmp_total (λ a b. refl)

-- what an object feeds a hasher: its table, and then its key
abbrev pub object_fed : Object → HashWrites
object_fed object = fed.usize object.0 ++ key_fed object.1

-- equal objects feed alike
pub object_fed_alike : (a b : Object) → eq_by_cmp object_cmp a b ≡ true → object_fed a ≡ object_fed b
object_fed_alike a b e = ap object_fed (object_cmp-IsAntisymmetric a b ((Equal-is (object_cmp a b)).0 e))

-- whether two cells are equal
abbrev pub cell_same : Cell → Cell → Bool
cell_same (Int y) (Int z) = int_eq y z
cell_same (Int y) (CellText t) = false
cell_same (CellText s) (Int z) = false
cell_same (CellText s) (CellText t) = pointwise nat_eq s t

-- the test is true exactly where the cells are equal
pub cell_same-decides : (a b : Cell) → Decides (cell_same a b) (a ≡ b)
cell_same-decides (Int y) (Int z) = (λ e. ap Int ((signed_Decides y z).0 e), λ e. (signed_Decides y z).1 (cc))
cell_same-decides (Int y) (CellText t) = (λ e. cc, λ e. cc)
cell_same-decides (CellText s) (Int z) = (λ e. cc, λ e. cc)
cell_same-decides (CellText s) (CellText t) =
    (λ e. ap CellText ((bytes_decides s t).0 e), λ e. (bytes_decides s t).1 (cc))

pub cell_same_equiv : IsEquivalence cell_same
cell_same_equiv = decided cell_same cell_same-decides

-- whether two rows are equal
abbrev pub row_same : Row → Row → Bool
row_same = pointwise cell_same

-- the test is true exactly where the rows are equal
pub row_same-decides : (a b : Row) → Decides (row_same a b) (a ≡ b)
row_same-decides = pointwise_decides cell_same-decides

pub row_same_equiv : IsEquivalence row_same
row_same_equiv = decided row_same row_same-decides

-- whether two ends of ranges are equal
abbrev pub end_same : Option Key → Option Key → Bool
end_same = option_eq key_same

-- the test is true exactly where the ends are equal
pub end_same-decides : (a b : Option Key) → Decides (end_same a b) (a ≡ b)
end_same-decides None None = (λ e. refl, λ e. refl)
end_same-decides None (Some l) = (λ e. cc, λ e. cc)
end_same-decides (Some k) None = (λ e. cc, λ e. cc)
end_same-decides (Some k) (Some l) = (λ e. ap Some ((key_same-decides k l).0 e), λ e. (key_same-decides k l).1 (cc))

-- whether two questions are equal
abbrev pub question_same : Question → Question → Bool
question_same (One t k) (One u l) = nat_eq t u && key_same k l
question_same (One t k) (Span u c d) = false
question_same (Span t a b) (One u l) = false
question_same (Span t a b) (Span u c d) = nat_eq t u && (end_same a c && end_same b d)

-- both tests are true exactly where both facts hold
both : {P Q : Type 0} (s t : Bool) → Decides s P → Decides t Q → Decides (s && t) (P × Q)
both true t d e = (λ h. (d.0 refl, e.0 h), λ h. e.1 h.1)
both false t d e = (λ h. cc, λ h. d.1 h.0)

-- the test is true exactly where the questions are equal
pub question_same-decides : (a b : Question) → Decides (question_same a b) (a ≡ b)
question_same-decides (One t k) (One u l) =
    let d = both _ _ (unsigned_Decides t u) (key_same-decides k l) in
    (λ e i. One ((d.0 e).0 i) ((d.0 e).1 i), λ e. d.1 (cc, cc))
question_same-decides (One t k) (Span u c d) = (λ e. cc, λ e. cc)
question_same-decides (Span t a b) (One u l) = (λ e. cc, λ e. cc)
question_same-decides (Span t a b) (Span u c d) =
    let ends = both _ _ (end_same-decides a c) (end_same-decides b d) in
    let all = both _ _ (unsigned_Decides t u) ends in
    (λ e i. Span ((all.0 e).0 i) ((all.0 e).1.0 i) ((all.0 e).1.1 i), λ e. all.1 (cc, (cc, cc)))

pub question_same_equiv : IsEquivalence question_same
question_same_equiv = decided question_same question_same-decides
