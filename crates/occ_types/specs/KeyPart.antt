-- Parts of keys, and their one total order (our own choice).
use Rattle.std.specs.Prelude.{◌≡◌, ℕ, List}
use Rattle.std.proofs.Common.{refl, ap}
use Rattle.std.specs.declared.cmp.Ordering.{Ordering}
use Rattle.std.specs.declared.cmp.Ordering.TheVariants.{Less, Equal, Greater}
use Rattle.std.specs.Ordering.{nat_cmp, on, then_cmp, ordering_reverse, ordering_then}
use Rattle.std.specs.Cmp.{IsTotalOrder, nat_cmp_total, on_total, then_total}
use Rattle.std.specs.Cmp.Lexicographic.{slice_cmp, nat_list_cmp_total}
use Rattle.std.specs.FinMap.{IsAntisymmetric, nat_cmp-IsAntisymmetric, slice_cmp-IsAntisymmetric}

-- a number, or a text by its bytes
pub data KeyPart : Type 0 where
  Num : ℕ → KeyPart
  Text : List ℕ → KeyPart

-- numbers by size, texts by bytes, and every number before every text
abbrev pub part_cmp : KeyPart → KeyPart → Ordering
part_cmp (Num m) (Num n) = nat_cmp m n
part_cmp (Num m) (Text t) = Less
part_cmp (Text s) (Num n) = Greater
part_cmp (Text s) (Text t) = slice_cmp nat_cmp s t

antisymm : (x y : KeyPart) → part_cmp x y ≡ ordering_reverse (part_cmp y x)
antisymm (Num m) (Num n) = nat_cmp_total.antisymm m n
antisymm (Num m) (Text t) = refl
antisymm (Text s) (Num n) = refl
antisymm (Text s) (Text t) = nat_list_cmp_total.antisymm s t

trans : (x y z : KeyPart) → part_cmp x y ≡ Less → part_cmp y z ≡ Less → part_cmp x z ≡ Less
trans (Num l) (Num m) (Num n) p q = nat_cmp_total.trans l m n p q
trans (Num l) (Num m) (Text t) p q = refl
trans (Num l) (Text s) (Num n) p q = cc
trans (Num l) (Text s) (Text t) p q = refl
trans (Text r) (Num m) (Num n) p q = cc
trans (Text r) (Num m) (Text t) p q = cc
trans (Text r) (Text s) (Num n) p q = cc
trans (Text r) (Text s) (Text t) p q = nat_list_cmp_total.trans r s t p q

congr : (x y z : KeyPart) → part_cmp x y ≡ Equal → part_cmp x z ≡ part_cmp y z
congr (Num l) (Num m) (Num n) p = nat_cmp_total.congr l m n p
congr (Num l) (Num m) (Text t) p = refl
congr (Num l) (Text s) z p = cc
congr (Text r) (Num m) z p = cc
congr (Text r) (Text s) (Num n) p = refl
congr (Text r) (Text s) (Text t) p = nat_list_cmp_total.congr r s t p

pub part_cmp_total : IsTotalOrder part_cmp
part_cmp_total = record { antisymm = antisymm; trans = trans; congr = congr }

-- parts that tie are one part
pub part_cmp-IsAntisymmetric : IsAntisymmetric part_cmp
part_cmp-IsAntisymmetric (Num m) (Num n) e = ap Num (nat_cmp-IsAntisymmetric m n e)
part_cmp-IsAntisymmetric (Num m) (Text t) e = cc
part_cmp-IsAntisymmetric (Text s) (Num n) e = cc
part_cmp-IsAntisymmetric (Text s) (Text t) e = ap Text (slice_cmp-IsAntisymmetric nat_cmp-IsAntisymmetric s t e)

-- pairs of parts by the first one, and then by the second
abbrev pub pair_cmp : KeyPart × KeyPart → KeyPart × KeyPart → Ordering
pair_cmp = then_cmp (on (λ p. p.0) part_cmp) (on (λ p. p.1) part_cmp)

pub pair_cmp_total : IsTotalOrder pair_cmp
pair_cmp_total = then_total (on_total (λ p. p.0) part_cmp_total) (on_total (λ p. p.1) part_cmp_total)

-- one order and then another tie where both do
pub both_equal : (r s : Ordering) → ordering_then r s ≡ Equal → (r ≡ Equal) × (s ≡ Equal)
both_equal Less s e = cc
both_equal Equal s e = (refl, e)
both_equal Greater s e = cc

-- pairs that tie are one pair
pub pair_cmp-IsAntisymmetric : IsAntisymmetric pair_cmp
pair_cmp-IsAntisymmetric a b e =
    let parts = both_equal (part_cmp a.0 b.0) (part_cmp a.1 b.1) e in
    λ i. (part_cmp-IsAntisymmetric a.0 b.0 parts.0 i, part_cmp-IsAntisymmetric a.1 b.1 parts.1 i)
