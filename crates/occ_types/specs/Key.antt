-- Keys, and their one total order (our own choice).
use Rattle.std.specs.Prelude.{◌≡◌, ℕ, List}
use Rattle.std.proofs.Common.{refl, ap}
use Rattle.std.specs.declared.cmp.Ordering.{Ordering}
use Rattle.std.specs.declared.cmp.Ordering.TheVariants.{Less, Equal, Greater}
use Rattle.std.specs.Ordering.{nat_cmp, ordering_reverse}
use Rattle.std.specs.Cmp.{IsTotalOrder, nat_cmp_total}
use Rattle.std.specs.Cmp.Lexicographic.{slice_cmp, nat_list_cmp_total}
use Rattle.std.specs.FinMap.{IsAntisymmetric, nat_cmp-IsAntisymmetric, slice_cmp-IsAntisymmetric}
use Rattle.occ_types.specs.KeyPart.{KeyPart, pair_cmp, pair_cmp_total, pair_cmp-IsAntisymmetric}

-- a number, a text by its bytes, or two parts
pub data Key : Type 0 where
  Num : ℕ → Key
  Text : List ℕ → Key
  Pair : KeyPart → KeyPart → Key

-- numbers by size, texts by bytes, pairs by their first part and then by the second; every number before every text, and every text before every pair
abbrev pub key_cmp : Key → Key → Ordering
key_cmp (Num m) (Num n) = nat_cmp m n
key_cmp (Num m) (Text t) = Less
key_cmp (Num m) (Pair c d) = Less
key_cmp (Text s) (Num n) = Greater
key_cmp (Text s) (Text t) = slice_cmp nat_cmp s t
key_cmp (Text s) (Pair c d) = Less
key_cmp (Pair a b) (Num n) = Greater
key_cmp (Pair a b) (Text t) = Greater
key_cmp (Pair a b) (Pair c d) = pair_cmp (a, b) (c, d)

antisymm : (x y : Key) → key_cmp x y ≡ ordering_reverse (key_cmp y x)
antisymm (Num m) (Num n) = nat_cmp_total.antisymm m n
antisymm (Num m) (Text t) = refl
antisymm (Num m) (Pair c d) = refl
antisymm (Text s) (Num n) = refl
antisymm (Text s) (Text t) = nat_list_cmp_total.antisymm s t
antisymm (Text s) (Pair c d) = refl
antisymm (Pair a b) (Num n) = refl
antisymm (Pair a b) (Text t) = refl
antisymm (Pair a b) (Pair c d) = pair_cmp_total.antisymm (a, b) (c, d)

trans : (x y z : Key) → key_cmp x y ≡ Less → key_cmp y z ≡ Less → key_cmp x z ≡ Less
trans (Num l) (Num m) (Num n) p q = nat_cmp_total.trans l m n p q
trans (Num l) y (Text t) p q = refl
trans (Num l) y (Pair e f) p q = refl
trans (Num l) (Text s) (Num n) p q = cc
trans (Num l) (Pair c d) (Num n) p q = cc
trans (Text r) (Num m) z p q = cc
trans (Text r) (Text s) (Num n) p q = cc
trans (Text r) (Text s) (Text t) p q = nat_list_cmp_total.trans r s t p q
trans (Text r) y (Pair e f) p q = refl
trans (Text r) (Pair c d) (Num n) p q = cc
trans (Text r) (Pair c d) (Text t) p q = cc
trans (Pair a b) (Num m) z p q = cc
trans (Pair a b) (Text s) z p q = cc
trans (Pair a b) (Pair c d) (Num n) p q = cc
trans (Pair a b) (Pair c d) (Text t) p q = cc
trans (Pair a b) (Pair c d) (Pair e f) p q = pair_cmp_total.trans (a, b) (c, d) (e, f) p q

congr : (x y z : Key) → key_cmp x y ≡ Equal → key_cmp x z ≡ key_cmp y z
congr (Num l) (Num m) (Num n) p = nat_cmp_total.congr l m n p
congr (Num l) (Num m) (Text t) p = refl
congr (Num l) (Num m) (Pair e f) p = refl
congr (Num l) (Text s) z p = cc
congr (Num l) (Pair c d) z p = cc
congr (Text r) (Num m) z p = cc
congr (Text r) (Text s) (Num n) p = refl
congr (Text r) (Text s) (Text t) p = nat_list_cmp_total.congr r s t p
congr (Text r) (Text s) (Pair e f) p = refl
congr (Text r) (Pair c d) z p = cc
congr (Pair a b) (Num m) z p = cc
congr (Pair a b) (Text s) z p = cc
congr (Pair a b) (Pair c d) (Num n) p = refl
congr (Pair a b) (Pair c d) (Text t) p = refl
congr (Pair a b) (Pair c d) (Pair e f) p = pair_cmp_total.congr (a, b) (c, d) (e, f) p

pub key_cmp_total : IsTotalOrder key_cmp
key_cmp_total = record { antisymm = antisymm; trans = trans; congr = congr }

-- keys that tie are one key
pub key_cmp-IsAntisymmetric : IsAntisymmetric key_cmp
key_cmp-IsAntisymmetric (Num m) (Num n) e = ap Num (nat_cmp-IsAntisymmetric m n e)
key_cmp-IsAntisymmetric (Text s) (Text t) e = ap Text (slice_cmp-IsAntisymmetric nat_cmp-IsAntisymmetric s t e)
key_cmp-IsAntisymmetric (Pair a b) (Pair c d) e =
    let same = pair_cmp-IsAntisymmetric (a, b) (c, d) e in
    λ i. Pair (same i).0 (same i).1
key_cmp-IsAntisymmetric (Num m) (Text t) e = cc
key_cmp-IsAntisymmetric (Num m) (Pair c d) e = cc
key_cmp-IsAntisymmetric (Text s) (Num n) e = cc
key_cmp-IsAntisymmetric (Text s) (Pair c d) e = cc
key_cmp-IsAntisymmetric (Pair a b) (Num n) e = cc
key_cmp-IsAntisymmetric (Pair a b) (Text t) e = cc
