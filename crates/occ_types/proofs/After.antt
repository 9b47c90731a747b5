-- No key lies between a key and the next one.
use Rattle.std.proofs.Common.{◌≡◌, ℕ, zero, suc, ◌+◌, ◌-◌, ◌^◌, ◌<◌, ◌≤◌, arith, Bool, true, false, nat_lt, ltb-true, ltb-false, if◌then◌else◌, List, [], ◌∷◌, ◌++◌, refl, sym, ap}
use Rattle.std.specs.Cmp.{second_so, ranks, nat_cmp_is}
use Rattle.std.specs.Cmp.Lexicographic.{slice_cmp}
use Rattle.std.specs.declared.cmp.Ordering.{Ordering}
use Rattle.std.specs.declared.cmp.Ordering.TheVariants.{Less, Equal, Greater}
use Rattle.std.specs.Ordering.{MatchOrdering, nat_cmp, is_lt, is_le, ordering_then}
use Rattle.occ_types.specs.After.{part_after, part_has_64_bits, NoKeyBetween}
use Rattle.occ_types.specs.Key.{Num, Text as KeyText, Pair, key_cmp}
use Rattle.occ_types.specs.KeyPart as parts
use Rattle.occ_types.specs.KeyPart.{KeyPart, part_cmp}

-- of two orders that begin alike, the rest decides
then_alike : (r a b : Ordering) → is_le a ≡ is_lt b → is_le (ordering_then r a) ≡ is_lt (ordering_then r b)
then_alike Less a b e = refl
then_alike Equal a b e = e
then_alike Greater a b e = refl

next_is : (m n : ℕ) (r s : Ordering) → MatchOrdering r (m + 1 < n) (m + 1 ≡ n) (n < m + 1) → MatchOrdering s (m < n) (m ≡ n) (n < m) → is_le r ≡ is_lt s
next_is m n Less Less p q = refl
next_is m n Less Equal p q = absurd (omega arith)
next_is m n Less Greater p q = absurd (omega arith)
next_is m n Equal Less p q = refl
next_is m n Equal Equal p q = absurd (omega arith)
next_is m n Equal Greater p q = absurd (omega arith)
next_is m n Greater Less p q = absurd (omega arith)
next_is m n Greater Equal p q = refl
next_is m n Greater Greater p q = refl

-- the next number is at most another one exactly where the number is below it
pub next_number : (m n : ℕ) → is_le (nat_cmp (m + 1) n) ≡ is_lt (nat_cmp m n)
next_number m n = next_is m n (nat_cmp (m + 1) n) (nat_cmp m n) (ranks (m + 1) n) (ranks m n)

not_below : (m n : ℕ) (s : Ordering) → MatchOrdering s (m < n) (m ≡ n) (n < m) → n ≤ m → false ≡ is_lt s
not_below m n Less p h = absurd (omega arith)
not_below m n Equal p h = refl
not_below m n Greater p h = refl

-- no number of 64 bits is above the last one
pub last_number : (m n : ℕ) → nat_lt m (2 ^ 64 - 1) ≡ false → nat_lt n (2 ^ 64) ≡ true → false ≡ is_lt (nat_cmp m n)
last_number m n last fits =
    let above : 2 ^ 64 - 1 ≤ m = ltb-false m (2 ^ 64 - 1) last in
    let below : n < 2 ^ 64 = ltb-true n (2 ^ 64) fits in
    not_below m n (nat_cmp m n) (ranks m n) (omega arith)

-- the text with a byte 0 at its end is the next one
next_text : (s t : List ℕ) → is_le (slice_cmp nat_cmp (s ++ 0 ∷ []) t) ≡ is_lt (slice_cmp nat_cmp s t)
next_text [] [] = refl
next_text [] (zero ∷ []) = refl
next_text [] (zero ∷ z ∷ t) = refl
next_text [] (suc y ∷ t) =
    let below : 0 < suc y = omega arith in
    ap (λ r. is_le (ordering_then r (slice_cmp nat_cmp [] t))) (sym (nat_cmp_is 0 (suc y) Less below))
next_text (x ∷ s) [] = refl
next_text (x ∷ s) (y ∷ t) = then_alike (nat_cmp x y) (slice_cmp nat_cmp (s ++ 0 ∷ []) t) (slice_cmp nat_cmp s t) (next_text s t)

-- no part lies between a part and the next one
pub part_next : (part other : KeyPart) → part_has_64_bits other ≡ true → is_le (part_cmp (part_after part) other) ≡ is_lt (part_cmp part other)
part_next (parts.Num m) (parts.Num n) fits = by (nat_lt m (2 ^ 64 - 1)) refl
  where
    by : (b : Bool) → nat_lt m (2 ^ 64 - 1) ≡ b → is_le (part_cmp (if b then parts.Num (m + 1) else parts.Text []) (parts.Num n)) ≡ is_lt (nat_cmp m n)
    by true e = next_number m n
    by false e = last_number m n e fits
part_next (parts.Num m) (parts.Text t) fits = by (nat_lt m (2 ^ 64 - 1)) t
  where
    by : (b : Bool) (t : List ℕ) → is_le (part_cmp (if b then parts.Num (m + 1) else parts.Text []) (parts.Text t)) ≡ true
    by true t = refl
    by false [] = refl
    by false (y ∷ t) = refl
part_next (parts.Text s) (parts.Num n) fits = refl
part_next (parts.Text s) (parts.Text t) fits = next_text s t

pub no_key_between : NoKeyBetween
no_key_between (Num m) (Num n) fits = by (nat_lt m (2 ^ 64 - 1)) refl
  where
    by : (b : Bool) → nat_lt m (2 ^ 64 - 1) ≡ b → is_le (key_cmp (if b then Num (m + 1) else KeyText []) (Num n)) ≡ is_lt (nat_cmp m n)
    by true e = next_number m n
    by false e = last_number m n e fits
no_key_between (Num m) (KeyText t) fits = by (nat_lt m (2 ^ 64 - 1)) t
  where
    by : (b : Bool) (t : List ℕ) → is_le (key_cmp (if b then Num (m + 1) else KeyText []) (KeyText t)) ≡ true
    by true t = refl
    by false [] = refl
    by false (y ∷ t) = refl
no_key_between (Num m) (Pair c d) fits = by (nat_lt m (2 ^ 64 - 1))
  where
    by : (b : Bool) → is_le (key_cmp (if b then Num (m + 1) else KeyText []) (Pair c d)) ≡ true
    by true = refl
    by false = refl
no_key_between (KeyText s) (Num n) fits = refl
no_key_between (KeyText s) (KeyText t) fits = next_text s t
no_key_between (KeyText s) (Pair c d) fits = refl
no_key_between (Pair a b) (Num n) fits = refl
no_key_between (Pair a b) (KeyText t) fits = refl
no_key_between (Pair a b) (Pair c d) fits =
    then_alike (part_cmp a c) (part_cmp (part_after b) d) (part_cmp b d)
    (part_next b d (second_so (part_has_64_bits c) (part_has_64_bits d) fits))
