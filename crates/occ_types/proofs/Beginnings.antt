-- The keys that begin with a part are a range.
use Rattle.std.proofs.Common.{◌≡◌, ℕ, zero, suc, ◌+◌, ◌-◌, ◌^◌, ◌<◌, ◌≤◌, arith, Bool, true, false, not, ◌&&◌, ◌||◌, nat_lt, nat_le, leb-false, le-ltb, length-append, if◌then◌else◌, List, [], ◌∷◌, ◌++◌, length, Some, None, refl, sym, ap, ◌∙◌}
use Rattle.std.specs.Cmp.{first_so, second_so, nat_cmp_is, nat_cmp_total, tied_itself}
use Rattle.std.specs.Cmp.Lexicographic.{slice_cmp}
use Rattle.std.specs.declared.cmp.Ordering.{Ordering}
use Rattle.std.specs.declared.cmp.Ordering.TheVariants.{Less, Equal, Greater}
use Rattle.std.specs.Ordering.{nat_cmp, is_lt, is_le, is_eq, ordering_then}
use Rattle.occ_types.proofs.After.{part_next, next_number, last_number}
use Rattle.occ_types.specs.After.{part_has_64_bits}
use Rattle.occ_types.specs.Key.{Num, Text as KeyText, Pair, key_cmp}
use Rattle.occ_types.specs.KeyPart as parts
use Rattle.occ_types.specs.KeyPart.{KeyPart, part_cmp}
use Rattle.occ_types.specs.Prefix.{least_part, begins_keys, is_longest, prefix_lower, prefix_upper, PrefixIsRange, PrefixFits}
use Rattle.occ_types.specs.Question.{is_from, is_below}
use Rattle.occ_types.specs.Schema.{Table, fault_if, first_fault, part_has_kind, part_is_too_long, check_key_in, check_range}
use Rattle.occ_types.specs.declared.fault.Fault.{Fault}
use Rattle.occ_types.specs.declared.fault.Fault.TheVariants.{WrongKind, TooLong, EmptyRange}
use Rattle.occ_types.specs.declared.kind.Kind.{Kind}
use Rattle.occ_types.specs.declared.kind.KeyKind.{KeyKind}
use Rattle.occ_types.specs.declared.kind.KeyKind.TheVariants as keys
use Rattle.occ_types.specs.declared.kind.PartKind.{PartKind}
use Rattle.occ_types.specs.declared.kind.PartKind.TheVariants as part_kinds

zero_least : (n : ℕ) → is_le (nat_cmp 0 n) ≡ true
zero_least zero = refl
zero_least (suc n) =
    let below : 0 < suc n = omega arith in
    ap is_le (sym (nat_cmp_is 0 (suc n) Less below))

empty_least : (t : List ℕ) → is_le (slice_cmp nat_cmp [] t) ≡ true
empty_least [] = refl
empty_least (y ∷ t) = refl

-- no part of a kind is below the least one
least_is_least : (kind : PartKind) (part : KeyPart) → part_has_kind kind part ≡ true → is_le (part_cmp (least_part kind) part) ≡ true
least_is_least part_kinds.Num (parts.Num n) fits = zero_least n
least_is_least part_kinds.Num (parts.Text t) fits = refl
least_is_least part_kinds.Text (parts.Num n) fits = cc
least_is_least part_kinds.Text (parts.Text t) fits = empty_least t

-- where the second part is at least the least one, the first part decides
first_decides : (r s : Ordering) → is_le s ≡ true → is_le (ordering_then r s) ≡ is_le r
first_decides Less s e = refl
first_decides Equal s e = e
first_decides Greater s e = refl

neither : (r : Ordering) → (is_le r && not (is_lt r)) ≡ is_eq r
neither Less = refl
neither Equal = refl
neither Greater = refl

not_less : (r : Ordering) → false ≡ is_lt r → (is_le r && true) ≡ is_eq r
not_less Less e = cc
not_less Equal e = refl
not_less Greater e = refl

module _ (second : PartKind) (part a b : KeyPart) (fits : part_has_kind second b ≡ true) where
  at_least : is_le (key_cmp (Pair part (least_part second)) (Pair a b)) ≡ is_le (part_cmp part a)
  at_least = first_decides (part_cmp part a) (part_cmp (least_part second) b) (least_is_least second b fits)

  -- a key of two parts lies from the least one with a part on and below the least one with the next part exactly where it begins with the part
  between : (next : KeyPart) → is_le (part_cmp next a) ≡ is_lt (part_cmp part a)
      → (is_le (key_cmp (Pair part (least_part second)) (Pair a b)) && not (is_le (key_cmp (Pair next (least_part second)) (Pair a b)))) ≡ is_eq (part_cmp part a)
  between next is =
      let above = first_decides (part_cmp next a) (part_cmp (least_part second) b) (least_is_least second b fits) ∙ is in
      (λ i. at_least i && not (above i)) ∙ neither (part_cmp part a)

  -- where no part lies behind, no upper end is needed
  at_the_end : false ≡ is_lt (part_cmp part a) → (is_le (key_cmp (Pair part (least_part second)) (Pair a b)) && true) ≡ is_eq (part_cmp part a)
  at_the_end is = ap (λ x. x && true) at_least ∙ not_less (part_cmp part a) is

-- the part is a number
number_prefix : (second : PartKind) (m : ℕ) (a b : KeyPart) → part_has_kind part_kinds.Num a ≡ true → part_has_kind second b ≡ true → part_has_64_bits a ≡ true
    → (is_from (Some (Pair (parts.Num m) (least_part second))) (Pair a b) && is_below (prefix_upper (keys.Pair part_kinds.Num second) (parts.Num m)) (Pair a b)) ≡ is_eq (part_cmp (parts.Num m) a)
number_prefix second m (parts.Text t) b first fits wide = cc
number_prefix second m (parts.Num n) b first fits wide = by (nat_lt m (2 ^ 64 - 1)) refl
  where
    by : (test : Bool) → nat_lt m (2 ^ 64 - 1) ≡ test
        → (is_le (key_cmp (Pair (parts.Num m) (least_part second)) (Pair (parts.Num n) b))
        && is_below (if test then Some (Pair (parts.Num (m + 1)) (least_part second)) else None) (Pair (parts.Num n) b)) ≡ is_eq (nat_cmp m n)
    by true e = between second (parts.Num m) (parts.Num n) b fits (parts.Num (m + 1)) (next_number m n)
    by false e = at_the_end second (parts.Num m) (parts.Num n) b fits (last_number m n e wide)

pub prefix_is_range : PrefixIsRange
prefix_is_range keys.Num part key begins fits wide = cc
prefix_is_range keys.Text part key begins fits wide = cc
prefix_is_range (keys.Pair first second) part (Num n) begins fits wide = cc
prefix_is_range (keys.Pair first second) part (KeyText t) begins fits wide = cc
prefix_is_range (keys.Pair part_kinds.Num second) (parts.Text t) (Pair a b) begins fits wide = cc
prefix_is_range (keys.Pair part_kinds.Text second) (parts.Num m) (Pair a b) begins fits wide = cc
prefix_is_range (keys.Pair part_kinds.Num second) (parts.Num m) (Pair a b) begins fits wide =
    number_prefix second m a b (first_so (part_has_kind part_kinds.Num a) (part_has_kind second b) fits) (second_so (part_has_kind part_kinds.Num a) (part_has_kind second b) fits)
    (first_so (part_has_64_bits a) (part_has_64_bits b) wide)
prefix_is_range (keys.Pair part_kinds.Text second) (parts.Text t) (Pair a b) begins fits wide =
    between second (parts.Text t) a b (second_so (part_has_kind part_kinds.Text a) (part_has_kind second b) fits) (parts.Text (t ++ 0 ∷ []))
    (part_next (parts.Text t) a (first_so (part_has_64_bits a) (part_has_64_bits b) wide))

-- where neither guard refuses
neither_refuses : (a b : Bool) (f g : Fault) → first_fault (fault_if (not a) f ∷ fault_if b g ∷ []) ≡ None → (a ≡ true) × (b ≡ false)
neither_refuses true true f g e = cc
neither_refuses true false f g e = (refl, refl)
neither_refuses false b f g e = cc

short_enough : (n : ℕ) → nat_le 64 n ≡ false → nat_lt 64 n ≡ false
short_enough n e =
    let below : n < 64 = leb-false 64 n e in
    let short : n ≤ 64 = omega arith in
    le-ltb 64 n short

longer_by_one : (t : List ℕ) → nat_le 64 (length t) ≡ false → nat_lt 64 (length (t ++ 0 ∷ [])) ≡ false
longer_by_one t e =
    let below : length t < 64 = leb-false 64 (length t) e in
    let short : length (t ++ 0 ∷ []) ≤ 64 = omega (arith, length-append t (0 ∷ [])) in
    le-ltb 64 (length (t ++ 0 ∷ [])) short

least_has_kind : (kind : PartKind) → part_has_kind kind (least_part kind) ≡ true
least_has_kind part_kinds.Num = refl
least_has_kind part_kinds.Text = refl

least_is_short : (kind : PartKind) → part_is_too_long (least_part kind) ≡ false
least_is_short part_kinds.Num = refl
least_is_short part_kinds.Text = refl

-- a part that is not the longest is short enough, and so is the next one
is_short : (part : KeyPart) → is_longest part ≡ false → part_is_too_long part ≡ false
is_short (parts.Num n) e = refl
is_short (parts.Text t) e = short_enough (length t) e

text_below : (t : List ℕ) → slice_cmp nat_cmp t (t ++ 0 ∷ []) ≡ Less
text_below [] = refl
text_below (x ∷ t) = (λ i. ordering_then (tied_itself nat_cmp_total x i) (text_below t i))

number_below : (n : ℕ) → nat_cmp n (n + 1) ≡ Less
number_below n =
    let below : n < n + 1 = omega arith in
    sym (nat_cmp_is n (n + 1) Less below)

module _ (name : List ℕ) (columns : List Kind) (first second : PartKind) where
  abbrev table : Table
  table = record { name = name; key = keys.Pair first second; columns = columns }

  -- a key of a part and the least one fits where the part does
  end_fits : (part : KeyPart) → part_has_kind first part ≡ true → part_is_too_long part ≡ false → check_key_in table (Pair part (least_part second)) ≡ None
  end_fits part kind short = λ i. first_fault (
      fault_if (not (kind i && least_has_kind second i)) WrongKind
      ∷ fault_if (short i || least_is_short second i) TooLong
      ∷ [])

  -- two ends that fit, the first one below the second one
  ends_fit : (part next : KeyPart) → part_has_kind first part ≡ true → part_is_too_long part ≡ false
      → part_has_kind first next ≡ true → part_is_too_long next ≡ false → part_cmp part next ≡ Less
      → check_range table (Some (Pair part (least_part second))) (Some (Pair next (least_part second))) ≡ None
  ends_fit part next kind short next_kind next_short below = λ i. first_fault (
      end_fits part kind short i
      ∷ end_fits next next_kind next_short i
      ∷ fault_if (not (is_lt (ordering_then (below i) (part_cmp (least_part second) (least_part second))))) EmptyRange
      ∷ [])

  -- one end alone
  lower_fits : (part : KeyPart) → part_has_kind first part ≡ true → part_is_too_long part ≡ false
      → check_range table (Some (Pair part (least_part second))) None ≡ None
  lower_fits part kind short = λ i. first_fault (end_fits part kind short i ∷ None ∷ None ∷ [])

  range_fits : (part : KeyPart) → part_has_kind first part ≡ true → is_longest part ≡ false
      → check_range table (Some (prefix_lower (keys.Pair first second) part)) (prefix_upper (keys.Pair first second) part) ≡ None
  range_fits (parts.Text t) kind short =
      ends_fit (parts.Text t) (parts.Text (t ++ 0 ∷ [])) kind (is_short (parts.Text t) short) (text_kind first t (t ++ 0 ∷ []) kind) (longer_by_one t short) (text_below t)
    where
      text_kind : (k : PartKind) (s u : List ℕ) → part_has_kind k (parts.Text s) ≡ true → part_has_kind k (parts.Text u) ≡ true
      text_kind part_kinds.Num s u e = cc
      text_kind part_kinds.Text s u e = refl
  range_fits (parts.Num n) kind short = by (nat_lt n (2 ^ 64 - 1))
    where
      number_kind : (k : PartKind) (m n : ℕ) → part_has_kind k (parts.Num m) ≡ true → part_has_kind k (parts.Num n) ≡ true
      number_kind part_kinds.Num m n e = refl
      number_kind part_kinds.Text m n e = cc

      by : (test : Bool) → check_range table (Some (Pair (parts.Num n) (least_part second))) (if test then Some (Pair (parts.Num (n + 1)) (least_part second)) else None) ≡ None
      by true = ends_fit (parts.Num n) (parts.Num (n + 1)) kind refl (number_kind first n (n + 1) kind) refl (number_below n)
      by false = lower_fits (parts.Num n) kind refl

fits : (name : List ℕ) (columns : List Kind) (kind : KeyKind) (part : KeyPart) → begins_keys kind part ≡ true → is_longest part ≡ false
    → check_range (record { name = name; key = kind; columns = columns }) (Some (prefix_lower kind part)) (prefix_upper kind part) ≡ None
fits name columns keys.Num part begins short = cc
fits name columns keys.Text part begins short = cc
fits name columns (keys.Pair first second) part begins short = range_fits name columns first second part begins short

pub prefix_fits : PrefixFits
prefix_fits table part e =
    let may = neither_refuses (begins_keys table.key part) (is_longest part) WrongKind TooLong e in
    fits table.name table.columns table.key part may.0 may.1
