-- A decimal is read byte by byte.
use Rattle.std.proofs.Common.{◌≡◌, ℕ, ◌+◌, ◌-◌, ◌*◌, ◌^◌, ◌<◌, ◌≤◌, ◌⊎◌, Bool, true, false, cond, eqb, ltb, leb, ◌&&◌, ◌||◌, not, List, length, take, get_or, None, Some, inl, inr, refl, sym, ap, subst, ◌∙◌, add-one, arith}
use Rattle.std.specs.List.{list_all}
use Rattle.std.specs.Char.{is_ascii_digit, digit_value}
use Rattle.std.specs.Str.Parse.{digits_value}
use Rattle.std.proofs.Math.Nat.{pow-le-pow_right, pow-succ'}
use Rattle.std.proofs.lemmas.Bool.{ltb-true, lt-ltb, ltb-false, leb-true, false_from_ne_true}
use Rattle.std.proofs.lemmas.List.{take_all}
use Rattle.std.proofs.lemmas.List.Folds.{list_all_more, list_all_at}
use Rattle.std.proofs.lemmas.Str.{digit_value_digit}
use Rattle.std.proofs.lemmas.Str.Parse.{digits_value-take-le}
use Rattle.std.proofs.lemmas.Int.Digits.{digits_value_more}
use Rattle.occ_text.specs.Reading.{begins_with, is_decimal, decimal_of}
use Rattle.occ_text.specs.Digits.{begins_decimal, with_digit}
use Rattle.occ_text.proofs.Words.{both}
use Rattle.occ_text.proofs.Numbers.{number_passed, decimal_none}

-- the bytes up to a place are digits, and their number is this
abbrev pub IsRead : List ℕ → ℕ → ℕ → Type 0
IsRead token at number = (list_all is_ascii_digit (take at token) ≡ true) × (number ≡ digits_value 10 (take at token)) × (number < 2 ^ 64)

-- the value of a digit
value_is : (byte : ℕ) → is_ascii_digit byte ≡ true → digit_value byte ≡ byte - 48
value_is byte digit =
    let p = both (leb 48 byte) (leb byte 57) digit in
    let v = digit_value_digit byte (leb-true 48 byte p.0, leb-true byte 57 p.1) in
    omega arith

more_is : (number before digit byte : ℕ) → number ≡ before → digit ≡ byte - 48 → number * 10 + (byte - 48) ≡ before * 10 + digit
more_is number before digit byte same value = ap (λ n. n * 10 + (byte - 48)) same ∙ ap (λ d. before * 10 + d) (sym value)

-- one digit more is read
pub goes_on : (token : List ℕ) (at number longer : ℕ) → at < length token → with_digit number (get_or token at 0) ≡ Some longer → IsRead token at number → IsRead token (at + 1) longer
goes_on token at number longer less is read =
    let byte = get_or token at 0 in
    let p = number_passed (is_ascii_digit byte) (ltb (number * 10 + (byte - 48)) (2 ^ 64)) (number * 10 + (byte - 48)) longer is in (
      list_all_more is_ascii_digit token at 0 less ∙ ap (λ b. b && is_ascii_digit byte) read.0 ∙ p.0,
      sym p.2 ∙ more_is number (digits_value 10 (take at token)) (digit_value byte) byte read.1 (value_is byte p.0) ∙ sym (digits_value_more 10 token at less),
      subst (λ n. n < 2 ^ 64) p.2 (ltb-true (number * 10 + (byte - 48)) (2 ^ 64) p.1),
    )

and_gap : (a b c : Bool) → (a && c) ≡ false → ((a && b) && c) ≡ false
and_gap true true c h = h
and_gap true false c h = refl
and_gap false b c h = refl

and_mid : (a b c : Bool) → b ≡ false → ((a && b) && c) ≡ false
and_mid true b c h = ap (λ x. x && c) h
and_mid false b c h = refl

and_last : (a : Bool) → (a && false) ≡ false
and_last true = refl
and_last false = refl

none_of : (a b : Bool) (n : ℕ) → cond (a && b) (Some n) None ≡ None → (a ≡ false) ⊎ ((a ≡ true) × (b ≡ false))
none_of true true n h = absurd cc
none_of true false n h = inr (refl, refl)
none_of false b n h = inl refl

-- what begins no decimal is none
pub begins_none : (token : List ℕ) → begins_decimal token ≡ false → decimal_of token ≡ None
unfolding is_decimal
begins_none token h =
    decimal_none token (and_gap (ltb 0 (length token)) (list_all is_ascii_digit token) (not (begins_with token 48) || eqb (length token) 1) h)

-- ---- at most 19 digits, whose number fits

-- the bytes up to a place are digits, and their number is this, which has no more digits than they are
abbrev pub IsShort : List ℕ → ℕ → ℕ → Type 0
IsShort token at number = IsRead token at number × (number < 10 ^ at)

times_ten : (number power digit : ℕ) → number < power → digit ≤ 9 → number * 10 + digit < 10 * power
times_ten number power digit less small = omega arith

pub short_below : (at number : ℕ) → at < 19 → number < 10 ^ at → number < 10 ^ 18
short_below at number few less = omega (arith, pow-le-pow_right {n = 10} (omega arith) {i = at} {j = 18} (omega arith))

with_fitting : (number byte : ℕ) → is_ascii_digit byte ≡ true → number < 10 ^ 18 → with_digit number byte ≡ Some (number * 10 + (byte - 48))
with_fitting number byte digit below =
    let nine = leb-true byte 57 (both (leb 48 byte) (leb byte 57) digit).1 in
    rw (digit, lt-ltb (number * 10 + (byte - 48)) (2 ^ 64) (omega arith)) refl

pub no_digit : (number byte : ℕ) → is_ascii_digit byte ≡ false → with_digit number byte ≡ None
no_digit number byte none = ap (λ b. cond (b && ltb (number * 10 + (byte - 48)) (2 ^ 64)) (Some (number * 10 + (byte - 48))) None) none

-- one digit more of a few is read
pub short_more : (token : List ℕ) (at number : ℕ) → at < length token → at < 19 → is_ascii_digit (get_or token at 0) ≡ true → IsShort token at number
    → IsShort token (at + 1) (number * 10 + (get_or token at 0 - 48))
short_more token at number less few digit short =
    let byte = get_or token at 0 in
    let nine = leb-true byte 57 (both (leb 48 byte) (leb byte 57) digit).1 in
    let below = short_below at number few short.1 in
    let longer = number * 10 + (byte - 48) in
    (goes_on token at number longer less (with_fitting number byte digit below) short.0, subst (λ (k : ℕ). longer < 10 ^ k) (sym (add-one at)) (subst (λ (p : ℕ). longer < p) (sym (pow-succ' 10 at)) (times_ten number (10 ^ at) (byte - 48) short.1 (omega arith))))

-- a number that doesn't fit has no value
too_large : (token : List ℕ) → 2 ^ 64 ≤ digits_value 10 token → decimal_of token ≡ None
unfolding decimal_of
too_large token large =
    let no : ltb (digits_value 10 token) (2 ^ 64) ≡ false = false_from_ne_true (ltb (digits_value 10 token) (2 ^ 64)) (λ lt. let less = ltb-true (digits_value 10 token) (2 ^ 64) lt in absurd (omega arith)) in
    ap (λ b. cond (is_decimal token && b) (Some (digits_value 10 token)) None) no ∙ ap (λ b. cond b (Some (digits_value 10 token)) None) (and_last (is_decimal token))

chain : (a b c d : ℕ) → a ≤ b → b ≡ c → c ≤ d → a ≤ d
chain a b c d x y z = omega arith

-- a byte that ends the reading: the bytes are no decimal of 64 bits
pub stops : (token : List ℕ) (at number : ℕ) → at < length token → with_digit number (get_or token at 0) ≡ None → IsRead token at number → decimal_of token ≡ None
unfolding is_decimal
stops token at number less is read =
    let byte = get_or token at 0 in
    elim (none_of (is_ascii_digit byte) (ltb (number * 10 + (byte - 48)) (2 ^ 64)) (number * 10 + (byte - 48)) is) [
      | inl other ↦ decimal_none token (and_mid (ltb 0 (length token)) (list_all is_ascii_digit token) (not (begins_with token 48) || eqb (length token) 1) (list_all_at is_ascii_digit token at 0 less other))
      | inr p ↦ too_large token (past p.0 p.1)
    ]
  where
    past : is_ascii_digit (get_or token at 0) ≡ true → ltb (number * 10 + (get_or token at 0 - 48)) (2 ^ 64) ≡ false → 2 ^ 64 ≤ digits_value 10 token
    past digit large =
        let over = ltb-false (number * 10 + (get_or token at 0 - 48)) (2 ^ 64) large in
        let same = more_is number (digits_value 10 (take at token)) (digit_value (get_or token at 0)) (get_or token at 0) read.1 (value_is (get_or token at 0) digit) ∙ sym (digits_value_more 10 token at less) in
        let part = digits_value-take-le 10 token (at + 1) (omega arith) in
        chain (2 ^ 64) (number * 10 + (get_or token at 0 - 48)) (digits_value 10 (take (at + 1) token)) (digits_value 10 token) over same part

-- all bytes are read: the number is theirs
pub ends : (token : List ℕ) (at number : ℕ) → length token ≤ at → begins_decimal token ≡ true → IsRead token at number → decimal_of token ≡ Some number
unfolding decimal_of is_decimal
ends token at number past begins read =
    let all : take at token ≡ token = take_all at token past in
    let digits : list_all is_ascii_digit token ≡ true = ap (list_all is_ascii_digit) (sym all) ∙ read.0 in
    let value : number ≡ digits_value 10 token = read.1 ∙ ap (digits_value 10) all in
    let p = both (ltb 0 (length token)) (not (begins_with token 48) || eqb (length token) 1) begins in
    rw (p.0, digits, p.1, sym value, lt-ltb number (2 ^ 64) read.2) refl
