-- Decimals: each number has one, and no other bytes are read.
use Rattle.std.proofs.Common.{◌≡◌, ◌≢◌, ℕ, zero, suc, ◌-◌, ◌^◌, ◌<◌, ◌≤◌, Bool, true, false, cond, eqb, ltb, leb, ◌&&◌, ◌||◌, not, IfSome, List, [], ◌∷◌, length, get_or, Option, Some, None, ℤ, pos, negsuc, FitsSigned, w64, option_map, drop, lit<, refl, sym, ap, subst, ◌∙◌, arith, rules}
use Rattle.std.specs.List.{list_all}
use Rattle.std.specs.Prelude.{option_and_then}
use Rattle.std.specs.Char.{is_ascii_digit}
use Rattle.std.specs.Fmt.{decimal, signed_decimal}
use Rattle.std.specs.Str.Parse.{digits_value}
use Rattle.std.proofs.lemmas.Bool.{ltb-true, lt-ltb, leb-true, le-leb, eqb-true, eq-eqb, ne_eqb}
use Rattle.std.proofs.lemmas.Str.Parse.{IsNumeralModel, numerals_by_value, digit_at}
use Rattle.std.proofs.lemmas.Int.{ints}
use Rattle.std.proofs.lemmas.Fmt.{decimal-digits_value, digits_decimal, digits_value-decimal, decimal_nonempty, first_decimal, decimal_digit}
use Rattle.occ_text.specs.Reading.{Reads, begins_with, is_decimal, decimal_of, at_most, number_of, negated, int_of}

abbrev AreDigits : List ℕ → Type 0
AreDigits bytes = list_all is_ascii_digit bytes ≡ true

own : IsNumeralModel AreDigits (digits_value 10)
own = numerals_by_value AreDigits (search rules)

-- what the bytes of a decimal are
record Decimal (token : List ℕ) : Type 0 where
  digits : AreDigits token
  some : 0 < length token
  lead : get_or token 0 0 ≡ 48 → length token ≡ 1

-- both parts of a test that passed
both : (a b : Bool) → (a && b) ≡ true → (a ≡ true) × (b ≡ true)
both true b h = (refl, h)
both false b h = absurd cc

lead_from_test : (token : List ℕ) → (not (begins_with token 48) || eqb (length token) 1) ≡ true → get_or token 0 0 ≡ 48 → length token ≡ 1
lead_from_test [] h e = absurd (omega arith)
lead_from_test (c ∷ cs) h e = eqb-true (length (c ∷ cs)) 1 (subst (λ (b : Bool). (not b || eqb (length (c ∷ cs)) 1) ≡ true) (eq-eqb c 48 e) h)

either : (b : Bool) (n : ℕ) → (b ≡ true → n ≡ 1) → (not b || eqb n 1) ≡ true
either false n h = refl
either true n h = eq-eqb n 1 (h refl)

test_from_lead : (token : List ℕ) → (get_or token 0 0 ≡ 48 → length token ≡ 1) → (not (begins_with token 48) || eqb (length token) 1) ≡ true
test_from_lead [] h = refl
test_from_lead (c ∷ cs) h = either (eqb c 48) (length (c ∷ cs)) (λ e. h (eqb-true c 48 e))

decimal_from_test : (token : List ℕ) → is_decimal token ≡ true → Decimal token
unfolding is_decimal
decimal_from_test token h =
    let p = both (ltb 0 (length token) && list_all is_ascii_digit token) (not (begins_with token 48) || eqb (length token) 1) h in
    let q = both (ltb 0 (length token)) (list_all is_ascii_digit token) p.0 in
    record { digits = q.1; some = ltb-true 0 (length token) q.0; lead = lead_from_test token p.1 }

all_three : (a b c : Bool) → a ≡ true → b ≡ true → c ≡ true → (a && b && c) ≡ true
all_three a b c p q r = rw (p, q, r) refl

test_from_decimal : (token : List ℕ) → Decimal token → is_decimal token ≡ true
unfolding is_decimal
test_from_decimal token d = all_three _ _ _ (lt-ltb 0 (length token) d.some) d.digits (test_from_lead token d.lead)

-- what a number's reader gives, by its two tests
pub number_passed : (a b : Bool) (n x : ℕ) → cond (a && b) (Some n) None ≡ Some x → (a ≡ true) × (b ≡ true) × (n ≡ x)
number_passed true true n x h = (refl, refl, cc)
number_passed true false n x h = absurd cc
number_passed false b n x h = absurd cc

decimal_takes : (token : List ℕ) (n : ℕ) → decimal_of token ≡ Some n → token ≡ decimal n
unfolding decimal_of
decimal_takes token n h =
    let p = number_passed (is_decimal token) (ltb (digits_value 10 token) (2 ^ 64)) (digits_value 10 token) n h in
    let d = decimal_from_test token p.0 in
    sym (decimal-digits_value own token d.digits d.some d.lead (ltb-true _ _ p.1)) ∙ ap decimal p.2

bind_some : (o : Option ℕ) (f : ℕ → Option ℕ) (y : ℕ) → option_and_then f o ≡ Some y → (x : ℕ) × (o ≡ Some x) × (f x ≡ Some y)
bind_some None f y h = absurd cc
bind_some (Some x) f y h = (x, refl, h)

within_limit : (b : Bool) (m n : ℕ) → cond b (Some m) None ≡ Some n → (b ≡ true) × (m ≡ n)
within_limit true m n h = (refl, cc)
within_limit false m n h = absurd cc

pub number_takes : (limit : ℕ) (token : List ℕ) (n : ℕ) → number_of limit token ≡ Some n → (token ≡ decimal n) × (n ≤ limit)
unfolding number_of
number_takes limit token n h =
    let b = bind_some (decimal_of token) (at_most limit) n h in
    let w = within_limit (leb b.0 limit) b.0 n b.2 in
    (decimal_takes token b.0 b.1 ∙ ap decimal w.1, subst (λ (m : ℕ). m ≤ limit) w.1 (leb-true _ _ w.0))

zero_alone : (n : ℕ) → n < 2 ^ 64 → get_or (decimal n) 0 0 ≡ 48 → length (decimal n) ≡ 1
zero_alone zero small e = ap length (decimal_digit 0 (omega arith))
zero_alone (suc n) small e = absurd (omega (arith, first_decimal (suc n) (omega arith) small))

decimal_decimal : (n : ℕ) → n < 2 ^ 64 → Decimal (decimal n)
decimal_decimal n small = record {
  digits = digits_decimal own n small;
  some = decimal_nonempty n small;
  lead = λ e. zero_alone n small e;
}

decimal_again : (n : ℕ) → n < 2 ^ 64 → decimal_of (decimal n) ≡ Some n
unfolding decimal_of
decimal_again n small =
    rw (test_from_decimal (decimal n) (decimal_decimal n small), digits_value-decimal own n small, lt-ltb n (2 ^ 64) small) refl

pub number_again : (limit n : ℕ) → limit < 2 ^ 64 → n ≤ limit → number_of limit (decimal n) ≡ Some n
unfolding number_of
number_again limit n small le = rw (decimal_again n (omega arith), le-leb n limit le) refl

-- what holds of each value that a reader may give holds of what it gave
pub some_or_none : {X : Type 0} (o : Option X) (P : X → Type 0) → ((x : X) → o ≡ Some x → P x) → IfSome o P
some_or_none None P h = tt
some_or_none (Some x) P h = h x refl

-- a number's reader is right
pub number_reads : (limit : ℕ) (token : List ℕ) → limit < 2 ^ 64 → Reads decimal (λ n. n ≤ limit) token (number_of limit token)
number_reads limit token small = record {
  found = some_or_none (number_of limit token) (λ n. (token ≡ decimal n) × (n ≤ limit)) (λ n h. number_takes limit token n h);
  again = λ n le e. ap (number_of limit) e ∙ number_again limit n small le;
}

-- what is no decimal has no value
pub decimal_none : (token : List ℕ) → is_decimal token ≡ false → decimal_of token ≡ None
unfolding decimal_of
decimal_none token h = rw h refl

-- ---- with a sign

fits_pos : (n : ℕ) → n ≤ 2 ^ 63 - 1 → FitsSigned w64 (pos n)
fits_pos n h = omega (arith, ints)

fits_negsuc : (n : ℕ) → suc n ≤ 2 ^ 63 → FitsSigned w64 (negsuc n)
fits_negsuc n h = omega (arith, ints)

pos_fits : (n : ℕ) → FitsSigned w64 (pos n) → n ≤ 2 ^ 63 - 1
pos_fits n h = omega (arith, ints)

negsuc_fits : (n : ℕ) → FitsSigned w64 (negsuc n) → suc n ≤ 2 ^ 63
negsuc_fits n h = omega (arith, ints)

pub first_is : (token : List ℕ) (byte : ℕ) → begins_with token byte ≡ true → token ≡ byte ∷ drop 1 token
first_is [] byte h = absurd cc
first_is (c ∷ cs) byte h = ap (λ (b : ℕ). b ∷ cs) (eqb-true c byte h)

first_is_not : (token : List ℕ) (byte : ℕ) → 0 < length token → get_or token 0 0 ≢ byte → begins_with token byte ≡ false
first_is_not [] byte some ne = refl
first_is_not (c ∷ cs) byte some ne = ne_eqb c byte ne

negated_takes : (n : ℕ) (z : ℤ) (token : List ℕ) → negated n ≡ Some z → token ≡ 45 ∷ decimal n → n ≤ 2 ^ 63 → (token ≡ signed_decimal z) × FitsSigned w64 z
negated_takes zero z token h e le = absurd cc
negated_takes (suc n) z token h e le =
    let same : negsuc n ≡ z = cc in
    subst (λ (y : ℤ). (token ≡ signed_decimal y) × FitsSigned w64 y) same (e, fits_negsuc n le)

bind_negated : (o : Option ℕ) (z : ℤ) → option_and_then negated o ≡ Some z → (n : ℕ) × (o ≡ Some n) × (negated n ≡ Some z)
bind_negated None z h = absurd cc
bind_negated (Some n) z h = (n, refl, h)

map_pos : (o : Option ℕ) (z : ℤ) → option_map pos o ≡ Some z → (n : ℕ) × (o ≡ Some n) × (pos n ≡ z)
map_pos None z h = absurd cc
map_pos (Some n) z h = (n, refl, cc)

int_cases : (b : Bool) (token : List ℕ) (z : ℤ) → begins_with token 45 ≡ b
    → cond b (option_and_then negated (number_of (2 ^ 63) (drop 1 token))) (option_map pos (number_of (2 ^ 63 - 1) token)) ≡ Some z → (token ≡ signed_decimal z) × FitsSigned w64 z
int_cases true token z first h =
    let b = bind_negated (number_of (2 ^ 63) (drop 1 token)) z h in
    let t = number_takes (2 ^ 63) (drop 1 token) b.0 b.1 in
    negated_takes b.0 z token b.2 (first_is token 45 first ∙ ap (λ (l : List ℕ). 45 ∷ l) t.0) t.1
int_cases false token z first h =
    let b = map_pos (number_of (2 ^ 63 - 1) token) z h in
    let t = number_takes (2 ^ 63 - 1) token b.0 b.1 in
    subst (λ (y : ℤ). (token ≡ signed_decimal y) × FitsSigned w64 y) b.2 (t.0, fits_pos b.0 t.1)

pub int_takes : (token : List ℕ) (z : ℤ) → int_of token ≡ Some z → (token ≡ signed_decimal z) × FitsSigned w64 z
unfolding int_of
int_takes token z h = int_cases (begins_with token 45) token z refl h

-- a decimal begins with a digit
pub decimal_begins_otherwise : (n byte : ℕ) → n < 2 ^ 64 → byte < 48 → begins_with (decimal n) byte ≡ false
decimal_begins_otherwise n byte small below =
    let d = decimal_decimal n small in
    let r = digit_at (decimal n) 0 (own.to (decimal n) d.digits) d.some in
    first_is_not (decimal n) byte d.some (λ e. omega (arith, r))

-- each byte of a decimal is a digit
pub decimal_digits : (n : ℕ) → n < 2 ^ 64 → list_all is_ascii_digit (decimal n) ≡ true
decimal_digits n small = (decimal_decimal n small).digits

pub int_again : (z : ℤ) → FitsSigned w64 z → int_of (signed_decimal z) ≡ Some z
unfolding int_of
int_again (pos n) fits =
    let le = pos_fits n fits in
    rw (decimal_begins_otherwise n 45 (omega arith) (lit< tt), number_again (2 ^ 63 - 1) n (lit< tt) le) refl
int_again (negsuc n) fits = rw (number_again (2 ^ 63) (suc n) (lit< tt) (negsuc_fits n fits)) refl

-- an int's reader is right
pub int_reads : (token : List ℕ) → Reads signed_decimal (FitsSigned w64) token (int_of token)
int_reads token = record {
  found = some_or_none (int_of token) (λ z. (token ≡ signed_decimal z) × FitsSigned w64 z) (λ z h. int_takes token z h);
  again = λ z fits e. ap int_of e ∙ int_again z fits;
}
