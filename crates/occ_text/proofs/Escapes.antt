-- Escaped texts: each has one spelling.
use Rattle.std.proofs.Common.{◌≡◌, ℕ, zero, suc, ◌+◌, ◌-◌, ◌*◌, ◌/◌, ◌%◌, ◌<◌, ◌≤◌, Bool, true, false, cond, eqb, leb, ◌&&◌, List, [], ◌∷◌, ◌++◌, length, Option, Some, None, option_map, ◌⊎◌, refl, sym, ap, subst, ◌∙◌, append_assoc, inl, inr, arith}
use Rattle.std.specs.Prelude.{option_and_then, unwrap_or}
use Rattle.std.specs.List.{All}
use Rattle.std.proofs.lemmas.Bool.{lt-ltb, le-ltb, leb-true, le-leb, lt-leb, eqb-true, cases_lt}
use Rattle.std.proofs.lemmas.List.{append-nil, length-append}
use Rattle.std.proofs.lemmas.List.Elements.{All-head, All-tail, All-nil, All-cons}
use Rattle.std.proofs.lemmas.Bool.Decides.{nat_tests}
use Rattle.occ_types.specs.Spelling.{is_plain, hex_digit, escaped_byte, escaped}
use Rattle.occ_text.specs.Escapes.{hex_value, unless_plain, escape_of, before, with_rest, front_of, unescaped}
use Rattle.occ_text.proofs.Words.{both}

pub some_is : {S : Type 0} (x y : S) → Some x ≡ Some y → x ≡ y
some_is x y e = ap (λ o. unwrap_or o x) e

-- ---- one byte, and then the rest

bind_test : {A B : Type 0} (b : Bool) (x : A) (f : A → Option B) → cond b (f x) None ≡ option_and_then f (cond b (Some x) None)
bind_test true x f = refl
bind_test false x f = refl

bind_tests : {B : Type 0} (p q : Bool) (x : ℕ × List ℕ) (byte : Option ℕ) (rest : List ℕ) (f : ℕ × List ℕ → Option B)
    → cond p (f x) (cond q (option_and_then (λ b. f (b, rest)) byte) None) ≡ option_and_then f (cond p (Some x) (cond q (with_rest rest byte) None))
bind_tests true q x byte rest f = refl
bind_tests false false x byte rest f = refl
bind_tests false true x None rest f = refl
bind_tests false true x (Some b) rest f = refl

abbrev then_rest : ℕ × List ℕ → Option (List ℕ)
then_rest front = before front.0 (unescaped front.1)

step : (bytes : List ℕ) → 0 < length bytes → unescaped bytes ≡ option_and_then then_rest (front_of bytes)
unfolding unescaped front_of
step [] some = absurd (omega arith)
step (a ∷ []) some = bind_test (is_plain a) (a, []) then_rest
step (a ∷ b ∷ []) some = bind_test (is_plain a) (a, b ∷ []) then_rest
step (a ∷ b ∷ c ∷ cs) some = bind_tests (is_plain a) (eqb a 37) (a, b ∷ c ∷ cs) (escape_of b c) cs then_rest

-- ---- the loop

regroup : (text : List ℕ) (byte : ℕ) (o : Option (List ℕ)) → option_map (λ more. text ++ more) (before byte o) ≡ option_map (λ more. (text ++ byte ∷ []) ++ more) o
regroup text byte None = refl
regroup text byte (Some more) = ap Some (sym (append_assoc text (byte ∷ []) more))

pub loop_more : (bytes rest after text now : List ℕ) (byte : ℕ) → 0 < length rest → front_of rest ≡ Some (byte, after) → now ≡ text ++ byte ∷ [] → option_map (λ more. text ++ more) (unescaped rest) ≡ unescaped bytes
    → option_map (λ more. now ++ more) (unescaped after) ≡ unescaped bytes
loop_more bytes rest after text now byte some front pushed so_far =
    ap (λ (l : List ℕ). option_map (λ more. l ++ more) (unescaped after)) pushed ∙ sym (regroup text byte (unescaped after)) ∙ ap (option_map (λ (more : List ℕ). text ++ more)) (sym (step rest some ∙ ap (option_and_then then_rest) front)) ∙ so_far

pub loop_none : (bytes rest text : List ℕ) → 0 < length rest → front_of rest ≡ None → option_map (λ more. text ++ more) (unescaped rest) ≡ unescaped bytes → unescaped bytes ≡ None
loop_none bytes rest text some front so_far = sym so_far ∙ ap (option_map (λ (more : List ℕ). text ++ more)) (step rest some ∙ ap (option_and_then then_rest) front)

unescaped_nil : (bytes : List ℕ) → length bytes ≡ 0 → unescaped bytes ≡ Some []
unfolding unescaped
unescaped_nil [] e = refl
unescaped_nil (a ∷ bytes) e = absurd (omega arith)

pub loop_end : (bytes rest text : List ℕ) → length rest ≡ 0 → option_map (λ more. text ++ more) (unescaped rest) ≡ unescaped bytes → unescaped bytes ≡ Some text
loop_end bytes rest text none so_far = sym so_far ∙ ap (option_map (λ (more : List ℕ). text ++ more)) (unescaped_nil rest none) ∙ ap Some (append-nil text)

-- ---- hexadecimal digits

hex_cases : (p q : Bool) (m n h : ℕ) → cond p (Some m) (cond q (Some n) None) ≡ Some h → ((p ≡ true) × (m ≡ h)) ⊎ ((q ≡ true) × (n ≡ h))
hex_cases true q m n h e = inl (refl, cc)
hex_cases false true m n h e = inr (refl, cc)
hex_cases false false m n h e = absurd cc

pub low_digit : (n : ℕ) → n < 10 → hex_digit n ≡ 48 + n
low_digit n lt = rw (lt-ltb n 10 lt) refl

pub high_digit : (n : ℕ) → 10 ≤ n → hex_digit n ≡ 87 + n
high_digit n le = rw (le-ltb n 10 le) refl

hex_takes : (c h : ℕ) → hex_value c ≡ Some h → (c ≡ hex_digit h) × (h < 16)
hex_takes c h e =
    elim (hex_cases (leb 48 c && leb c 57) (leb 97 c && leb c 102) (c - 48) (c - 87) h e) [
      | inl p ↦
          let t = both (leb 48 c) (leb c 57) p.0 in
          let lo : 48 ≤ c = leb-true 48 c t.0 in
          let hi : c ≤ 57 = leb-true c 57 t.1 in
          let is : c - 48 ≡ h = p.1 in
          let value : c ≡ 48 + h = omega arith in
          (value ∙ sym (low_digit h (omega arith)), omega arith)
      | inr p ↦
          let t = both (leb 97 c) (leb c 102) p.0 in
          let lo : 97 ≤ c = leb-true 97 c t.0 in
          let hi : c ≤ 102 = leb-true c 102 t.1 in
          let is : c - 87 ≡ h = p.1 in
          let value : c ≡ 87 + h = omega arith in
          (value ∙ sym (high_digit h (omega arith)), omega arith)
    ]

hex_value-low : (n : ℕ) → n < 10 → hex_value (48 + n) ≡ Some n
hex_value-low n lt = rw (le-leb 48 (48 + n) (omega arith), le-leb (48 + n) 57 (omega arith)) (ap Some (omega arith))

hex_value-high : (n : ℕ) → 10 ≤ n → n < 16 → hex_value (87 + n) ≡ Some n
hex_value-high n le lt = rw (le-leb 48 (87 + n) (omega arith), lt-leb (87 + n) 57 (omega arith), le-leb 97 (87 + n) (omega arith), le-leb (87 + n) 102 (omega arith)) (ap Some (omega arith))

hex_again : (n : ℕ) → n < 16 → hex_value (hex_digit n) ≡ Some n
hex_again n lt = elim (cases_lt n 10) [
  | inl low ↦ ap hex_value (low_digit n low) ∙ hex_value-low n low
  | inr high ↦ ap hex_value (high_digit n high) ∙ hex_value-high n high lt
]

-- ---- the front

-- a byte below 256, with what its spelling stands before
record Front (bytes : List ℕ) (front : ℕ × List ℕ) : Type 0 where
  spelled : bytes ≡ escaped_byte front.0 ++ front.1
  byte : front.0 < 256
  shorter : length front.1 < length bytes

pub plain_spelling : (byte : ℕ) → is_plain byte ≡ true → escaped_byte byte ≡ byte ∷ []
plain_spelling byte h = rw h refl

pub escape_spelling : (byte : ℕ) → is_plain byte ≡ false → escaped_byte byte ≡ 37 ∷ hex_digit (byte / 16) ∷ hex_digit (byte % 16) ∷ []
escape_spelling byte h = rw h refl

plain_small : (byte : ℕ) → is_plain byte ≡ true → byte < 256
plain_small byte h = grind (arith, nat_tests)

front_plain : (a : ℕ) (rest : List ℕ) (p : ℕ × List ℕ) → is_plain a ≡ true → (a, rest) ≡ p → Front (a ∷ rest) p
front_plain a rest p h e = subst (Front (a ∷ rest)) e (record { spelled = ap (λ (l : List ℕ). l ++ rest) (sym (plain_spelling a h)); byte = plain_small a h; shorter = omega arith })

unless_takes : (b : Bool) (byte x : ℕ) → cond b None (Some byte) ≡ Some x → (b ≡ false) × (byte ≡ x)
unless_takes true byte x h = absurd cc
unless_takes false byte x h = (refl, cc)

pub bind_value : {A B : Type 0} (o : Option A) (f : A → Option B) (y : B) → option_and_then f o ≡ Some y → (x : A) × (o ≡ Some x) × (f x ≡ Some y)
bind_value None f y h = absurd cc
bind_value (Some x) f y h = (x, refl, h)

pub map_value : {A B : Type 0} (o : Option A) (f : A → B) (y : B) → option_map f o ≡ Some y → (x : A) × (o ≡ Some x) × (f x ≡ y)
map_value None f y h = absurd cc
map_value (Some x) f y h = (x, refl, some_is (f x) y h)

escape_takes : (high low byte : ℕ) → escape_of high low ≡ Some byte → (high ∷ low ∷ [] ≡ hex_digit (byte / 16) ∷ hex_digit (byte % 16) ∷ []) × (is_plain byte ≡ false) × (byte < 256)
unfolding escape_of
escape_takes high low byte e =
    let h = bind_value (hex_value high) (λ h. option_and_then (λ l. unless_plain (16 * h + l)) (hex_value low)) byte e in
    let l = bind_value (hex_value low) (λ l. unless_plain (16 * h.0 + l)) byte h.2 in
    let u = unless_takes (is_plain (16 * h.0 + l.0)) (16 * h.0 + l.0) byte l.2 in
    let hd = hex_takes high h.0 h.1 in
    let ld = hex_takes low l.0 l.1 in
    let is : 16 * h.0 + l.0 ≡ byte = u.1 in
    let hi : h.0 ≡ byte / 16 = omega arith in
    let lo : l.0 ≡ byte % 16 = omega arith in
    let first : high ≡ hex_digit (byte / 16) = hd.0 ∙ ap hex_digit hi in
    let second : low ≡ hex_digit (byte % 16) = ld.0 ∙ ap hex_digit lo in
    ((λ i. first i ∷ second i ∷ []), ap is_plain (sym is) ∙ u.0, omega arith)

front_cases : (p q : Bool) (x : ℕ × List ℕ) (byte : Option ℕ) (rest : List ℕ) (y : ℕ × List ℕ) → cond p (Some x) (cond q (with_rest rest byte) None) ≡ Some y
    → ((p ≡ true) × (x ≡ y)) ⊎ ((q ≡ true) × (with_rest rest byte ≡ Some y))
front_cases true q x byte rest y h = inl (refl, some_is x y h)
front_cases false true x byte rest y h = inr (refl, h)
front_cases false false x byte rest y h = absurd cc

one_case : (p : Bool) (x y : ℕ × List ℕ) → cond p (Some x) None ≡ Some y → (p ≡ true) × (x ≡ y)
one_case true x y h = (refl, some_is x y h)
one_case false x y h = absurd cc

front_takes : (bytes : List ℕ) (p : ℕ × List ℕ) → front_of bytes ≡ Some p → Front bytes p
unfolding front_of
front_takes [] p h = absurd cc
front_takes (a ∷ []) p h = let c = one_case (is_plain a) (a, []) p h in front_plain a [] p c.0 c.1
front_takes (a ∷ b ∷ []) p h = let c = one_case (is_plain a) (a, b ∷ []) p h in front_plain a (b ∷ []) p c.0 c.1
front_takes (a ∷ b ∷ c ∷ cs) p h = elim (front_cases (is_plain a) (eqb a 37) (a, b ∷ c ∷ cs) (escape_of b c) cs p h) [
  | inl t ↦ front_plain a (b ∷ c ∷ cs) p t.0 t.1
  | inr t ↦
      let v = map_value (escape_of b c) (λ byte. (byte, cs)) p t.1 in
      let e = escape_takes b c v.0 v.1 in
      let percent : a ≡ 37 = eqb-true a 37 t.0 in
      let whole : a ∷ b ∷ c ∷ cs ≡ escaped_byte v.0 ++ cs =
      ap (λ (x : ℕ). x ∷ b ∷ c ∷ cs) percent ∙ ap (λ (l : List ℕ). 37 ∷ (l ++ cs)) e.0 ∙ ap (λ (l : List ℕ). l ++ cs) (sym (escape_spelling v.0 e.1)) in
      subst (Front (a ∷ b ∷ c ∷ cs)) v.2 (record { spelled = whole; byte = e.2; shorter = omega arith })
]

pub front_shorter : (bytes : List ℕ) (byte : ℕ) (after : List ℕ) → front_of bytes ≡ Some (byte, after) → length after < length bytes
front_shorter bytes byte after h = (front_takes bytes (byte, after) h).shorter

-- ---- all of it

-- the bytes of an escaped text, each below 256
pub record Escaped (bytes text : List ℕ) : Type 0 where
  pub spelled : bytes ≡ escaped text
  pub small : All (λ byte. byte < 256) text

takes_by : (n : ℕ) (bytes text : List ℕ) → length bytes ≤ n → unescaped bytes ≡ Some text → Escaped bytes text
takes_by n [] text le h = subst (Escaped []) (some_is [] text (sym (unescaped_nil [] refl) ∙ h)) (record { spelled = refl; small = All-nil (λ (byte : ℕ). byte < 256) })
takes_by zero (a ∷ bytes) text le h = absurd (omega arith)
takes_by (suc n) (a ∷ bytes) text le h =
    let b = bind_value (front_of (a ∷ bytes)) then_rest text (sym (step (a ∷ bytes) (omega arith)) ∙ h) in
    let f = front_takes (a ∷ bytes) b.0 b.1 in
    let m = map_value (unescaped b.0.1) (λ l. b.0.0 ∷ l) text b.2 in
    let shorter : length b.0.1 < length (a ∷ bytes) = f.shorter in
    let rest = takes_by n b.0.1 m.0 (omega arith) m.1 in
    subst (Escaped (a ∷ bytes)) m.2 (record {
      spelled = f.spelled ∙ ap (λ (l : List ℕ). escaped_byte b.0.0 ++ l) rest.spelled;
      small = All-cons (λ (byte : ℕ). byte < 256) b.0.0 m.0 f.byte rest.small;
    })

pub unescaped_takes : (bytes text : List ℕ) → unescaped bytes ≡ Some text → Escaped bytes text
unescaped_takes bytes text h = takes_by (length bytes) bytes text (omega arith) h

plain_again : (a : ℕ) (rest : List ℕ) → is_plain a ≡ true → front_of (a ∷ rest) ≡ Some (a, rest)
unfolding front_of
plain_again a [] h = rw h refl
plain_again a (b ∷ []) h = rw h refl
plain_again a (b ∷ c ∷ cs) h = rw h refl

escape_again : (byte : ℕ) → byte < 256 → is_plain byte ≡ false → escape_of (hex_digit (byte / 16)) (hex_digit (byte % 16)) ≡ Some byte
unfolding escape_of
escape_again byte small h =
    let whole : 16 * (byte / 16) + byte % 16 ≡ byte = omega arith in
    rw (hex_again (byte / 16) (omega arith), hex_again (byte % 16) (omega arith), whole, h) refl

percent_again : (high low byte : ℕ) (rest : List ℕ) → escape_of high low ≡ Some byte → front_of (37 ∷ high ∷ low ∷ rest) ≡ Some (byte, rest)
unfolding front_of
percent_again high low byte rest h = ap (with_rest rest) h

front_by : (b : Bool) (byte : ℕ) (rest : List ℕ) → is_plain byte ≡ b → byte < 256 → front_of (escaped_byte byte ++ rest) ≡ Some (byte, rest)
front_by true byte rest h small = ap (λ (l : List ℕ). front_of (l ++ rest)) (plain_spelling byte h) ∙ plain_again byte rest h
front_by false byte rest h small = ap (λ (l : List ℕ). front_of (l ++ rest)) (escape_spelling byte h) ∙ percent_again _ _ byte rest (escape_again byte small h)

spelling_some : (b : Bool) (byte : ℕ) → is_plain byte ≡ b → 0 < length (escaped_byte byte)
spelling_some true byte h = rw (plain_spelling byte h) (omega arith)
spelling_some false byte h = rw (escape_spelling byte h) (omega arith)

pub unescaped_again : (text : List ℕ) → All (λ byte. byte < 256) text → unescaped (escaped text) ≡ Some text
unescaped_again [] small = unescaped_nil [] refl
unescaped_again (byte ∷ text) small =
    let some = spelling_some (is_plain byte) byte refl in
    step (escaped_byte byte ++ escaped text) (omega (arith, length-append (escaped_byte byte) (escaped text)))
    ∙ ap (option_and_then then_rest) (front_by (is_plain byte) byte (escaped text) refl (All-head (λ (b : ℕ). b < 256) byte text small))
    ∙ ap (before byte) (unescaped_again text (All-tail (λ (b : ℕ). b < 256) byte text small))
