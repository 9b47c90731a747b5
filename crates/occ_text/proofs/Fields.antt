-- The laws of fields: what is read is spelled so and fits, what fits is read again, its words are tokens, and they are short.
use Rattle.std.proofs.Common.{◌≡◌, ◌≢◌, ℕ, ◌+◌, ◌^◌, ◌<◌, ◌≤◌, Bool, true, false, cond, eqb, List, [], ◌∷◌, ◌++◌, length, leb, Option, Some, None, lit<, refl, sym, ap, subst, ◌∙◌, arith, append_assoc, length-append}
use Rattle.std.specs.Prelude.{option_map, option_and_then}
use Rattle.std.specs.List.{All, join_with_byte, slice_split}
use Rattle.std.specs.Char.{is_ascii_graphic}
use Rattle.std.specs.Str.{bytes_eq}
use Rattle.std.specs.Fmt.{decimal}
use Rattle.std.proofs.lemmas.Bool.{leb-true}
use Rattle.std.proofs.lemmas.Fmt.{length-decimal-le}
use Rattle.std.proofs.lemmas.List.Elements.{All-cons, All-append, All-head, All-tail, All-weaker}
use Rattle.std.proofs.lemmas.Slice.Eq.{bytes_eq-Decides}
use Rattle.occ_text.specs.Line.{IsLine, HasNoFeed}
use Rattle.occ_text.specs.Spelling.{line_text, IsToken, AreTokens}
use Rattle.occ_text.specs.Reading.{Reads, tokens_of, number_of}
use Rattle.occ_text.specs.Fields.{Tokens, Field, before, next_token, the_word, next_word, next_number, at_end, number, lettered, after, both, ◌⊗◌, tested, fitting, shaped, behind, alone, by_word, whole, of_line, line_of}
use Rattle.occ_text.proofs.Numbers.{some_or_none, number_reads}
use Rattle.occ_text.proofs.Escapes.{some_is, bind_value, map_value}
use Rattle.occ_text.proofs.Readers.{takes, word_is}
use Rattle.occ_text.proofs.Spelled.{IsToken-decimal}
use Rattle.occ_text.proofs.TokenLists.{one_token, more_tokens}
use Rattle.occ_text.proofs.Words.{tokens_takes, tokens_again}
use Rattle.occ_text.proofs.Words as words

-- ---- lines of tokens

graphic_is_no_feed : (byte : ℕ) → is_ascii_graphic byte ≡ true → byte ≢ 10
graphic_is_no_feed byte h e = absurd (omega (arith, leb-true 33 byte (words.both (leb 33 byte) (leb byte 126) h).0))

token_has_no_feed : (token : List ℕ) → IsToken token → HasNoFeed token
token_has_no_feed token t = All-weaker (λ (byte : ℕ). is_ascii_graphic byte ≡ true) (λ (byte : ℕ). byte ≢ 10) graphic_is_no_feed token t.graphic

space_is_no_feed : ◌≢◌ {A = ℕ} 32 10
space_is_no_feed e = absurd (omega arith)

pub words_have_no_feed : (tokens : Tokens) → 0 < length tokens → All IsToken tokens → HasNoFeed (line_text tokens)
words_have_no_feed [] some each = absurd (omega arith)
words_have_no_feed (token ∷ []) some each = token_has_no_feed token (All-head IsToken token [] each)
words_have_no_feed (token ∷ next ∷ more) some each =
    All-append (λ (byte : ℕ). byte ≢ 10) token (32 ∷ line_text (next ∷ more)) (token_has_no_feed token (All-head IsToken token (next ∷ more) each))
    (All-cons (λ (byte : ℕ). byte ≢ 10) 32 (line_text (next ∷ more)) space_is_no_feed (words_have_no_feed (next ∷ more) (omega arith) (All-tail IsToken token (next ∷ more) each)))

-- the bytes of some parts, and one behind each
abbrev pub width : List (List ℕ) → ℕ
width [] = 0
width (part ∷ parts) = length part + 1 + width parts

pub width-append : (parts more : List (List ℕ)) → width (parts ++ more) ≡ width parts + width more
width-append [] more = omega arith
width-append (part ∷ parts) more = let rest = width-append parts more in omega arith

pub joined_width : (separator : ℕ) (parts : List (List ℕ)) → length (join_with_byte separator parts) ≤ width parts
joined_width separator [] = omega arith
joined_width separator (part ∷ []) = omega arith
joined_width separator (part ∷ next ∷ more) =
    let rest = joined_width separator (next ∷ more) in
    omega (arith, length-append part (separator ∷ join_with_byte separator (next ∷ more)))

pub line_of_words : (tokens : Tokens) → AreTokens tokens → width tokens ≤ 8192 → IsLine (line_text tokens)
line_of_words tokens are short = let joined = joined_width 32 tokens in record { no_feed = words_have_no_feed tokens are.some are.each; short = omega arith }

pub decimal_width : (n : ℕ) → n < 2 ^ 64 → length (decimal n) ≤ 20
decimal_width n small = length-decimal-le 20 n (lit< tt) (omega arith) small

-- ---- what holds of a field

pub record IsField {X : Type 0} (field : Field X) (most : X → ℕ) : Type 0 where
  pub takes : (tokens : Tokens) (p : X × Tokens) → field.read tokens ≡ Some p → (tokens ≡ field.spell p.0 ++ p.1) × field.fits p.0
  pub again : (x : X) (rest : Tokens) → field.fits x → field.read (field.spell x ++ rest) ≡ Some (x, rest)
  pub words : (x : X) → field.fits x → AreTokens (field.spell x)
  pub short : (x : X) → field.fits x → width (field.spell x) ≤ most x

before-takes : {X : Type 0} (rest : Tokens) (read : Option X) (p : X × Tokens) → before rest read ≡ Some p → (read ≡ Some p.0) × (rest ≡ p.1)
before-takes {X = X} rest read p h =
    let v = map_value read (λ x. (x, rest)) p h in
    (v.1 ∙ ap (λ (q : X × Tokens). Some q.0) v.2, ap (λ (q : X × Tokens). q.1) v.2)

-- what was read of the next token
pub next-takes : {X : Type 0} (read : List ℕ → Option X) (tokens : Tokens) (p : X × Tokens) → option_and_then (λ (t : List ℕ × Tokens). before t.1 (read t.0)) (next_token tokens) ≡ Some p
    → (token : List ℕ) × (read token ≡ Some p.0) × (tokens ≡ token ∷ p.1)
next-takes read [] p h = absurd cc
next-takes read (token ∷ rest) p h =
    let b = before-takes rest (read token) p h in
    (token, b.0, ap (λ (l : Tokens). token ∷ l) b.1)

-- one token
pub token_field : {X : Type 0} (field : Field X) (read : List ℕ → Option X) (spell : X → List ℕ) (most : X → ℕ)
    → ((tokens : Tokens) → field.read tokens ≡ option_and_then (λ (t : List ℕ × Tokens). before t.1 (read t.0)) (next_token tokens))
    → ((x : X) → field.spell x ≡ spell x ∷ []) → ((token : List ℕ) → Reads spell field.fits token (read token))
    → ((x : X) → field.fits x → IsToken (spell x)) → ((x : X) → field.fits x → length (spell x) < most x) → IsField field most
token_field {X = X} field read spell most reads spells right token short = record {
  takes = λ tokens p h.
      let t = next-takes read tokens p (sym (reads tokens) ∙ h) in
      let r = takes (right t.0) p.0 t.1 in
      (t.2 ∙ ap (λ (w : List ℕ). w ∷ p.1) r.0 ∙ ap (λ (l : Tokens). l ++ p.1) (sym (spells p.0)), r.1);
  again = λ x rest fits.
      ap (λ (l : Tokens). field.read (l ++ rest)) (spells x) ∙ reads (spell x ∷ rest) ∙ ap (before rest) ((right (spell x)).again x fits refl);
  words = λ x fits. subst AreTokens (sym (spells x)) (one_token (token x fits));
  short = λ x fits. subst (λ (l : Tokens). width l ≤ most x) (sym (spells x)) (let few = short x fits in omega arith);
}

pub number_field : (limit : ℕ) → limit < 2 ^ 64 → IsField (number limit) (λ n. 21)
unfolding next_number
number_field limit small = token_field (number limit) (number_of limit) decimal (λ n. 21) (λ tokens. refl) (λ n. refl) (λ token. number_reads limit token small)
    (λ n fits. IsToken-decimal n (omega (arith, fits, small))) (λ n fits. let d = decimal_width n (omega (arith, fits, small)) in omega arith)

pub word-takes : (word : List ℕ) (tokens : Tokens) (p : Unit {0} × Tokens) → next_word word tokens ≡ Some p → tokens ≡ word ∷ p.1
unfolding next_word
word-takes word tokens p h =
    let t = next-takes (the_word word) tokens p h in
    t.2 ∙ ap (λ (x : List ℕ). x ∷ p.1) (word_is t.0 word (passed (bytes_eq t.0 word) (Some tt) p.0 t.1).0)
  where
    passed : {X : Type 0} (b : Bool) (o : Option X) (x : X) → cond b o None ≡ Some x → (b ≡ true) × (o ≡ Some x)
    passed true o x h = (refl, h)
    passed false o x h = absurd cc

pub word-again : (word : List ℕ) (rest : Tokens) → next_word word (word ∷ rest) ≡ Some (tt, rest)
unfolding next_word
word-again word rest = ap (λ (b : Bool). before rest (cond b (Some tt) None)) ((bytes_eq-Decides word word).1 refl)

pub after_word : {X : Type 0} {word : List ℕ} {field : Field X} {most : X → ℕ} → IsToken word → IsField field most → IsField (after word field) (λ x. length word + 1 + most x)
after_word {word = word} {field = field} {most = most} token f = record {
  takes = λ tokens p h.
      let w = bind_value (next_word word tokens) (λ w. field.read w.1) p h in
      let r = f.takes w.0.1 p w.2 in
      (word-takes word tokens w.0 w.1 ∙ ap (λ (l : Tokens). word ∷ l) r.0, r.1);
  again = λ x rest fits. ap (option_and_then (λ w. field.read w.1)) (word-again word (field.spell x ++ rest)) ∙ f.again x rest fits;
  words = λ x fits. more_tokens word (field.spell x) token (f.words x fits);
  short = λ x fits. let s = f.short x fits in omega arith;
}

joined_tokens : (a b : Tokens) → AreTokens a → AreTokens b → AreTokens (a ++ b)
joined_tokens a b are more = record { some = omega (arith, length-append a b, are.some); each = All-append IsToken a b are.each more.each }

pub both_fields : (letters : Tokens) {X Y : Type 0} {first : Field X} {second : X → Field Y} {m : X → ℕ} {n : Y → ℕ} → IsField first m → ((x : X) → first.fits x → IsField (second x) n)
    → IsField (both first letters second) (λ p. m p.0 + n p.1)
both_fields letters {X = X} {Y = Y} {first = first} {second = second} {m = m} {n = n} f g = record {
  takes = λ tokens p h.
      let a = bind_value (first.read tokens) _ p h in
      let b = map_value ((second a.0.0).read a.0.1) (λ y. ((a.0.0, y.0), y.1)) p a.2 in
      let s = f.takes tokens a.0 a.1 in
      let t = (g a.0.0 s.1).takes a.0.1 b.0 b.1 in
      subst (λ (q : (X × Y) × Tokens). (tokens ≡ (first.spell q.0.0 ++ (second q.0.0).spell q.0.1) ++ q.1) × (first.fits q.0.0 × (second q.0.0).fits q.0.1)) b.2
      (s.0 ∙ ap (λ (l : Tokens). first.spell a.0.0 ++ l) t.0 ∙ sym (append_assoc (first.spell a.0.0) ((second a.0.0).spell b.0.0) b.0.1), (s.1, t.1));
  again = λ p rest fits.
      ap (both first letters second).read (append_assoc (first.spell p.0) ((second p.0).spell p.1) rest)
      ∙ ap (option_and_then (λ (x : X × Tokens). option_map (λ (y : Y × Tokens). ((x.0, y.0), y.1)) ((second x.0).read x.1))) (f.again p.0 ((second p.0).spell p.1 ++ rest) fits.0)
      ∙ ap (option_map (λ (y : Y × Tokens). ((p.0, y.0), y.1))) ((g p.0 fits.0).again p.1 rest fits.1);
  words = λ p fits. joined_tokens (first.spell p.0) ((second p.0).spell p.1) (f.words p.0 fits.0) ((g p.0 fits.0).words p.1 fits.1);
  short = λ p fits.
      let s = f.short p.0 fits.0 in
      let t = (g p.0 fits.0).short p.1 fits.1 in
      omega (arith, width-append (first.spell p.0) ((second p.0).spell p.1));
}

pub one_and_other : {X Y : Type 0} {first : Field X} {second : Field Y} {m : X → ℕ} {n : Y → ℕ} → IsField first m → IsField second n → IsField (first ⊗ second) (λ p. m p.0 + n p.1)
one_and_other {X = X} {second = second} f g = both_fields second.letters {second = λ (x : X). second} f (λ x fits. g)

-- the same field by other letters
pub lettered_field : {X : Type 0} (letters : List ℕ) {field : Field X} {most : X → ℕ} → IsField field most → IsField (lettered letters field) most
lettered_field letters f = record { takes = f.takes; again = f.again; words = f.words; short = f.short }

kept : {X : Type 0} (b : Bool) (x p : X) → cond b (Some x) None ≡ Some p → (b ≡ true) × (x ≡ p)
kept true x p h = (refl, some_is x p h)
kept false x p h = absurd cc

pub tested_field : {X : Type 0} (passes : X → Bool) {field : Field X} {most : X → ℕ} → IsField field most → IsField (tested passes field) most
tested_field {X = X} passes {field = field} {most = most} f = record {
  takes = λ tokens p h.
      let x = bind_value (field.read tokens) (λ x. cond (passes x.0) (Some x) None) p h in
      let k = kept (passes x.0.0) x.0 p x.2 in
      let t = f.takes tokens x.0 x.1 in
      subst (λ (q : X × Tokens). (tokens ≡ field.spell q.0 ++ q.1) × (field.fits q.0 × (passes q.0 ≡ true))) k.1 (t.0, (t.1, k.0));
  again = λ x rest fits.
      ap (option_and_then (λ (p : X × Tokens). cond (passes p.0) (Some p) None)) (f.again x rest fits.0) ∙ ap (λ (b : Bool). cond b (Some (x, rest)) None) fits.1;
  words = λ x fits. f.words x fits.0;
  short = λ x fits. f.short x fits.0;
}

pub fitting_field : {X : Type 0} (fits : X → Type 0) {field : Field X} {most : X → ℕ} → IsField field most → ((x : X) → field.fits x → fits x) → ((x : X) → fits x → field.fits x) → IsField (fitting fits field) most
fitting_field fits f to from = record {
  takes = λ tokens p h. let t = f.takes tokens p h in (t.0, to p.0 t.1);
  again = λ x rest h. f.again x rest (from x h);
  words = λ x h. f.words x (from x h);
  short = λ x h. f.short x (from x h);
}

pub shaped_field : {X Y : Type 0} (to : X → Y) (from : Y → X) (fits : Y → Type 0) {field : Field X} {most : X → ℕ} → ((x : X) → from (to x) ≡ x) → ((y : Y) → to (from y) ≡ y)
    → IsField field most → ((x : X) → field.fits x → fits (to x)) → ((y : Y) → fits y → field.fits (from y)) → IsField (shaped to from fits field) (λ y. most (from y))
shaped_field {X = X} {Y = Y} to from fits {field = field} {most = most} there back f fit fitting = record {
  takes = λ tokens p h.
      let x = map_value (field.read tokens) (λ x. (to x.0, x.1)) p h in
      let t = f.takes tokens x.0 x.1 in
      subst (λ (q : Y × Tokens). (tokens ≡ field.spell (from q.0) ++ q.1) × fits q.0) x.2 (t.0 ∙ ap (λ (y : X). field.spell y ++ x.0.1) (sym (there x.0.0)), fit x.0.0 t.1);
  again = λ y rest h. ap (option_map (λ (x : X × Tokens). (to x.0, x.1))) (f.again (from y) rest (fitting y h)) ∙ ap (λ (z : Y). Some (z, rest)) (back y);
  words = λ y h. f.words (from y) (fitting y h);
  short = λ y h. f.short (from y) (fitting y h);
}

-- ---- words, and what stands behind each

-- what stands behind a word spells a value with it
abbrev pub Behind : {Y : Type 0} → (Y → Tokens) → (Y → Type 0) → List ℕ → (Tokens → Option (Y × Tokens)) → Type 0
Behind {Y = Y} spell fits word read = (tokens : Tokens) (p : Y × Tokens) → read tokens ≡ Some p → (word ∷ tokens ≡ spell p.0 ++ p.1) × fits p.0

pub alone_takes : {Y : Type 0} (spell : Y → Tokens) (fits : Y → Type 0) (word : List ℕ) (y : Y) → spell y ≡ word ∷ [] → fits y → Behind spell fits word (alone y)
alone_takes {Y = Y} spell fits word y is fit tokens p h =
    subst (λ (q : Y × Tokens). (word ∷ tokens ≡ spell q.0 ++ q.1) × fits q.0) (some_is (y, tokens) p h) (ap (λ (l : Tokens). l ++ tokens) (sym is), fit)

pub behind_takes : {X Y : Type 0} (spell : Y → Tokens) (fits : Y → Type 0) (word : List ℕ) (to : X → Y) {field : Field X} {most : X → ℕ} → IsField field most → ((x : X) → spell (to x) ≡ word ∷ field.spell x) → ((x : X) → field.fits x → fits (to x))
    → Behind spell fits word (behind to field)
behind_takes {Y = Y} spell fits word to {field = field} f is fit tokens p h =
    let x = map_value (field.read tokens) (λ x. (to x.0, x.1)) p h in
    let t = f.takes tokens x.0 x.1 in
    subst (λ (q : Y × Tokens). (word ∷ tokens ≡ spell q.0 ++ q.1) × fits q.0) x.2
    (ap (λ (l : Tokens). word ∷ l) t.0 ∙ ap (λ (l : Tokens). l ++ x.0.1) (sym (is x.0.0)), fit x.0.0 t.1)

abbrev pub EachTakes : {Y : Type 0} → (Y → Tokens) → (Y → Type 0) → List (List ℕ × (Tokens → Option (Y × Tokens))) → Type 0
EachTakes spell fits [] = Unit {0}
EachTakes spell fits (form ∷ forms) = Behind spell fits form.0 form.1 × EachTakes spell fits forms

pub by_word-takes : {Y : Type 0} (spell : Y → Tokens) (fits : Y → Type 0) (forms : List (List ℕ × (Tokens → Option (Y × Tokens)))) (word : List ℕ) (tokens : Tokens) (p : Y × Tokens) → EachTakes spell fits forms
    → by_word forms (word, tokens) ≡ Some p → (word ∷ tokens ≡ spell p.0 ++ p.1) × fits p.0
by_word-takes spell fits [] word tokens p each h = absurd cc
by_word-takes {Y = Y} spell fits (form ∷ forms) word tokens p each h = by (bytes_eq word form.0) refl h (by_word-takes spell fits forms word tokens p each.1)
  where
    by : (b : Bool) → bytes_eq word form.0 ≡ b → cond b (form.1 tokens) (by_word forms (word, tokens)) ≡ Some p
        → (by_word forms (word, tokens) ≡ Some p → (word ∷ tokens ≡ spell p.0 ++ p.1) × fits p.0) → (word ∷ tokens ≡ spell p.0 ++ p.1) × fits p.0
    by true is k later = let t = each.0 tokens p k in (ap (λ (w : List ℕ). w ∷ tokens) (word_is word form.0 is) ∙ t.0, t.1)
    by false is k later = later k

-- a value that fits is read again, its words are tokens, and they are short
pub record IsSpelled {Y : Type 0} (read : Tokens → Option (Y × Tokens)) (spelled : Tokens) (y : Y) (most : ℕ) : Type 0 where
  pub again : (rest : Tokens) → read (spelled ++ rest) ≡ Some (y, rest)
  pub words : AreTokens spelled
  pub short : width spelled ≤ most

pub alone_spelled : {Y : Type 0} {read : Tokens → Option (Y × Tokens)} {word : List ℕ} {y : Y} → IsToken word → ((rest : Tokens) → read (word ∷ rest) ≡ Some (y, rest)) → IsSpelled read (word ∷ []) y (length word + 1)
alone_spelled token is = record { again = is; words = one_token token; short = omega arith }

pub behind_spelled : {X Y : Type 0} {read : Tokens → Option (Y × Tokens)} {word : List ℕ} (to : X → Y) {field : Field X} {most : X → ℕ} (x : X) → IsField field most → IsToken word
    → ((rest : Tokens) → read (word ∷ rest) ≡ behind to field rest) → field.fits x → IsSpelled read (word ∷ field.spell x) (to x) (length word + 1 + most x)
behind_spelled {X = X} {word = word} to {field = field} x f token is fits = record {
  again = λ rest. is (field.spell x ++ rest) ∙ ap (option_map (λ (p : X × Tokens). (to p.0, p.1))) (f.again x rest fits);
  words = more_tokens word (field.spell x) token (f.words x fits);
  short = let s = f.short x fits in omega arith;
}

pub within : {Y : Type 0} {read : Tokens → Option (Y × Tokens)} {spelled : Tokens} {y : Y} {m n : ℕ} → IsSpelled read spelled y m → m ≤ n → IsSpelled read spelled y n
within s le = record { again = s.again; words = s.words; short = omega (arith, s.short, le) }

pub words_field : {Y : Type 0} (field : Field Y) (forms : List (List ℕ × (Tokens → Option (Y × Tokens)))) (most : Y → ℕ) → ((tokens : Tokens) → field.read tokens ≡ option_and_then (by_word forms) (next_token tokens))
    → EachTakes field.spell field.fits forms → ((y : Y) → field.fits y → IsSpelled field.read (field.spell y) y (most y)) → IsField field most
words_field field forms most reads each spelled = record {
  takes = λ tokens p h. by tokens p (sym (reads tokens) ∙ h);
  again = λ y rest fits. (spelled y fits).again rest;
  words = λ y fits. (spelled y fits).words;
  short = λ y fits. (spelled y fits).short;
}
  where
    by : (tokens : Tokens) (p : _ × Tokens) → option_and_then (by_word forms) (next_token tokens) ≡ Some p → (tokens ≡ field.spell p.0 ++ p.1) × field.fits p.0
    by [] p h = absurd cc
    by (word ∷ tokens) p h = by_word-takes field.spell field.fits forms word tokens p each h

-- ---- the line of a field

pub end-takes : (tokens : Tokens) (u : Unit {0}) → at_end tokens ≡ Some u → tokens ≡ []
end-takes [] u h = refl
end-takes (token ∷ rest) u h = absurd cc

pub append_nil : (tokens : Tokens) → tokens ++ [] ≡ tokens
append_nil [] = refl
append_nil (token ∷ tokens) = ap (λ (l : Tokens). token ∷ l) (append_nil tokens)

pub whole_takes : {X : Type 0} {field : Field X} {most : X → ℕ} (tokens : Tokens) (x : X) → IsField field most → whole field tokens ≡ Some x → (tokens ≡ field.spell x) × field.fits x
whole_takes {X = X} {field = field} tokens x f h =
    let r = bind_value (field.read tokens) _ x h in
    let e = map_value (at_end r.0.1) (λ u. r.0.0) x r.2 in
    let s = f.takes tokens r.0 r.1 in
    subst (λ (y : X). (tokens ≡ field.spell y) × field.fits y) e.2 (s.0 ∙ ap (λ (l : Tokens). field.spell r.0.0 ++ l) (end-takes r.0.1 e.0 e.1) ∙ append_nil (field.spell r.0.0), s.1)

pub whole_again : {X : Type 0} {field : Field X} {most : X → ℕ} (x : X) → IsField field most → field.fits x → whole field (field.spell x) ≡ Some x
whole_again {X = X} {field = field} x f fits =
    ap (whole field) (sym (append_nil (field.spell x))) ∙ ap (option_and_then (λ (y : X × Tokens). option_map (λ end. y.0) (at_end y.1))) (f.again x [] fits)

line-takes : {X : Type 0} (field : Field X) (most : X → ℕ) (line : List ℕ) (x : X) → IsField field most → of_line field line ≡ Some x → (line ≡ line_of field x) × field.fits x
line-takes field most line x f h =
    let t = bind_value (tokens_of line) (whole field) x h in
    let r = whole_takes t.0 x f t.2 in
    ((tokens_takes line t.0 t.1).0 ∙ ap line_text r.0, r.1)

line_again : {X : Type 0} {field : Field X} {most : X → ℕ} (x : X) → IsField field most → field.fits x → of_line field (line_of field x) ≡ Some x
line_again {field = field} x f fits = ap (option_and_then (whole field)) (tokens_again (field.spell x) (f.words x fits)) ∙ whole_again x f fits

-- the reader of such lines is right
pub field_reads : {X : Type 0} {field : Field X} {most : X → ℕ} {line : List ℕ} {read : Option X} → IsField field most → read ≡ of_line field line → Reads (line_of field) field.fits line read
field_reads {field = field} {most = most} {line = line} f is = subst (Reads (line_of field) field.fits line) (sym is) (record {
  found = some_or_none (of_line field line) (λ x. (line ≡ line_of field x) × field.fits x) (λ x h. line-takes field most line x f h);
  again = λ x fits e. ap (of_line field) e ∙ line_again x f fits;
})

-- parts are tokens where a line of a field is read of them, so they need no test before
pub untested_field : {X : Type 0} {field : Field X} {most : X → ℕ} (line : List ℕ) → IsField field most → of_line field line ≡ whole field (slice_split (λ byte. eqb byte 32) line)
untested_field {field = field} line f =
    words.untested (whole field) line (λ x h. let t = whole_takes (slice_split (λ byte. eqb byte 32) line) x f h in subst AreTokens (sym t.0) (f.words x t.1))

pub field_is_line : {X : Type 0} {field : Field X} {most : X → ℕ} (x : X) → IsField field most → most x ≤ 8192 → field.fits x → IsLine (line_of field x)
field_is_line {field = field} x f few fits = let s = f.short x fits in line_of_words (field.spell x) (f.words x fits) (omega arith)
