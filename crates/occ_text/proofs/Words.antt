-- Tokens and names: what is read is spelled so, and what is spelled so is read again.
use Rattle.std.proofs.Common.{◌≡◌, ◌≢◌, ℕ, ◌<◌, Bool, true, false, cond, eqb, ltb, leb, ◌&&◌, List, [], ◌∷◌, length, get_or, Some, None, Result, Ok, Err, MatchResult, option_map, inl, inr, refl, sym, ap, subst, ◌∙◌, arith}
use Rattle.std.specs.Prelude.{Option, option_and_then}
use Rattle.std.specs.List.{All, AllPass, list_all, slice_split, join_with_byte}
use Rattle.std.specs.Char.{is_ascii_graphic, is_ascii_lowercase}
use Rattle.std.specs.Str.{IsUtf8}
use Rattle.std.specs.Result.{result_ok}
use Rattle.std.proofs.lemmas.Bool.{ltb-true, lt-ltb, leb-true, le-leb, ne_eqb, eq-eqb, cases_lt, false≢true}
use Rattle.std.proofs.lemmas.List.{get_or_past}
use Rattle.std.proofs.lemmas.Str.{IsUtf8-from_ascii}
use Rattle.std.proofs.lemmas.List.Elements.{All-weaker, All-head, All-tail, All-get_or}
use Rattle.std.proofs.lemmas.List.Sums.{AllPass-from_list_all, list_all-from_AllPass}
use Rattle.std.proofs.lemmas.List.Splits.{slice_split_none, slice_split_at, join_with_byte-slice_split, length-slice_split}
use Rattle.occ_text.specs.Spelling.{line_text, IsToken, AreTokens, IsName}
use Rattle.occ_text.specs.Reading.{Reads, is_token, tokens_of, is_name, name_of}
use Rattle.occ_text.proofs.Numbers.{some_or_none}

-- both parts of a test that passed
pub both : (a b : Bool) → (a && b) ≡ true → (a ≡ true) × (b ≡ true)
both true b h = (refl, h)
both false b h = absurd cc

-- a test that passes gives the value
passed : {X : Type 0} (b : Bool) (x y : X) → cond b (Some x) None ≡ Some y → (b ≡ true) × (x ≡ y)
passed true x y h = (refl, cc)
passed false x y h = absurd cc

-- a token passes the test
pub IsToken-from_test : (token : List ℕ) → is_token token ≡ true → IsToken token
unfolding is_token
IsToken-from_test token h =
    let p = both (ltb 0 (length token)) (list_all is_ascii_graphic token) h in
    record { some = ltb-true 0 (length token) p.0; graphic = AllPass-from_list_all is_ascii_graphic token p.1 }

test-from_IsToken : (token : List ℕ) → IsToken token → is_token token ≡ true
unfolding is_token
test-from_IsToken token t = rw (lt-ltb 0 (length token) t.some, list_all-from_AllPass is_ascii_graphic token t.graphic) refl

-- bytes that differ from a separator don't pass for one
pub lacks : (separator : ℕ) (bytes : List ℕ) → All (λ byte. byte ≢ separator) bytes → All (λ byte. eqb byte separator ≡ false) bytes
lacks separator bytes h = All-weaker (λ (byte : ℕ). byte ≢ separator) (λ (byte : ℕ). eqb byte separator ≡ false) (λ byte ne. ne_eqb byte separator ne) bytes h

-- parts that lack the separator are cut again where they were joined
pub split_joined : (separator : ℕ) (parts : List (List ℕ)) → 0 < length parts → All (All (λ byte. byte ≢ separator)) parts
    → slice_split (λ byte. eqb byte separator) (join_with_byte separator parts) ≡ parts
split_joined separator [] some each = absurd (omega arith)
split_joined separator (x ∷ []) some each =
    slice_split_none (λ byte. eqb byte separator) x (lacks separator x (All-head (All (λ (byte : ℕ). byte ≢ separator)) x [] each))
split_joined separator (x ∷ y ∷ more) some each =
    slice_split_at (λ byte. eqb byte separator) x separator (join_with_byte separator (y ∷ more)) (lacks separator x (All-head (All (λ (byte : ℕ). byte ≢ separator)) x (y ∷ more) each)) (eq-eqb separator separator refl)
    ∙ ap (λ (l : List (List ℕ)). x ∷ l) (split_joined separator (y ∷ more) (omega arith) (All-tail (All (λ (byte : ℕ). byte ≢ separator)) x (y ∷ more) each))

graphic_is_no_space : (byte : ℕ) → is_ascii_graphic byte ≡ true → byte ≢ 32
graphic_is_no_space byte h e = absurd (omega (arith, leb-true 33 byte (both (leb 33 byte) (leb byte 126) h).0))

token_has_no_space : (token : List ℕ) → IsToken token → All (λ byte. byte ≢ 32) token
token_has_no_space token t = All-weaker (λ (byte : ℕ). is_ascii_graphic byte ≡ true) (λ (byte : ℕ). byte ≢ 32) graphic_is_no_space token t.graphic

pub tokens_takes : (line : List ℕ) (tokens : List (List ℕ)) → tokens_of line ≡ Some tokens → (line ≡ line_text tokens) × AreTokens tokens
unfolding tokens_of
tokens_takes line tokens h =
    let split = slice_split (λ byte. eqb byte 32) line in
    let p = passed (list_all is_token split) split tokens h in
    let n = length-slice_split (λ (byte : ℕ). eqb byte 32) line in
    subst (λ (ts : List (List ℕ)). (line ≡ line_text ts) × AreTokens ts) p.1 (
      sym (join_with_byte-slice_split 32 line),
      record { some = omega arith; each = All-weaker (λ t. is_token t ≡ true) IsToken IsToken-from_test split (AllPass-from_list_all is_token split p.0) },
    )

tested : (tokens : List (List ℕ)) → AreTokens tokens → list_all is_token tokens ≡ true
tested tokens t = list_all-from_AllPass is_token tokens (All-weaker IsToken (λ token. is_token token ≡ true) test-from_IsToken tokens t.each)

nothing : {X : Type 0} (o : Option X) → ((x : X) → o ≡ Some x → ⊥) → o ≡ None
nothing (Some x) h = absurd (h x refl)
nothing None h = refl

untested_by : {X : Type 0} (read : List (List ℕ) → Option X) (parts : List (List ℕ)) (b : Bool) → list_all is_token parts ≡ b → ((x : X) → read parts ≡ Some x → AreTokens parts)
    → option_and_then read (cond b (Some parts) None) ≡ read parts
untested_by read parts true is tells = refl
untested_by read parts false is tells = sym (nothing (read parts) (λ x h. false≢true (sym is ∙ tested parts (tells x h))))

-- parts of which nothing is read but where they are tokens need no test before
pub untested : {X : Type 0} (read : List (List ℕ) → Option X) (line : List ℕ) → ((x : X) → read (slice_split (λ byte. eqb byte 32) line) ≡ Some x → AreTokens (slice_split (λ byte. eqb byte 32) line))
    → option_and_then read (tokens_of line) ≡ read (slice_split (λ byte. eqb byte 32) line)
unfolding tokens_of
untested read line tells = untested_by read (slice_split (λ byte. eqb byte 32) line) (list_all is_token (slice_split (λ byte. eqb byte 32) line)) refl tells

pub tokens_again : (tokens : List (List ℕ)) → AreTokens tokens → tokens_of (line_text tokens) ≡ Some tokens
unfolding tokens_of
tokens_again tokens t =
    let same = split_joined 32 tokens t.some (All-weaker IsToken (All (λ (byte : ℕ). byte ≢ 32)) token_has_no_space tokens t.each) in
    ap (λ (ts : List (List ℕ)). cond (list_all is_token ts) (Some ts) None) same ∙ ap (λ (b : Bool). cond b (Some tokens) None) (tested tokens t)

-- the reader of tokens is right
pub tokens_reads : (line : List ℕ) → Reads line_text AreTokens line (tokens_of line)
tokens_reads line = record {
  found = some_or_none (tokens_of line) (λ ts. (line ≡ line_text ts) × AreTokens ts) (λ ts h. tokens_takes line ts h);
  again = λ ts fits e. ap tokens_of e ∙ tokens_again ts fits;
}

-- ---- names

pub IsName-from_test : (token : List ℕ) → is_name token ≡ true → IsName token
unfolding is_name
IsName-from_test token h =
    let p = both (ltb 0 (length token) && leb (length token) 16) (list_all is_ascii_lowercase token) h in
    let q = both (ltb 0 (length token)) (leb (length token) 16) p.0 in
    record { some = ltb-true 0 (length token) q.0; short = leb-true (length token) 16 q.1; letters = AllPass-from_list_all is_ascii_lowercase token p.1 }

test-from_IsName : (token : List ℕ) → IsName token → is_name token ≡ true
unfolding is_name
test-from_IsName token t = rw (lt-ltb 0 (length token) t.some, le-leb (length token) 16 t.short, list_all-from_AllPass is_ascii_lowercase token t.letters) refl

name_takes : (token name : List ℕ) → name_of token ≡ Some name → (token ≡ name) × IsName name
unfolding name_of
name_takes token name h = let p = passed (is_name token) token name h in (p.1, subst IsName p.1 (IsName-from_test token p.0))

name_again : (name : List ℕ) → IsName name → name_of name ≡ Some name
unfolding name_of
name_again name fits = rw (test-from_IsName name fits) refl

-- the reader of names is right
pub name_reads : (token : List ℕ) → Reads (λ name. name) IsName token (name_of token)
name_reads token = record {
  found = some_or_none (name_of token) (λ name. (token ≡ name) × IsName name) (λ name h. name_takes token name h);
  again = λ name fits e. ap name_of e ∙ name_again name fits;
}

below_128 : (token : List ℕ) → AllPass is_ascii_lowercase token → (i : ℕ) → get_or token i 0 < 128
below_128 token letters i =
    elim (cases_lt i (length token)) [
      | inl lt ↦ let h = both (leb 97 (get_or token i 0)) (leb (get_or token i 0) 122) (All-get_or (λ (byte : ℕ). is_ascii_lowercase byte ≡ true) token i 0 lt letters) in
          omega (arith, leb-true (get_or token i 0) 122 h.1)
      | inr le ↦ rw (get_or_past token i 0 le) (omega arith)
    ]

-- the bytes of a name are text
pub IsUtf8-name : (token : List ℕ) → is_name token ≡ true → IsUtf8 token
IsUtf8-name token h = IsUtf8-from_ascii token (λ i. below_128 token (IsName-from_test token h).letters i)

-- text that was checked is shown whole
shown : {S E : Type 0} (now : S → List ℕ) (r : Result S E) (bytes : List ℕ) (V : E → Type 0) → MatchResult r (λ s. (now s ≡ bytes) × IsUtf8 bytes) (λ e. (IsUtf8 bytes → ⊥) × V e)
    → IsUtf8 bytes → option_map now (result_ok r) ≡ Some bytes
shown now (Ok s) bytes V h text = ap Some h.0
shown now (Err e) bytes V h text = absurd (h.0 text)

pub name_shown : {S E : Type 0} (now : S → List ℕ) (r : Result S E) (token : List ℕ) (V : E → Type 0) → MatchResult r (λ s. (now s ≡ token) × IsUtf8 token) (λ e. (IsUtf8 token → ⊥) × V e)
    → is_name token ≡ true → option_map now (result_ok r) ≡ name_of token
unfolding name_of
name_shown now r token V h name = rw name (shown now r token V h (IsUtf8-name token name))
