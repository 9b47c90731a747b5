-- Bytes that go on as those of a line of tokens are tokens with one space between two of them.
use Rattle.std.proofs.Common.{◌≡◌, ℕ, ◌+◌, ◌<◌, ◌≤◌, Bool, true, false, eqb, ltb, ◌&&◌, ◌||◌, not, List, [], ◌∷◌, length, drop, get_or, refl, sym, ap, ◌∙◌, arith}
use Rattle.std.specs.List.{list_all, slice_split, onto_first}
use Rattle.std.specs.Char.{is_ascii_graphic}
use Rattle.std.proofs.lemmas.Bool.{lt-ltb, eqb-true}
use Rattle.std.proofs.lemmas.List.{drop_more, drop_all}
use Rattle.occ_text.specs.Reading.{is_token}
use Rattle.occ_text.specs.TokenBytes.{may_follow, goes_on}

-- the parts that follow a byte pass: behind a space the first one is a token, and else what is left of one
abbrev behind : Bool → List (List ℕ) → Bool
behind begins [] = true
behind begins (part ∷ parts) = (not begins || ltb 0 (length part)) && (list_all is_ascii_graphic part && list_all is_token parts)

and_assoc : (a b c : Bool) → (a && (b && c)) ≡ ((a && b) && c)
and_assoc true b c = refl
and_assoc false b c = refl

-- behind a space all parts are tokens
behind_space : (parts : List (List ℕ)) → behind true parts ≡ list_all is_token parts
unfolding is_token
behind_space [] = refl
behind_space (part ∷ parts) = and_assoc (ltb 0 (length part)) (list_all is_ascii_graphic part) (list_all is_token parts)

at_end : (begins : Bool) → not begins ≡ ((not begins || false) && true)
at_end true = refl
at_end false = refl

at_space : (begins rest : Bool) → (not begins && rest) ≡ ((not begins || false) && rest)
at_space true rest = refl
at_space false rest = refl

at_byte : (graphic begins : Bool) (byte : ℕ) (parts : List (List ℕ)) → is_ascii_graphic byte ≡ graphic
    → ((graphic || (false && not begins)) && behind false parts) ≡ behind begins (onto_first byte parts)
at_byte true true byte [] is = rw is refl
at_byte true false byte [] is = rw is refl
at_byte false true byte [] is = rw is refl
at_byte false false byte [] is = rw is refl
at_byte true true byte (part ∷ parts) is = rw (is, lt-ltb 0 (length (byte ∷ part)) (omega arith)) refl
at_byte true false byte (part ∷ parts) is = rw is refl
at_byte false true byte (part ∷ parts) is = rw (is, lt-ltb 0 (length (byte ∷ part)) (omega arith)) refl
at_byte false false byte (part ∷ parts) is = rw is refl

-- one byte more, by whether it is a space
one_more : (space : Bool) (previous byte : ℕ) (bytes : List ℕ) → eqb byte 32 ≡ space → goes_on byte bytes ≡ behind space (slice_split (λ byte. eqb byte 32) bytes)
    → goes_on previous (byte ∷ bytes) ≡ behind (eqb previous 32) (slice_split (λ byte. eqb byte 32) (byte ∷ bytes))
one_more true previous byte bytes is rest =
    let space : is_ascii_graphic byte ≡ false = ap is_ascii_graphic (eqb-true byte 32 is) in
    let after : goes_on byte bytes ≡ list_all is_token (slice_split (λ byte. eqb byte 32) bytes) = rest ∙ behind_space (slice_split (λ byte. eqb byte 32) bytes) in
    rw (space, is, after) (at_space (eqb previous 32) (list_all is_token (slice_split (λ byte. eqb byte 32) bytes)))
one_more false previous byte bytes is rest =
    rw (is, rest) (at_byte (is_ascii_graphic byte) (eqb previous 32) byte (slice_split (λ byte. eqb byte 32) bytes) refl)

pub goes_on-behind : (previous : ℕ) (bytes : List ℕ) → goes_on previous bytes ≡ behind (eqb previous 32) (slice_split (λ byte. eqb byte 32) bytes)
goes_on-behind previous [] = at_end (eqb previous 32)
goes_on-behind previous (byte ∷ bytes) = one_more (eqb byte 32) previous byte bytes refl (goes_on-behind byte bytes)

-- a line whose bytes go on behind a space is tokens
pub tokens-go_on : (line : List ℕ) → goes_on 32 line ≡ list_all is_token (slice_split (λ byte. eqb byte 32) line)
tokens-go_on line = goes_on-behind 32 line ∙ behind_space (slice_split (λ byte. eqb byte 32) line)

-- a byte that may not stand where it does: the line is no tokens
pub none_at : (line : List ℕ) (at previous : ℕ) → at < length line → may_follow previous (get_or line at 0) ≡ false → goes_on previous (drop at line) ≡ goes_on 32 line
    → false ≡ list_all is_token (slice_split (λ byte. eqb byte 32) line)
none_at line at previous less not so =
    sym (ap (goes_on previous) (drop_more line at 0 less) ∙ ap (λ b. b && goes_on (get_or line at 0) (drop (at + 1) line)) not) ∙ so ∙ tokens-go_on line

-- a line that went on to its end is tokens where its last byte is no space
pub all_at_end : (line : List ℕ) (at previous : ℕ) → length line ≤ at → goes_on previous (drop at line) ≡ goes_on 32 line
    → not (eqb previous 32) ≡ list_all is_token (slice_split (λ byte. eqb byte 32) line)
all_at_end line at previous past so = sym (ap (goes_on previous) (drop_all at line past)) ∙ so ∙ tokens-go_on line
