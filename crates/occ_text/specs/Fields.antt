-- Lines by parts. A field stands in the next tokens of a line: what reads it, how it is spelled, and what fits belong together.
use Rattle.std.specs.Prelude.{ℕ, Bool, true, ◌≡◌, List, [], ◌∷◌, ◌++◌, map, codes, Option, Some, None, Result, Ok, Err, if◌then◌else◌, option_map, option_and_then}
use Rattle.std.specs.Str.{bytes_eq}
use Rattle.std.specs.List.{list_all, list_any}
use Rattle.std.specs.Fmt.{decimal}
use Rattle.std.specs.Prelude.{◌≤◌}
use Rattle.occ_text.specs.declared.tokens.Unread.{Unread}
use Rattle.occ_text.specs.declared.tokens.Unread.TheVariants.{Malformed, Memory}
use Rattle.occ_text.specs.Spelling.{line_text}
use Rattle.occ_text.specs.Reading.{tokens_of, number_of}

abbrev pub Tokens : Type 0
Tokens = List (List ℕ)

-- ---- tokens, one after another

-- what is read of a token stands before the rest
abbrev pub before : {X : Type 0} → Tokens → Option X → Option (X × Tokens)
before rest read = option_map (λ x. (x, rest)) read

-- what a call gave, seen by view, and the tokens that it left, are what reading gives, unless memory was refused
abbrev pub GivesNext : {X Y : Type 0} → (X → Y) → Result X Unread → Option (Y × Tokens) → Tokens → Type 0
GivesNext view (Ok x) read rest = read ≡ Some (view x, rest)
GivesNext view (Err Malformed) read rest = read ≡ None
GivesNext view (Err Memory) read rest = Unit {0}

abbrev pub next_token : Tokens → Option (List ℕ × Tokens)
next_token [] = None
next_token (token ∷ tokens) = Some (token, tokens)

abbrev pub the_word : List ℕ → List ℕ → Option (Unit {0})
the_word word token = if bytes_eq token word then Some tt else None

unfoldable pub next_word : List ℕ → Tokens → Option (Unit {0} × Tokens)
next_word word tokens = option_and_then (λ t. before t.1 (the_word word t.0)) (next_token tokens)

-- a number up to a limit
unfoldable pub next_number : ℕ → Tokens → Option (ℕ × Tokens)
next_number limit tokens = option_and_then (λ t. before t.1 (number_of limit t.0)) (next_token tokens)

-- no token is left
abbrev pub at_end : Tokens → Option (Unit {0})
at_end [] = Some tt
at_end (token ∷ tokens) = None

-- ---- fields

-- and the letters that stand for its tokens where a form is told
pub record Field (X : Type 0) : Type 1 where
  pub read : Tokens → Option (X × Tokens)
  pub spell : X → Tokens
  pub fits : X → Type 0
  pub letters : Tokens

-- a number up to a limit
abbrev pub number : ℕ → Field ℕ
number limit = record { read = next_number limit; spell = λ n. decimal n ∷ []; fits = λ n. n ≤ limit; letters = codes "N" ∷ [] }

-- the same field by other letters
abbrev pub lettered : {X : Type 0} → List ℕ → Field X → Field X
lettered letters field = record { read = field.read; spell = field.spell; fits = field.fits; letters = letters ∷ [] }

-- no token
abbrev pub nothing : Field (Unit {0})
nothing = record { read = λ tokens. Some (tt, tokens); spell = λ none. []; fits = λ none. Unit {0}; letters = [] }

-- a field behind a word
abbrev pub after : {X : Type 0} → List ℕ → Field X → Field X
after word field = record {
  read = λ tokens. option_and_then (λ w. field.read w.1) (next_word word tokens);
  spell = λ x. word ∷ field.spell x;
  fits = field.fits;
  letters = word ∷ field.letters;
}

-- two fields, of which the first one says how the second is read, with the letters of the second one
abbrev pub both : {X Y : Type 0} → Field X → Tokens → (X → Field Y) → Field (X × Y)
both first letters second = record {
  read = λ tokens. option_and_then (λ x. option_map (λ y. ((x.0, y.0), y.1)) ((second x.0).read x.1)) (first.read tokens);
  spell = λ p. first.spell p.0 ++ (second p.0).spell p.1;
  fits = λ p. first.fits p.0 × (second p.0).fits p.1;
  letters = first.letters ++ letters;
}

-- one field and another
infixr 6 ◌⊗◌
abbrev pub ◌⊗◌ : {X Y : Type 0} → Field X → Field Y → Field (X × Y)
first ⊗ second = both first second.letters (λ x. second)

-- a field of which only what passes a test is read
abbrev pub tested : {X : Type 0} → (X → Bool) → Field X → Field X
tested passes field = record {
  read = λ tokens. option_and_then (λ x. if passes x.0 then Some x else None) (field.read tokens);
  spell = field.spell;
  fits = λ x. field.fits x × (passes x ≡ true);
  letters = field.letters;
}

-- a field of which the same fits, said in other words
abbrev pub fitting : {X : Type 0} → (X → Type 0) → Field X → Field X
fitting fits field = record { read = field.read; spell = field.spell; fits = fits; letters = field.letters }

-- a field in another shape
abbrev pub shaped : {X Y : Type 0} → (X → Y) → (Y → X) → (Y → Type 0) → Field X → Field Y
shaped to from fits field = record {
  read = λ tokens. option_map (λ x. (to x.0, x.1)) (field.read tokens);
  spell = λ y. field.spell (from y);
  fits = fits;
  letters = field.letters;
}

-- a value behind a word, and a word alone
abbrev pub behind : {X Y : Type 0} → (X → Y) → Field X → Tokens → Option (Y × Tokens)
behind to field tokens = option_map (λ x. (to x.0, x.1)) (field.read tokens)

abbrev pub alone : {Y : Type 0} → Y → Tokens → Option (Y × Tokens)
alone y tokens = Some (y, tokens)

-- a word of some, and what stands behind it
abbrev pub by_word : {Y : Type 0} → List (List ℕ × (Tokens → Option (Y × Tokens))) → List ℕ × Tokens → Option (Y × Tokens)
by_word [] token = None
by_word (form ∷ forms) token = if bytes_eq token.0 form.0 then form.1 token.1 else by_word forms token

-- ---- forms

-- a form of a thing: its word, what stands behind the word, and what that tells
pub record Form (Y : Type 0) : Type 1 where
  pub word : List ℕ
  pub Told : Type 0
  pub behind : Field Told
  pub to : Told → Y

-- what a form reads behind its word
unfoldable pub read_form : {Y : Type 0} → Form Y → Tokens → Option (Y × Tokens)
read_form form tokens = behind form.to form.behind tokens

-- the words of some forms, with what each reads
abbrev pub readers : {Y : Type 0} → List (Form Y) → List (List ℕ × (Tokens → Option (Y × Tokens)))
readers forms = map (λ form. (form.word, read_form form)) forms

-- a form as the formats are told: its word, and letters for what stands behind it
abbrev pub told_as : {Y : Type 0} → Form Y → Tokens
told_as form = form.word ∷ form.behind.letters

-- two lists have the same lines, in any order
abbrev pub AreSame : List (List ℕ) → List (List ℕ) → Type 0
AreSame ones others = (list_all (λ one. list_any (bytes_eq one) others) ones ≡ true) × (list_all (λ other. list_any (bytes_eq other) ones) others ≡ true)

-- what is read of the tokens that are a field, and of the line of it
abbrev pub whole : {X : Type 0} → Field X → Tokens → Option X
whole field tokens = option_and_then (λ x. option_map (λ end. x.0) (at_end x.1)) (field.read tokens)

abbrev pub of_line : {X : Type 0} → Field X → List ℕ → Option X
of_line field line = option_and_then (whole field) (tokens_of line)

-- the line of a field
abbrev pub line_of : {X : Type 0} → Field X → X → List ℕ
line_of field x = line_text (field.spell x)
