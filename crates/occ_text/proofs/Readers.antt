-- What the readers of operations and of steps share.
use Rattle.std.proofs.Common.{◌≡◌, ◌≢◌, ℕ, ◌+◌, ◌<◌, ◌≤◌, drop, get_or, Bool, true, false, cond, eqb, ◌&&◌, List, [], ◌∷◌, length, Option, Some, IfSome, refl, sym, ap, subst, ◌∙◌}
use Rattle.std.specs.Str.{bytes_eq}
use Rattle.std.proofs.lemmas.Bool.{eq-eqb, ne_eqb, false_from_ne_true}
use Rattle.std.proofs.lemmas.List.{drop_more, drop_all}
use Rattle.std.proofs.lemmas.Slice.Eq.{bytes_eq-Decides}
use Rattle.occ_types.specs.Key.{Key}
use Rattle.occ_types.specs.Row.{Row}
use Rattle.occ_text.specs.declared.versions.Version.{Version}
use Rattle.occ_types.specs.Spelling.{key_text, row_text}
use Rattle.occ_text.specs.Spelling.{end_text, IsName, KeyFits, EndFits, RowFits}
use Rattle.occ_text.specs.Reading.{Reads, begins_with, name_of}
use Rattle.occ_text.specs.Escapes.{read_key, read_end, read_row}
use Rattle.occ_text.proofs.Words.{name_reads}
use Rattle.occ_text.proofs.Values.{key_reads, end_reads, row_reads}

-- ---- from what is right of a reader

pub takes : {X : Type 0} {spell : X → List ℕ} {fits : X → Type 0} {token : List ℕ} {read : Option X} (reads : Reads spell fits token read) (x : X) → read ≡ Some x → (token ≡ spell x) × fits x
takes {spell = spell} {fits = fits} {token = token} reads x e = subst (λ o. IfSome o (λ y. (token ≡ spell y) × fits y)) e reads.found

pub name_again : (name : List ℕ) → IsName name → name_of name ≡ Some name
name_again name fits = (name_reads name).again name fits refl

pub key_again : (version : Version) (key : Key) → KeyFits version key → read_key version (key_text key) ≡ Some key
key_again version key fits = (key_reads version (key_text key)).again key fits refl

pub end_again : (version : Version) (end : Option Key) → EndFits version end → read_end version (end_text end) ≡ Some end
end_again version end fits = (end_reads version (end_text end)).again end fits refl

pub row_again : (row : Row) → RowFits row → read_row (row_text row) ≡ Some row
row_again row fits = (row_reads (row_text row)).again row fits refl

-- ---- words

-- what was taken before the rest
pub behind : {x : List ℕ} {all rest more : List (List ℕ)} → all ≡ x ∷ rest → rest ≡ more → all ≡ x ∷ more
behind {x = x} e f = e ∙ ap (λ (l : List (List ℕ)). x ∷ l) f

-- a word that passes is that word
pub word_is : (token word : List ℕ) → bytes_eq token word ≡ true → token ≡ word
word_is token word h = (bytes_eq-Decides token word).0 h

-- bytes of another length are another word
pub other_long : (token word : List ℕ) → length token ≢ length word → false ≡ bytes_eq token word
other_long token word other = sym (false_from_ne_true (bytes_eq token word) (λ same. other (ap length (word_is token word same))))

-- what is left of bytes and of a word, from a place on where both have one more
same_at : (token word : List ℕ) (at : ℕ) → at < length token → at < length word → bytes_eq (drop at token) (drop at word) ≡ (eqb (get_or token at 0) (get_or word at 0) && bytes_eq (drop (at + 1) token) (drop (at + 1) word))
same_at token word at a b = λ i. bytes_eq (drop_more token at 0 a i) (drop_more word at 0 b i)

-- one byte more is the same
pub same_more : (token word : List ℕ) (at : ℕ) → at < length token → at < length word → get_or token at 0 ≡ get_or word at 0 → bytes_eq (drop at token) (drop at word) ≡ bytes_eq token word
    → bytes_eq (drop (at + 1) token) (drop (at + 1) word) ≡ bytes_eq token word
same_more token word at a b same so = sym (ap (λ x. x && bytes_eq (drop (at + 1) token) (drop (at + 1) word)) (eq-eqb (get_or token at 0) (get_or word at 0) same)) ∙ sym (same_at token word at a b) ∙ so

-- a byte is another one
pub same_less : (token word : List ℕ) (at : ℕ) → at < length token → at < length word → get_or token at 0 ≢ get_or word at 0 → bytes_eq (drop at token) (drop at word) ≡ bytes_eq token word
    → false ≡ bytes_eq token word
same_less token word at a b other so = sym (ap (λ x. x && bytes_eq (drop (at + 1) token) (drop (at + 1) word)) (ne_eqb (get_or token at 0) (get_or word at 0) other)) ∙ sym (same_at token word at a b) ∙ so

-- all bytes are the same
pub same_all : (token word : List ℕ) (at : ℕ) → length token ≤ at → length word ≤ at → bytes_eq (drop at token) (drop at word) ≡ bytes_eq token word → true ≡ bytes_eq token word
same_all token word at a b so = (λ i. bytes_eq (sym (drop_all at token a) i) (sym (drop_all at word b) i)) ∙ so

-- bytes that are a word begin as it does
pub begins_so : (token word : List ℕ) (byte : ℕ) → (begins_with token byte && bytes_eq token (byte ∷ word)) ≡ bytes_eq token (byte ∷ word)
begins_so [] word byte = refl
begins_so (a ∷ token) word byte = twice (eqb a byte) (bytes_eq token word)
  where
    twice : (same rest : Bool) → (same && (same && rest)) ≡ (same && rest)
    twice true rest = refl
    twice false rest = refl

-- a word is this one, and what stands behind it is read by its own form; or it is another one
pub this_word : {X : Type 0} (P : List (List ℕ) → X → Type 0) (this word : List ℕ) (rest : List (List ℕ)) (a b : Option X) (x : X) (p : Bool) → bytes_eq word this ≡ p
    → (a ≡ Some x → P (this ∷ rest) x) → (b ≡ Some x → P (word ∷ rest) x) → cond p a b ≡ Some x → P (word ∷ rest) x
this_word P this word rest a b x true is f g h = subst (λ (w : List ℕ). P (w ∷ rest) x) (sym (word_is word this is)) (f h)
this_word P this word rest a b x false other f g h = g h
