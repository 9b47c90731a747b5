-- The lines of a header: what is read is spelled so, and what is spelled so is read again.
use Rattle.std.proofs.Common.{◌≡◌, ℕ, ◌^◌, ◌+◌, ◌<◌, ◌≤◌, ◌&&◌, Bool, true, false, cond, ltb, leb, List, [], ◌∷◌, length, map, Option, Some, None, refl, sym, ap, subst, ◌∙◌, arith}
use Rattle.std.specs.Prelude.{option_and_then, option_map, codes}
use Rattle.std.specs.List.{All}
use Rattle.std.specs.Str.{bytes_eq}
use Rattle.std.proofs.lemmas.Bool.{ltb-true, lt-ltb, leb-true, le-leb}
use Rattle.std.proofs.lemmas.List.{length-map}
use Rattle.std.proofs.lemmas.List.Elements.{All-nil, All-cons}
use Rattle.occ_types.specs.declared.kind.Kind.{Kind}
use Rattle.occ_types.specs.declared.kind.Kind.TheVariants as cells
use Rattle.occ_types.specs.declared.kind.KeyKind.{KeyKind}
use Rattle.occ_types.specs.declared.kind.KeyKind.TheVariants as keys
use Rattle.occ_types.specs.declared.kind.PartKind.{PartKind}
use Rattle.occ_types.specs.declared.kind.PartKind.TheVariants as parts
use Rattle.occ_types.specs.Schema.{Table}
use Rattle.occ_text.specs.declared.versions.Version.{Version}
use Rattle.occ_text.specs.declared.versions.Version.TheVariants.{One, Two}
use Rattle.occ_text.specs.Spelling.{line_text, IsToken, AreTokens}
use Rattle.occ_text.specs.Reading.{Reads, is_token, tokens_of, name_of}
use Rattle.occ_text.specs.Headers.{version_text, key_kind_word, kind_word, table_tokens, table_text, count_text, Within, KindFits, TableFits, TableHasLine}
use Rattle.occ_text.specs.HeaderReading.{count_line, count_of_line, version_of, pair_kind_of, newer_kind_of, key_kind_of, kind_of, kinds_of, if_few, columns_of, table_of_parts, table_of_tokens, table_of_line}
use Rattle.occ_text.specs.Line.{IsLine}
use Rattle.occ_text.proofs.Numbers.{some_or_none}
use Rattle.occ_text.proofs.Escapes.{some_is, bind_value, map_value}
use Rattle.occ_text.proofs.Words.{both, IsToken-from_test, tokens_takes, tokens_again, name_reads}
use Rattle.occ_text.proofs.Spelled.{IsToken-name}
use Rattle.occ_text.proofs.Readers.{takes, word_is, name_again}
use Rattle.occ_text.proofs.Fields.{IsField, number_field, after_word, tested_field, fitting_field, field_reads, field_is_line}
use Rattle.occ_text.proofs.TokenLists.{more_tokens}

-- a test that passed leaves what stands behind it
pub tested : {X : Type 0} (b : Bool) (o : Option X) (x : X) → cond b o None ≡ Some x → (b ≡ true) × (o ≡ Some x)
tested true o x h = (refl, h)
tested false o x h = absurd cc

-- ---- counts

pub count_field : (word : List ℕ) (least most : ℕ) → most < 2 ^ 64 → IsToken word → IsField (count_line word least most) (λ n. length word + 1 + 21)
count_field word least most small token =
    after_word token (fitting_field (Within least most) (tested_field (λ (n : ℕ). leb least n) (number_field most small))
    (λ n fits. record { least_count = leb-true least n fits.1; most_count = fits.0 }) (λ n fits. (fits.most_count, le-leb least n fits.least_count)))

-- the reader of counts is right
pub count_reads : (word : List ℕ) (least most : ℕ) (line : List ℕ) (count : Option ℕ) → most < 2 ^ 64 → IsToken word → count ≡ count_of_line word least most line → Reads (count_text word) (Within least most) line count
unfolding count_of_line
count_reads word least most line count small token is = field_reads (count_field word least most small token) is

pub count_is_line : (word : List ℕ) (least most n : ℕ) → IsToken word → length word ≤ 100 → most < 2 ^ 64 → Within least most n → IsLine (count_text word n)
count_is_line word least most n token few small within = field_is_line n (count_field word least most small token) (omega (arith, few)) within

-- ---- kinds

pub two_kinds : {X : Type 0} (first second word : List ℕ) (x y z : X) (p q : Bool) (spell : X → List ℕ) → bytes_eq word first ≡ p → bytes_eq word second ≡ q → spell x ≡ first → spell y ≡ second
    → cond p (Some x) (cond q (Some y) None) ≡ Some z → word ≡ spell z
two_kinds first second word x y z true q spell is other a b h = word_is word first is ∙ sym a ∙ ap spell (some_is x z h)
two_kinds first second word x y z false true spell other is a b h = word_is word second is ∙ sym b ∙ ap spell (some_is y z h)
two_kinds first second word x y z false false spell other another a b h = absurd cc

-- a word is this one, or it is read by those that come later
if_word : {X : Type 0} (P : X → Type 0) (wanted word : List ℕ) (x y : X) (later : Option X) (p : Bool) → bytes_eq word wanted ≡ p → (word ≡ wanted → P x) → (later ≡ Some y → P y)
    → cond p (Some x) later ≡ Some y → P y
if_word P wanted word x y later true is here there h = subst P (some_is x y h) (here (word_is word wanted is))
if_word P wanted word x y later false other here there h = there h

no_later : {X : Type 0} (P : X → Type 0) (y : X) → None ≡ Some y → P y
no_later P y h = absurd cc

-- a word says a kind that the version has
abbrev Says : Version → List ℕ → KeyKind → Type 0
Says version word kind = (word ≡ key_kind_word kind) × KindFits version kind

pair_kind_takes : (word : List ℕ) (kind : KeyKind) → pair_kind_of word ≡ Some kind → Says Two word kind
unfolding pair_kind_of
pair_kind_takes word kind h =
    if_word (Says Two word) (codes "num+num") word (keys.Pair parts.Num parts.Num) kind _ _ refl (λ e. (e, refl))
    (if_word (Says Two word) (codes "num+text") word (keys.Pair parts.Num parts.Text) kind _ _ refl (λ e. (e, refl))
    (if_word (Says Two word) (codes "text+num") word (keys.Pair parts.Text parts.Num) kind _ _ refl (λ e. (e, refl))
    (if_word (Says Two word) (codes "text+text") word (keys.Pair parts.Text parts.Text) kind None _ refl (λ e. (e, refl)) (no_later (Says Two word) kind)))) h

newer_kind_takes : (version : Version) (word : List ℕ) (kind : KeyKind) → newer_kind_of version word ≡ Some kind → Says version word kind
unfolding newer_kind_of
newer_kind_takes One word kind h = absurd cc
newer_kind_takes Two word kind h = pair_kind_takes word kind h

key_kind_takes : (version : Version) (word : List ℕ) (kind : KeyKind) → key_kind_of version word ≡ Some kind → Says version word kind
unfolding key_kind_of
key_kind_takes version word kind h =
    if_word (Says version word) (codes "num") word keys.Num kind _ _ refl (λ e. (e, tt))
    (if_word (Says version word) (codes "text") word keys.Text kind _ _ refl (λ e. (e, tt)) (newer_kind_takes version word kind)) h

pair_kind_again : (first second : PartKind) → key_kind_of Two (key_kind_word (keys.Pair first second)) ≡ Some (keys.Pair first second)
unfolding key_kind_of newer_kind_of pair_kind_of
pair_kind_again parts.Num parts.Num = refl
pair_kind_again parts.Num parts.Text = refl
pair_kind_again parts.Text parts.Num = refl
pair_kind_again parts.Text parts.Text = refl

key_kind_again : (version : Version) (kind : KeyKind) → KindFits version kind → key_kind_of version (key_kind_word kind) ≡ Some kind
unfolding key_kind_of
key_kind_again version keys.Num fits = refl
key_kind_again version keys.Text fits = refl
key_kind_again version (keys.Pair first second) fits =
    subst (λ (v : Version). key_kind_of v (key_kind_word (keys.Pair first second)) ≡ Some (keys.Pair first second)) (sym fits) (pair_kind_again first second)

version_takes : (line : List ℕ) (version : Version) → version_of line ≡ Some version → line ≡ version_text version
unfolding version_of
version_takes line version h = two_kinds (codes "occ 1") (codes "occ 2") line One Two version _ _ version_text refl refl refl refl h

version_again : (version : Version) → version_of (version_text version) ≡ Some version
unfolding version_of
version_again One = refl
version_again Two = refl

-- the reader of versions is right
pub version_reads : (line : List ℕ) → Reads version_text (λ version. Unit {0}) line (version_of line)
version_reads line = record {
  found = some_or_none (version_of line) (λ version. (line ≡ version_text version) × Unit {0}) (λ version h. (version_takes line version h, tt));
  again = λ version fits e. ap version_of e ∙ version_again version;
}

-- versions of one line are one version
pub same_version : (a b : Version) → version_text a ≡ version_text b → a ≡ b
same_version a b e = some_is a b (sym (version_again a) ∙ ap version_of e ∙ version_again b)

kind_takes : (word : List ℕ) (kind : Kind) → kind_of word ≡ Some kind → word ≡ kind_word kind
unfolding kind_of
kind_takes word kind h = two_kinds (codes "int") (codes "text") word cells.Int cells.Text kind _ _ kind_word refl refl refl refl h

kind_again : (kind : Kind) → kind_of (kind_word kind) ≡ Some kind
unfolding kind_of
kind_again cells.Int = refl
kind_again cells.Text = refl

kinds_take : (words : List (List ℕ)) (kinds : List Kind) → kinds_of words ≡ Some kinds → words ≡ map kind_word kinds
kinds_take [] kinds h = ap (map kind_word) (some_is [] kinds h)
kinds_take (word ∷ words) kinds h =
    let b = bind_value (kind_of word) (λ kind. option_map (λ more. kind ∷ more) (kinds_of words)) kinds h in
    let m = map_value (kinds_of words) (λ more. b.0 ∷ more) kinds b.2 in
    let first = kind_takes word b.0 b.1 in
    let rest = kinds_take words m.0 m.1 in
    let both_of : word ∷ words ≡ kind_word b.0 ∷ map kind_word m.0 = λ i. first i ∷ rest i in
    both_of ∙ ap (map kind_word) m.2

kinds_again : (kinds : List Kind) → kinds_of (map kind_word kinds) ≡ Some kinds
kinds_again [] = refl
kinds_again (kind ∷ kinds) = rw (kind_again kind, kinds_again kinds) refl

record Columns (words : List (List ℕ)) (kinds : List Kind) : Type 0 where
  spelled : words ≡ map kind_word kinds
  some : 0 < length kinds
  few : length kinds ≤ 8

columns_take : (words : List (List ℕ)) (kinds : List Kind) → columns_of words ≡ Some kinds → Columns words kinds
unfolding columns_of
columns_take words kinds h =
    let b = bind_value (kinds_of words) if_few kinds h in
    let t = tested (ltb 0 (length b.0) && leb (length b.0) 8) (Some b.0) kinds b.2 in
    let p = both (ltb 0 (length b.0)) (leb (length b.0) 8) t.0 in
    subst (Columns words) (some_is b.0 kinds t.1) (record {
      spelled = kinds_take words b.0 b.1;
      some = ltb-true 0 (length b.0) p.0;
      few = leb-true (length b.0) 8 p.1;
    })

columns_again : (kinds : List Kind) → 0 < length kinds → length kinds ≤ 8 → columns_of (map kind_word kinds) ≡ Some kinds
unfolding columns_of
columns_again kinds some few = rw (kinds_again kinds, lt-ltb 0 (length kinds) some, le-leb (length kinds) 8 few) refl

-- ---- tables

record Parts (version : Version) (tokens : List (List ℕ)) (table : Table) : Type 0 where
  spelled : tokens ≡ table_tokens table
  fits : TableHasLine version table

table_parts_take : (version : Version) (word called keyed : List ℕ) (words : List (List ℕ)) (table : Table) → table_of_parts version word called keyed words ≡ Some table → Parts version (word ∷ called ∷ keyed ∷ words) table
unfolding table_of_parts
table_parts_take version word called keyed words table h =
    let t = tested (bytes_eq word (codes "table")) _ table h in
    let n = bind_value (name_of called) _ table t.1 in
    let k = bind_value (key_kind_of version keyed) _ table n.2 in
    let c = bind_value (columns_of words) _ table k.2 in
    let w = word_is word (codes "table") t.0 in
    let name = takes (name_reads called) n.0 n.1 in
    let key = key_kind_takes version keyed k.0 k.1 in
    let columns = columns_take words c.0 c.1 in
    subst (Parts version (word ∷ called ∷ keyed ∷ words)) (some_is (record { name = n.0; key = k.0; columns = c.0 }) table c.2) (record {
      spelled = λ i. w i ∷ name.0 i ∷ key.0 i ∷ columns.spelled i;
      fits = record { fits = record { name = name.1; some = columns.some; few = columns.few }; key = key.1 };
    })

table_tokens_take : (version : Version) (tokens : List (List ℕ)) (table : Table) → table_of_tokens version tokens ≡ Some table → Parts version tokens table
unfolding table_of_tokens
table_tokens_take version [] table h = absurd cc
table_tokens_take version (word ∷ []) table h = absurd cc
table_tokens_take version (word ∷ called ∷ []) table h = absurd cc
table_tokens_take version (word ∷ called ∷ keyed ∷ words) table h = table_parts_take version word called keyed words table h

table_takes : (version : Version) (line : List ℕ) (table : Table) → table_of_line version line ≡ Some table → (line ≡ table_text table) × TableHasLine version table
unfolding table_of_line
table_takes version line table h =
    let t = bind_value (tokens_of line) (table_of_tokens version) table h in
    let r = table_tokens_take version t.0 table t.2 in
    ((tokens_takes line t.0 t.1).0 ∙ ap line_text r.spelled, r.fits)

kind_IsToken : (kind : Kind) → IsToken (kind_word kind)
unfolding is_token
kind_IsToken cells.Int = IsToken-from_test _ refl
kind_IsToken cells.Text = IsToken-from_test _ refl

pair_kind_IsToken : (first second : PartKind) → IsToken (key_kind_word (keys.Pair first second))
unfolding is_token
pair_kind_IsToken parts.Num parts.Num = IsToken-from_test _ refl
pair_kind_IsToken parts.Num parts.Text = IsToken-from_test _ refl
pair_kind_IsToken parts.Text parts.Num = IsToken-from_test _ refl
pair_kind_IsToken parts.Text parts.Text = IsToken-from_test _ refl

key_kind_IsToken : (kind : KeyKind) → IsToken (key_kind_word kind)
unfolding is_token
key_kind_IsToken keys.Num = IsToken-from_test _ refl
key_kind_IsToken keys.Text = IsToken-from_test _ refl
key_kind_IsToken (keys.Pair first second) = pair_kind_IsToken first second

each_kind : (kinds : List Kind) → All IsToken (map kind_word kinds)
each_kind [] = All-nil IsToken
each_kind (kind ∷ kinds) = All-cons IsToken (kind_word kind) (map kind_word kinds) (kind_IsToken kind) (each_kind kinds)

kinds_are_tokens : (kinds : List Kind) → 0 < length kinds → AreTokens (map kind_word kinds)
kinds_are_tokens kinds some = record { some = omega (arith, length-map kinds kind_word); each = each_kind kinds }

table_AreTokens : (table : Table) → TableFits table → AreTokens (table_tokens table)
unfolding is_token
table_AreTokens table fits =
    let kinds = map kind_word table.columns in
    let key = key_kind_word table.key in
    more_tokens (codes "table") (table.name ∷ key ∷ kinds) (IsToken-from_test (codes "table") refl)
    (more_tokens table.name (key ∷ kinds) (IsToken-name table.name fits.name)
    (more_tokens key kinds (key_kind_IsToken table.key) (kinds_are_tokens table.columns fits.some)))

table_again : (version : Version) (table : Table) → TableHasLine version table → table_of_line version (table_text table) ≡ Some table
unfolding table_of_line table_of_tokens table_of_parts
table_again version table line =
    let fits = line.fits in
    ap (option_and_then (table_of_tokens version)) (tokens_again (table_tokens table) (table_AreTokens table fits))
    ∙ rw (name_again table.name fits.name, key_kind_again version table.key line.key, columns_again table.columns fits.some fits.few) refl

-- the reader of tables is right
pub table_reads : (version : Version) (line : List ℕ) → Reads table_text (TableHasLine version) line (table_of_line version line)
table_reads version line = record {
  found = some_or_none (table_of_line version line) (λ table. (line ≡ table_text table) × TableHasLine version table) (λ table h. table_takes version line table h);
  again = λ table fits e. ap (table_of_line version) e ∙ table_again version table fits;
}
