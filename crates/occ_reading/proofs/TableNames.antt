-- The name of a table finds its place again.
use Rattle.std.proofs.Common.{◌≡◌, ℕ, zero, suc, ◌+◌, ◌<◌, Bool, true, false, cond, List, ◌∷◌, length, ◌&&◌, ◌||◌, not, Option, Some, None, refl, sym, ap, subst, ◌∙◌, arith, []}
use Rattle.occ_reading.proofs.Common.{All, All-head, All-tail, Fault, IsName, IsSchema-from_check, NoTable, Reads, Schema, Table, TableFits, are_tables, bind_value, bytes_eq-Decides, check_tables, each_fits, in_table, is_name, list_any, lt-ltb, name_again, name_of, name_reads, nat_eq, nat_le, nat_lt, option_and_then, place_of, pointwise, position, position_or_len, slice_get, some_is, some_or_none, table_name, takes}
use Rattle.std.proofs.lemmas.Option.{slice_get_within, slice_get-get_or}
use Rattle.std.proofs.lemmas.List.Quantifiers.{position-Some}
use Rattle.occ_types.specs.Schema.{has_name}
use Rattle.occ_text.proofs.SchemaLines.{first_table, neither}

pub no_fault : (schema : Schema) (place : ℕ) (check : Table → Option Fault) → in_table schema place check ≡ None → (table : Table) × (slice_get schema place ≡ Some table) × (check table ≡ None)
no_fault schema place check h = by (slice_get schema place) refl h
  where
    by : (o : Option Table) → slice_get schema place ≡ o → (elim o as (λ _. Option Fault) [ None ↦ Some NoTable | Some table ↦ check table ]) ≡ None → (table : Table) × (slice_get schema place ≡ Some table) × (check table ≡ None)
    by None e f = absurd cc
    by (Some table) e f = (table, e, f)

-- a test that no element passes fails at each place
misses : {X : Type 0} (test : X → Bool) (xs : List X) (place : ℕ) (x : X) → list_any test xs ≡ false → slice_get xs place ≡ Some x → test x ≡ false
misses test [] place x h e = absurd cc
misses test (y ∷ ys) zero x h e = ap test (sym (some_is y x e)) ∙ (neither (test y) (list_any test ys) h).0
misses test (y ∷ ys) (suc k) x h e = misses test ys k x (neither (test y) (list_any test ys) h).1 e

first_named : (tables : List Table) (place : ℕ) (table : Table) → are_tables tables ≡ true → slice_get tables place ≡ Some table → position_or_len (has_name table.name) tables ≡ place
first_named [] place table h e = absurd cc
first_named (first ∷ tables) zero table h e =
    let passes : has_name table.name first ≡ true = (bytes_eq-Decides first.name table.name).1 (ap (λ (t : Table). t.name) (some_is first table e)) in
    rw passes refl
first_named (first ∷ tables) (suc k) table h e =
    let s = first_table first tables h in
    let other : has_name table.name first ≡ false = misses (λ other. pointwise nat_eq first.name other.name) tables k table s.own e in
    ap (λ b. cond (not b) (1 + position_or_len (has_name table.name) tables) 0) other ∙ let n = first_named tables k table s.rest e in omega arith

pub fits_there : (tables : List Table) (place : ℕ) (table : Table) → All TableFits tables → slice_get tables place ≡ Some table → TableFits table
fits_there [] place table h e = absurd cc
fits_there (first ∷ tables) zero table h e = subst TableFits (some_is first table e) (All-head TableFits first tables h)
fits_there (first ∷ tables) (suc k) table h e = fits_there tables k table (All-tail TableFits first tables h) e

-- the name of a table finds its place
record IsNamed (schema : Schema) (place : ℕ) : Type 0 where
  name : IsName (table_name schema place)
  found : place_of schema (table_name schema place) ≡ Some place

named_table : (schema : Schema) (place : ℕ) (table : Table) → check_tables schema ≡ None → slice_get schema place ≡ Some table → IsNamed schema place
unfolding place_of
named_table schema place table h e =
    let good = (IsSchema-from_check schema h).each in
    let name : table_name schema place ≡ table.name = ap (λ (o : Option Table). elim o [ None ↦ [] | Some t ↦ t.name ]) e in
    let fits = (fits_there schema place table (each_fits schema good) e).name in
    let at = first_named schema place table good e in
    let within = lt-ltb place (length schema) (slice_get_within schema place table e) in
    record {
      name = subst IsName (sym name) fits;
      found = ap (λ n. option_and_then (λ name. position (has_name name) schema) (name_of n)) name
          ∙ ap (option_and_then (λ name. position (has_name name) schema)) (name_again table.name fits)
          ∙ ap (λ n. cond (nat_lt n (length schema)) (Some n) None) at
          ∙ ap (λ b. cond b (Some place) None) within;
    }

-- what a check passes stands in a schema
pub checked_place : (schema : Schema) (place : ℕ) (check : Table → Option Fault) → in_table schema place check ≡ None → place < length schema
checked_place schema place check c = let t = no_fault schema place check c in slice_get_within schema place t.0 t.1

-- ---- the place of a name

record IsPlace (schema : Schema) (name : List ℕ) (place : ℕ) : Type 0 where
  named : name ≡ table_name schema place
  there : place < length schema

placed : (schema : Schema) (name : List ℕ) (place : ℕ) → position (has_name name) schema ≡ Some place → IsPlace schema name place
placed [] name place h = absurd cc
placed (table ∷ schema) name place h =
    let at = position-Some (has_name name) (table ∷ schema) place table h in
    let there = slice_get-get_or (table ∷ schema) place table at.0 in
    record { named = sym (ap (λ (o : Option Table). elim o [ None ↦ [] | Some t ↦ t.name ]) there ∙ (bytes_eq-Decides _ name).0 at.1); there = at.0 }

named_there : (schema : Schema) (place : ℕ) → check_tables schema ≡ None → place < length schema → IsNamed schema place
named_there [] place good there = absurd (omega (arith, there))
named_there (table ∷ schema) place good there = named_table (table ∷ schema) place _ good (slice_get-get_or (table ∷ schema) place table there)

pub place_reads : (schema : Schema) (token : List ℕ) → check_tables schema ≡ None → Reads (table_name schema) (λ place. place < length schema) token (place_of schema token)
unfolding place_of
place_reads schema token good = record {
  found = some_or_none (place_of schema token) _ (λ place h.
      let n = bind_value (name_of token) (λ name. position (has_name name) schema) place h in
      let p = placed schema n.0 place n.2 in
      ((takes (name_reads token) n.0 n.1).0 ∙ p.named, p.there));
  again = λ place there e. ap (place_of schema) e ∙ (named_there schema place good there).found;
}

absent : (schema : Schema) (token : List ℕ) (place : Option ℕ) → check_tables schema ≡ None → name_of token ≡ None → position (has_name token) schema ≡ place → place ≡ None
absent schema token None good none is = refl
absent schema token (Some place) good none is =
    let p = placed schema token place is in
    let name : name_of token ≡ Some token = name_again token (subst IsName (sym p.named) (named_there schema place good p.there).name) in
    absurd cc

-- the first table of which some bytes are the name is the one that they name: as the name of a table they are a name
pub place_any : (schema : Schema) (token : List ℕ) → check_tables schema ≡ None → position (has_name token) schema ≡ place_of schema token
unfolding place_of
place_any schema token good = by (name_of token) refl
  where
    by : (name : Option (List ℕ)) → name_of token ≡ name → position (has_name token) schema ≡ option_and_then (λ name. position (has_name name) schema) name
    by (Some name) is = ap (λ (n : List ℕ). position (has_name n) schema) (takes (name_reads token) name is).0
    by None is = absent schema token (position (has_name token) schema) good is refl

pub name_there : (schema : Schema) (place : ℕ) → check_tables schema ≡ None → place < length schema → IsName (table_name schema place)
name_there schema place good there = (named_there schema place good there).name
