-- What a line names under a schema are fields: tables, keys, rows and ranges.
use Rattle.std.proofs.Common.{◌≡◌, ℕ, ◌<◌, Bool, true, false, cond, List, ◌∷◌, length, Option, Some, None, refl, sym, ap, subst, ◌∙◌, arith, []}
use Rattle.occ_reading.proofs.Common.{Fault, FoundFits, IsField, IsToken, IsToken-end, IsToken-from_test, IsToken-key, IsToken-name, IsToken-row, Key, KeyFits, ObjectFits, Reads, Row, RowFits, RowFitsIn, Schema, Span, SpanFits, Tokens, Version, bind_value, both_fields, bytes_eq, bytes_eq-Decides, check_key, check_question, check_row, check_tables, codes, decimal_of, end_reads, end_text, ends_field, fitting_field, found_field, found_in, found_text, int_of, is_decimal, is_token, key_field, key_in, key_reads, key_text, map_value, next-takes, next_ends, next_found, next_key, next_object, next_row, next_table, number_of, object_field, option_and_then, option_map, place_of, read_cell, read_end, read_row, row_field, row_in, row_reads, row_text, some_is, some_or_none, table_field, table_name, takes, token_field, two_tokens, unless_fault, word_is}
use Rattle.occ_text.specs.ValueFields.{next_end}
use Rattle.occ_reading.proofs.TableNames.{checked_place, place_reads, name_there}
use Rattle.occ_reading.proofs.LineLengths.{object_key_width, row_in_width, ends_width}

-- ---- what passes a check

passes : {X : Type 0} (fault : Option Fault) (x y : X) → option_and_then (λ (good : Unit {0}). Some x) (unless_fault fault) ≡ Some y → (fault ≡ None) × (x ≡ y)
passes None x y h = (refl, some_is x y h)
passes (Some f) x y h = absurd cc

checked_reads : {X : Type 0} {spell : X → List ℕ} {fits : X → Type 0} {token : List ℕ} {read : Option X} (check : X → Option Fault) → Reads spell fits token read
    → Reads spell (λ x. fits x × (check x ≡ None)) token (option_and_then (λ x. option_and_then (λ good. Some x) (unless_fault (check x))) read)
checked_reads {X = X} {spell = spell} {fits = fits} {token = token} {read = read} check reads = record {
  found = some_or_none _ (λ (x : X). (token ≡ spell x) × (fits x × (check x ≡ None))) (λ x h.
      let k = bind_value read _ x h in
      let p = passes (check k.0) k.0 x k.2 in
      let t = takes reads k.0 k.1 in
      subst (λ (y : X). (token ≡ spell y) × (fits y × (check y ≡ None))) p.1 (t.0, (t.1, p.0)));
  again = λ x h e.
      ap (option_and_then (λ (y : X). option_and_then (λ good. Some y) (unless_fault (check y)))) (reads.again x h.0 e)
      ∙ ap (λ (f : Option Fault). option_and_then (λ good. Some x) (unless_fault f)) h.1;
}

-- ---- fields of one token

pub table_is_field : (schema : Schema) → check_tables schema ≡ None → IsField (table_field schema) (λ x. 17)
unfolding next_table
table_is_field schema good =
    token_field (table_field schema) (place_of schema) (table_name schema) (λ x. 17) (λ tokens. refl) (λ place. refl) (λ token. place_reads schema token good)
    (λ place there. IsToken-name (table_name schema place) (name_there schema place good there)) (λ place there. let name = name_there schema place good there in omega (arith, name.short))

pub key_is_field : (version : Version) (schema : Schema) (table : ℕ) → IsField (key_field version schema table) (λ x. 388)
unfolding next_key key_in
key_is_field version schema table =
    fitting_field (λ key. ObjectFits version schema (table, key))
    (token_field (record { read = next_key version schema table; spell = λ key. key_text key ∷ []; fits = λ key. KeyFits version key × (check_key schema table key ≡ None); letters = codes "KEY" ∷ [] }) (key_in version schema table) key_text (λ x. 388)
    (λ tokens. refl) (λ key. refl) (λ token. checked_reads (check_key schema table) (key_reads version token)) (λ key fits. IsToken-key version key fits.0)
    (λ key fits. let w = object_key_width version schema table key (record { key = fits.0; checked = fits.1 }) in omega (arith, w)))
    (λ key fits. record { key = fits.0; checked = fits.1 }) (λ key fits. (fits.key, fits.checked))

row_in_reads : (schema : Schema) (table : ℕ) (token : List ℕ) → Reads row_text (λ row. RowFits row × (check_row schema table row ≡ None)) token (row_in schema table token)
unfolding row_in
row_in_reads schema table token = checked_reads (check_row schema table) (row_reads token)

pub row_is_field : (schema : Schema) (table : ℕ) → check_tables schema ≡ None → IsField (row_field schema table) (λ x. 6161)
unfolding next_row
row_is_field schema table good =
    fitting_field (RowFitsIn schema table)
    (token_field (record { read = next_row schema table; spell = λ row. row_text row ∷ []; fits = λ row. RowFits row × (check_row schema table row ≡ None); letters = codes "ROW" ∷ [] }) (row_in schema table) row_text (λ x. 6161)
    (λ tokens. refl) (λ row. refl) (row_in_reads schema table) (λ row fits. IsToken-row row fits.0)
    (λ row fits. let w = row_in_width schema table row good (record { cells = fits.0; checked = fits.1 }) in omega (arith, w)))
    (λ row fits. record { cells = fits.0; checked = fits.1 }) (λ row fits. (fits.cells, fits.checked))

pub object_is_field : (version : Version) (schema : Schema) → check_tables schema ≡ None → IsField (object_field version schema) (λ x. 405)
unfolding next_object
object_is_field version schema good =
    fitting_field (ObjectFits version schema) (both_fields (codes "KEY" ∷ []) (table_is_field schema good) (λ table there. key_is_field version schema table))
    (λ object fits. fits.1) (λ object fits. (checked_place schema object.0 _ fits.checked, fits))

-- no row is spelled as where there is none
row_is_some : (row : Row) → RowFits row → bytes_eq (row_text row) (codes "none") ≡ false
unfolding read_row read_cell int_of number_of decimal_of is_decimal
row_is_some row fits = by (bytes_eq (row_text row) (codes "none")) refl
  where
    by : (b : Bool) → bytes_eq (row_text row) (codes "none") ≡ b → b ≡ false
    by false e = refl
    by true e =
        let none : read_row (codes "none") ≡ None = refl in
        let is : None ≡ Some row = sym none ∙ (row_reads (codes "none")).again row fits (sym ((bytes_eq-Decides (row_text row) (codes "none")).0 e)) in
        absurd cc

found_reads : (schema : Schema) (table : ℕ) (token : List ℕ) → Reads found_text (FoundFits schema table) token (found_in schema table token)
unfolding found_in
found_reads schema table token = record {
  found = some_or_none (found_in schema table token) _ (λ row h. takes_by (bytes_eq token (codes "none")) refl row h);
  again = again_by;
}
  where
    takes_by : (b : Bool) → bytes_eq token (codes "none") ≡ b → (row : Option Row) → cond b (Some None) (option_map (λ (r : Row). Some r) (row_in schema table token)) ≡ Some row → (token ≡ found_text row) × FoundFits schema table row
    takes_by true is row h = subst (λ (r : Option Row). (token ≡ found_text r) × FoundFits schema table r) (some_is None row h) (word_is token (codes "none") is, tt)
    takes_by false is row h =
        let v = map_value (row_in schema table token) (λ (r : Row). Some r) row h in
        let t = takes (row_in_reads schema table token) v.0 v.1 in
        subst (λ (r : Option Row). (token ≡ found_text r) × FoundFits schema table r) v.2 (t.0, record { cells = t.1.0; checked = t.1.1 })

    again_by : (row : Option Row) → FoundFits schema table row → token ≡ found_text row → found_in schema table token ≡ Some row
    again_by None fits e = ap (found_in schema table) e
    again_by (Some row) fits e =
        ap (found_in schema table) e ∙ rw (row_is_some row fits.cells, (row_in_reads schema table (row_text row)).again row (fits.cells, fits.checked) refl) refl

pub found_is_field : (schema : Schema) (table : ℕ) → check_tables schema ≡ None → IsField (found_field schema table) (λ x. 6161)
unfolding next_found is_token
found_is_field schema table good = token_field (found_field schema table) (found_in schema table) found_text (λ x. 6161) (λ tokens. refl) (λ row. refl) (found_reads schema table) token short
  where
    token : (row : Option Row) → FoundFits schema table row → IsToken (found_text row)
    token None fits = IsToken-from_test (codes "none") refl
    token (Some row) fits = IsToken-row row fits.cells

    short : (row : Option Row) → FoundFits schema table row → length (found_text row) < 6161
    short None fits = omega arith
    short (Some row) fits = let w = row_in_width schema table row good fits in omega (arith, w)

-- ---- the ends of a range

pub ends_is_field : (version : Version) (schema : Schema) (table : ℕ) → IsField (ends_field version schema table) (λ x. 776)
unfolding next_ends next_end
ends_is_field version schema table = record {
  takes = λ tokens p h.
      let l = bind_value (next_end version tokens) _ p h in
      let u = bind_value (next_end version l.0.1) _ p l.2 in
      let q = passes (check_question schema (Span table l.0.0 u.0.0)) ((l.0.0, u.0.0), u.0.1) p u.2 in
      let a = next-takes (read_end version) tokens l.0 l.1 in
      let b = next-takes (read_end version) l.0.1 u.0 u.1 in
      let lt = takes (end_reads version a.0) l.0.0 a.1 in
      let ut = takes (end_reads version b.0) u.0.0 b.1 in
      subst (λ (q : (Option Key × Option Key) × Tokens). (tokens ≡ end_text q.0.0 ∷ end_text q.0.1 ∷ q.1) × SpanFits version schema (Span table q.0.0 q.0.1)) q.1
      (a.2 ∙ (λ i. lt.0 i ∷ l.0.1) ∙ ap (λ (w : Tokens). end_text l.0.0 ∷ w) (b.2 ∙ (λ i. ut.0 i ∷ u.0.1)), record { ends = (lt.1, ut.1); checked = q.0 });
  again = λ ends rest fits. rw ((end_reads version (end_text ends.0)).again ends.0 fits.ends.0 refl, (end_reads version (end_text ends.1)).again ends.1 fits.ends.1 refl, fits.checked) refl;
  words = λ ends fits. two_tokens (IsToken-end version ends.0 fits.ends.0) (IsToken-end version ends.1 fits.ends.1);
  short = λ ends fits. let w = ends_width version schema table ends.0 ends.1 fits in omega (arith, w.0, w.1);
}
