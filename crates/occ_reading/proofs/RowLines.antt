-- The lines of keys and rows are fields: what is read is spelled so, what is spelled so is read again, and they are lines.
use Rattle.std.proofs.Common.{◌≡◌, ℕ, ◌+◌, ◌≤◌, List, ◌∷◌, ◌++◌, length, Option, Some, None, refl, sym, ap, subst, ◌∙◌, arith, append_assoc, []}
use Rattle.occ_reading.proofs.Common.{Asked, AskedFits, AskedOne, AskedSpan, AtFits, IsField, IsLine, IsToken, IsToken-from_test, One, PairFits, Reads, Schema, Section, Span, Version, Write, WriteFits, after_word, asked_line, asked_of_line, asked_text, asked_tokens, at_field, at_of_line, behind_spelled, behind_takes, both, both_fields, check_tables, codes, decimal, end_text, ends_field, entry_line, entry_word, field_is_line, field_reads, found_field, found_text, is_token, key_text, line_text, next_asked, next_write, object_field, one_and_other, pair_field, pair_line, pair_of_line, row_field, some_or_none, table_field, table_name, takes, within, words_field, write_field, write_line, write_of_line, write_tokens, ◌⊗◌}
use Rattle.occ_text.specs.Fields.{read_form, readers}
use Rattle.occ_text.proofs.Fields.{IsSpelled}
use Rattle.occ_reading.specs.RowLines.{one_form, span_form, asked_forms, write_forms, row_at}
use Rattle.occ_print.specs.declared.sections.Section.TheVariants as sections
use Rattle.occ_reading.proofs.TableNames.{checked_place}
use Rattle.occ_reading.proofs.NumberLines.{number_as_field}
use Rattle.occ_reading.proofs.SchemaFields.{table_is_field, key_is_field, object_is_field, row_is_field, found_is_field, ends_is_field}

-- ---- reads

pub asked_is_field : (version : Version) (schema : Schema) → check_tables schema ≡ None → IsField (asked_line version schema) (λ asked. 6600)
unfolding next_asked read_form is_token
asked_is_field version schema good =
    words_field (asked_line version schema) (readers (asked_forms version schema)) (λ y. 6600) (λ tokens. refl) (
      behind_takes (asked_tokens schema) (AskedFits version schema) (codes "one") (λ p. AskedOne p.0 p.1) one (λ p. refl) (λ p fits. (fits.0, fits.1)),
      (behind_takes (asked_tokens schema) (AskedFits version schema) (codes "span") (λ p. AskedSpan (Span p.0 p.1.0.0 p.1.0.1) p.1.1) span (λ p. refl) (λ p fits. (fits.1.0, fits.1.1)), tt),
    ) spelled
  where
    one : IsField (one_form version schema).behind (λ p. 6566)
    one = both_fields _ (object_is_field version schema good) (λ object fits. found_is_field schema object.0 good)

    span : IsField (span_form version schema).behind (λ p. 814)
    span = both_fields _ (table_is_field schema good) (λ table there. one_and_other (ends_is_field version schema table) (number_as_field (codes "K")))

    spelled : (asked : Asked) → AskedFits version schema asked → IsSpelled (next_asked version schema) (asked_tokens schema asked) asked 6600
    spelled (AskedOne object row) fits = within (behind_spelled (λ p. AskedOne p.0 p.1) (object, row) one (IsToken-from_test _ refl) (λ rest. refl) (fits.0, fits.1)) (omega arith)
    spelled (AskedSpan (One table key) count) fits = absurd fits.0.ends
    spelled (AskedSpan (Span table lower upper) count) fits =
        within (behind_spelled (λ p. AskedSpan (Span p.0 p.1.0.0 p.1.0.1) p.1.1) (table, ((lower, upper), count)) span (IsToken-from_test _ refl) (λ rest. refl)
        (checked_place schema table _ fits.0.checked, (fits.0, fits.1))) (omega arith)

asked_spelling : (version : Version) (schema : Schema) (asked : Asked) → AskedFits version schema asked → line_text (asked_tokens schema asked) ≡ asked_text schema asked
asked_spelling version schema (AskedOne object row) fits =
    let n = table_name schema object.0 in
    let k = key_text object.1 in
    let r = found_text row in
    sym (append_assoc (codes "one") (32 ∷ (n ++ 32 ∷ k)) (32 ∷ r) ∙ ap (λ (l : List ℕ). codes "one" ++ 32 ∷ l) (append_assoc n (32 ∷ k) (32 ∷ r)))
asked_spelling version schema (AskedSpan (One table key) count) fits = absurd fits.0.ends
asked_spelling version schema (AskedSpan (Span table lower upper) count) fits =
    let n = table_name schema table in
    let l = end_text lower in
    let u = end_text upper in
    let c = decimal count in
    sym (append_assoc (codes "span") (32 ∷ (n ++ 32 ∷ (l ++ 32 ∷ u))) (32 ∷ c)
    ∙ ap (λ (x : List ℕ). codes "span" ++ 32 ∷ x) (append_assoc n (32 ∷ (l ++ 32 ∷ u)) (32 ∷ c) ∙ ap (λ (x : List ℕ). n ++ 32 ∷ x) (append_assoc l (32 ∷ u) (32 ∷ c))))

respelled : {X : Type 0} {a b : X → List ℕ} {fits : X → Type 0} {line : List ℕ} {read : Option X} → ((x : X) → fits x → a x ≡ b x) → Reads a fits line read → Reads b fits line read
respelled {b = b} {fits = fits} {line = line} {read = read} same reads = record {
  found = some_or_none read (λ x. (line ≡ b x) × fits x) (λ x h. let t = takes reads x h in (t.0 ∙ same x t.1, t.1));
  again = λ x fits e. reads.again x fits (e ∙ sym (same x fits));
}

pub asked_reads : (version : Version) (schema : Schema) (line : List ℕ) → check_tables schema ≡ None → Reads (asked_text schema) (AskedFits version schema) line (asked_of_line version schema line)
unfolding asked_of_line
asked_reads version schema line good = respelled (asked_spelling version schema) (field_reads (asked_is_field version schema good) refl)

pub asked_is_line : (version : Version) (schema : Schema) (asked : Asked) → check_tables schema ≡ None → AskedFits version schema asked → IsLine (asked_text schema asked)
asked_is_line version schema asked good fits = subst IsLine (asked_spelling version schema asked fits) (field_is_line asked (asked_is_field version schema good) (omega arith) fits)

-- ---- rows that a range answered

pub pair_is_field : (version : Version) (schema : Schema) (table : ℕ) → check_tables schema ≡ None → IsField (pair_field version schema table) (λ pair. 6554)
unfolding is_token
pair_is_field version schema table good = after_word (IsToken-from_test (codes "pair") refl) (one_and_other (key_is_field version schema table) (row_is_field schema table good))

pub pair_reads : (version : Version) (schema : Schema) (table : ℕ) (line : List ℕ) → check_tables schema ≡ None → Reads pair_line (PairFits version schema table) line (pair_of_line version schema table line)
unfolding pair_of_line
pair_reads version schema table line good = field_reads (pair_is_field version schema table good) refl

-- ---- writes

pub write_is_field : (version : Version) (schema : Schema) → check_tables schema ≡ None → IsField (write_field version schema) (λ write. 6600)
unfolding next_write read_form is_token
write_is_field version schema good =
    words_field (write_field version schema) (readers (write_forms version schema)) (λ y. 6600) (λ tokens. refl) (
      behind_takes (write_tokens schema) (WriteFits version schema) (codes "put") (λ p. (p.0, Some p.1)) put (λ p. refl) (λ p fits. (fits.0, fits.1)),
      (behind_takes (write_tokens schema) (WriteFits version schema) (codes "del") (λ object. (object, None)) (object_is_field version schema good) (λ object. refl) (λ object fits. (fits, tt)), tt),
    ) spelled
  where
    put : IsField (row_at version schema) (λ p. 6566)
    put = both_fields _ (object_is_field version schema good) (λ object fits. row_is_field schema object.0 good)

    spelled : (write : Write) → WriteFits version schema write → IsSpelled (next_write version schema) (write_tokens schema write) write 6600
    spelled (object, Some row) fits = within (behind_spelled (λ p. (p.0, Some p.1)) (object, row) put (IsToken-from_test _ refl) (λ rest. refl) (fits.0, fits.1)) (omega arith)
    spelled (object, None) fits = within (behind_spelled (λ object. (object, None)) object (object_is_field version schema good) (IsToken-from_test _ refl) (λ rest. refl) fits.0) (omega arith)

write_spelling : (schema : Schema) (write : Write) → line_text (write_tokens schema write) ≡ write_line schema write
write_spelling schema (object, None) = refl
write_spelling schema (object, Some row) = refl

pub write_reads : (version : Version) (schema : Schema) (line : List ℕ) → check_tables schema ≡ None → Reads (write_line schema) (WriteFits version schema) line (write_of_line version schema line)
unfolding write_of_line
write_reads version schema line good = respelled (λ write fits. write_spelling schema write) (field_reads (write_is_field version schema good) refl)

pub write_line-again : (version : Version) (schema : Schema) (write : Write) → check_tables schema ≡ None → WriteFits version schema write → write_of_line version schema (write_line schema write) ≡ Some write
write_line-again version schema write good fits = (write_reads version schema (write_line schema write) good).again write fits refl

pub write_is_line : (version : Version) (schema : Schema) (write : Write) → check_tables schema ≡ None → WriteFits version schema write → IsLine (write_line schema write)
write_is_line version schema write good fits = subst IsLine (write_spelling schema write) (field_is_line write (write_is_field version schema good) (omega arith) fits)

-- ---- rows of the state

entry_word-IsToken : (section : Section) → IsToken (entry_word section)
unfolding is_token
entry_word-IsToken sections.Base = IsToken-from_test (codes "from") refl
entry_word-IsToken sections.Store = IsToken-from_test (codes "at") refl

pub entry_word_width : (section : Section) → length (entry_word section) ≤ 10
entry_word_width sections.Base = omega arith
entry_word_width sections.Store = omega arith

pub at_is_field : (version : Version) (section : Section) (schema : Schema) → check_tables schema ≡ None → IsField (at_field version section schema) (λ entry. length (entry_word section) + 1 + 6566)
at_is_field version section schema good =
    after_word (entry_word-IsToken section) (both_fields _ (object_is_field version schema good) (λ object fits. row_is_field schema object.0 good))

pub at_reads : (version : Version) (section : Section) (schema : Schema) (line : List ℕ) → check_tables schema ≡ None → Reads (entry_line section schema) (AtFits version schema) line (at_of_line version section schema line)
unfolding at_of_line
at_reads version section schema line good = field_reads (at_is_field version section schema good) refl
