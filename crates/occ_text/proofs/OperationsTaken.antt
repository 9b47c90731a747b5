-- The parts of an operation are a field: what is read is spelled so, and what is spelled so is read again.
use Rattle.std.proofs.Common.{◌≡◌, ℕ, ◌+◌, eqb, List, length, Option, Some, refl, sym, ap, ◌∙◌, arith}
use Rattle.std.specs.Prelude.{codes}
use Rattle.std.specs.List.{slice_split, join_with_byte}
use Rattle.std.specs.Fmt.{signed_decimal}
use Rattle.std.proofs.lemmas.List.Splits.{join_with_byte-slice_split}
use Rattle.occ_text.specs.declared.versions.Version.{Version}
use Rattle.occ_types.specs.Spelling.{key_text, row_text}
use Rattle.occ_text.specs.Spelling.{end_text}
use Rattle.occ_text.specs.Reading.{is_token}
use Rattle.occ_text.specs.Operations.{Operation, Get, Scan, Put, Delete, Add, operation_parts, operation_text, OperationFits}
use Rattle.occ_text.specs.OperationReading.{forms, operation_field, operation_of_parts, read_operation}
use Rattle.occ_text.specs.Fields.{Tokens, ◌⊗◌, read_form, readers}
use Rattle.occ_text.specs.ValueFields as fields
use Rattle.occ_text.proofs.Words.{IsToken-from_test}
use Rattle.occ_text.proofs.Fields.{IsField, IsSpelled, width, one_and_other, behind_takes, behind_spelled, words_field, whole_takes, whole_again}
use Rattle.occ_text.proofs.ValueFields.{name_field, key_field, end_field, row_field, int_field}

of_key : (version : Version) → IsField (fields.name ⊗ fields.key version) (λ p. 17 + (length (key_text p.1) + 1))
of_key version = one_and_other name_field (key_field version)

of_ends : (version : Version) → IsField (fields.name ⊗ fields.end version ⊗ fields.end version) (λ p. 17 + ((length (end_text p.1.0) + 1) + (length (end_text p.1.1) + 1)))
of_ends version = one_and_other name_field (one_and_other (end_field version) (end_field version))

of_row : (version : Version) → IsField (fields.name ⊗ fields.key version ⊗ fields.row) (λ p. 17 + ((length (key_text p.1.0) + 1) + (length (row_text p.1.1) + 1)))
of_row version = one_and_other name_field (one_and_other (key_field version) row_field)

of_int : (version : Version) → IsField (fields.name ⊗ fields.key version ⊗ fields.int) (λ p. 17 + ((length (key_text p.1.0) + 1) + (length (signed_decimal p.1.1) + 1)))
of_int version = one_and_other name_field (one_and_other (key_field version) int_field)

itself : {read : Tokens → Option (Operation × Tokens)} {parts : Tokens} {operation : Operation} {most : ℕ} → IsSpelled read parts operation most → IsSpelled read parts operation (width parts)
itself s = record { again = s.again; words = s.words; short = omega arith }

operation_is_field : (version : Version) → IsField (operation_field version) (λ operation. width (operation_parts operation))
unfolding read_form is_token
operation_is_field version =
    words_field (operation_field version) (readers (forms version)) (λ operation. width (operation_parts operation)) (λ parts. refl) (
      behind_takes operation_parts (OperationFits version) (codes "get") (λ p. Get p.0 p.1) (of_key version) (λ p. refl) (λ p f. (f.0, f.1)),
      (
        behind_takes operation_parts (OperationFits version) (codes "put") (λ p. Put p.0 p.1.0 p.1.1) (of_row version) (λ p. refl) (λ p f. (f.0, f.1.0, f.1.1)),
        (
          behind_takes operation_parts (OperationFits version) (codes "scan") (λ p. Scan p.0 p.1.0 p.1.1) (of_ends version) (λ p. refl) (λ p f. (f.0, f.1.0, f.1.1)),
          (
            behind_takes operation_parts (OperationFits version) (codes "delete") (λ p. Delete p.0 p.1) (of_key version) (λ p. refl) (λ p f. (f.0, f.1)),
            (behind_takes operation_parts (OperationFits version) (codes "add") (λ p. Add p.0 p.1.0 p.1.1) (of_int version) (λ p. refl) (λ p f. (f.0, f.1.0, f.1.1)), tt),
          ),
        ),
      ),
    ) spelled
  where
    spelled : (operation : Operation) → OperationFits version operation → IsSpelled (operation_field version).read (operation_parts operation) operation (width (operation_parts operation))
    spelled (Get table key) fits = itself (behind_spelled (λ p. Get p.0 p.1) (table, key) (of_key version) (IsToken-from_test (codes "get") refl) (λ rest. refl) (fits.0, fits.1))
    spelled (Put table key row) fits = itself (behind_spelled (λ p. Put p.0 p.1.0 p.1.1) (table, (key, row)) (of_row version) (IsToken-from_test (codes "put") refl) (λ rest. refl) (fits.0, (fits.1, fits.2)))
    spelled (Scan table lower upper) fits = itself (behind_spelled (λ p. Scan p.0 p.1.0 p.1.1) (table, (lower, upper)) (of_ends version) (IsToken-from_test (codes "scan") refl) (λ rest. refl) (fits.0, (fits.1, fits.2)))
    spelled (Delete table key) fits = itself (behind_spelled (λ p. Delete p.0 p.1) (table, key) (of_key version) (IsToken-from_test (codes "delete") refl) (λ rest. refl) (fits.0, fits.1))
    spelled (Add table key amount) fits = itself (behind_spelled (λ p. Add p.0 p.1.0 p.1.1) (table, (key, amount)) (of_int version) (IsToken-from_test (codes "add") refl) (λ rest. refl) (fits.0, (fits.1, fits.2)))

pub parts_again : (version : Version) (operation : Operation) → OperationFits version operation → operation_of_parts version (operation_parts operation) ≡ Some operation
unfolding operation_of_parts
parts_again version operation fits = whole_again operation (operation_is_field version) fits

pub operation_takes : (version : Version) (token : List ℕ) (operation : Operation) → read_operation version token ≡ Some operation → (token ≡ operation_text operation) × OperationFits version operation
unfolding read_operation operation_of_parts
operation_takes version token operation h =
    let r = whole_takes (slice_split (λ byte. eqb byte 58) token) operation (operation_is_field version) h in
    (sym (join_with_byte-slice_split 58 token) ∙ ap (join_with_byte 58) r.0, r.1)
