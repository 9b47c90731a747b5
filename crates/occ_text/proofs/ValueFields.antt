-- Names, keys, rows and numbers with a sign are fields.
use Rattle.std.proofs.Common.{◌+◌, length, refl, arith}
use Rattle.std.specs.Fmt.{signed_decimal}
use Rattle.occ_text.specs.declared.versions.Version.{Version}
use Rattle.occ_types.specs.Spelling.{key_text, row_text}
use Rattle.occ_text.specs.Spelling.{end_text}
use Rattle.occ_text.specs.Reading.{name_of, int_of}
use Rattle.occ_text.specs.Escapes.{read_key, read_end, read_row}
use Rattle.occ_text.specs.ValueFields as fields
use Rattle.occ_text.specs.ValueFields.{next_name, next_key, next_end, next_row, next_int}
use Rattle.occ_text.proofs.Numbers.{int_reads}
use Rattle.occ_text.proofs.Words.{name_reads}
use Rattle.occ_text.proofs.Values.{key_reads, end_reads, row_reads}
use Rattle.occ_text.proofs.Spelled.{IsToken-name, IsToken-key, IsToken-end, IsToken-row, IsToken-int}
use Rattle.occ_text.proofs.Fields.{IsField, token_field}

pub name_field : IsField fields.name (λ n. 17)
unfolding next_name
name_field = token_field fields.name name_of (λ n. n) (λ n. 17) (λ tokens. refl) (λ n. refl) name_reads IsToken-name (λ n fits. omega (arith, fits.short))

pub key_field : (version : Version) → IsField (fields.key version) (λ k. length (key_text k) + 1)
unfolding next_key
key_field version = token_field (fields.key version) (read_key version) key_text (λ k. length (key_text k) + 1) (λ tokens. refl) (λ k. refl) (key_reads version) (IsToken-key version) (λ k fits. omega arith)

pub end_field : (version : Version) → IsField (fields.end version) (λ e. length (end_text e) + 1)
unfolding next_end
end_field version = token_field (fields.end version) (read_end version) end_text (λ e. length (end_text e) + 1) (λ tokens. refl) (λ e. refl) (end_reads version) (IsToken-end version) (λ e fits. omega arith)

pub row_field : IsField fields.row (λ r. length (row_text r) + 1)
unfolding next_row
row_field = token_field fields.row read_row row_text (λ r. length (row_text r) + 1) (λ tokens. refl) (λ r. refl) row_reads IsToken-row (λ r fits. omega arith)

pub int_field : IsField fields.int (λ n. length (signed_decimal n) + 1)
unfolding next_int
int_field = token_field fields.int int_of signed_decimal (λ n. length (signed_decimal n) + 1) (λ tokens. refl) (λ n. refl) int_reads IsToken-int (λ n fits. omega arith)
