-- What an operation is spelled as is one token, which is read again.
use Rattle.std.proofs.Common.{◌≡◌, ◌≢◌, ℕ, ◌<◌, true, leb, List, [], ◌∷◌, length, Option, Some, FitsSigned, w64, refl, ap, ◌∙◌, arith}
use Rattle.std.specs.Prelude.{ℤ, codes}
use Rattle.std.specs.List.{All, join_with_byte}
use Rattle.std.specs.Char.{is_ascii_graphic, is_ascii_lowercase}
use Rattle.std.specs.Fmt.{signed_decimal}
use Rattle.std.proofs.lemmas.Bool.{leb-true}
use Rattle.std.proofs.lemmas.List.{length-append}
use Rattle.std.proofs.lemmas.List.Elements.{All-nil, All-cons, All-head, All-tail, All-append, All-weaker}
use Rattle.occ_types.specs.Key.{Key}
use Rattle.occ_types.specs.Row.{Row}
use Rattle.occ_types.specs.Row as rows
use Rattle.occ_text.specs.declared.versions.Version.{Version}
use Rattle.occ_types.specs.Spelling.{key_text, row_text}
use Rattle.occ_text.specs.Spelling.{end_text, IsToken, IsName, KeyFits, EndFits, RowFits}
use Rattle.occ_text.specs.Reading.{Reads, is_name}
use Rattle.occ_text.specs.Operations.{Operation, Get, Scan, Put, Delete, Add, operation_parts, operation_text, OperationFits}
use Rattle.occ_text.specs.OperationReading.{operation_of_parts, read_operation}
use Rattle.occ_text.proofs.Numbers.{some_or_none}
use Rattle.occ_text.proofs.Words.{both, split_joined, IsName-from_test}
use Rattle.occ_text.proofs.Values.{Lacks, Separates, plain_differs}
use Rattle.occ_text.proofs.Spelled.{of_key, of_end, of_cell, of_row, IsToken-name, IsToken-key, IsToken-end, IsToken-row, IsToken-int}
use Rattle.occ_text.proofs.OperationsTaken.{operation_takes, parts_again}

-- ---- no colon stands in a part

colon_separates : Separates 58
colon_separates = record {
  plain = λ byte h. plain_differs 58 byte refl h;
  percent = λ e. omega arith;
  quote = λ e. omega arith;
  minus = λ e. omega arith;
  digit = λ n lt e. omega arith;
  letter = λ n le lt e. omega arith;
}

letter_is_no_colon : (byte : ℕ) → is_ascii_lowercase byte ≡ true → byte ≢ 58
letter_is_no_colon byte h e = absurd (omega (arith, leb-true 97 byte (both (leb 97 byte) (leb byte 122) h).0))

-- ---- each part is a token

-- a part is a token in which no colon stands
record Part (part : List ℕ) : Type 0 where
  token : IsToken part
  lacks : Lacks 58 part

part_name : (name : List ℕ) → IsName name → Part name
part_name name fits = record { token = IsToken-name name fits; lacks = All-weaker (λ (byte : ℕ). is_ascii_lowercase byte ≡ true) (λ (byte : ℕ). byte ≢ 58) letter_is_no_colon name fits.letters }

part_word : (word : List ℕ) → is_name word ≡ true → Part word
part_word word h = part_name word (IsName-from_test word h)

part_key : (version : Version) (key : Key) → KeyFits version key → Part (key_text key)
part_key version key fits = record { token = IsToken-key version key fits; lacks = of_key (λ byte. byte ≢ 58) version key colon_separates (λ e. omega arith) fits }

part_end : (version : Version) (end : Option Key) → EndFits version end → Part (end_text end)
part_end version end fits = record { token = IsToken-end version end fits; lacks = of_end (λ byte. byte ≢ 58) version end colon_separates (λ e. omega arith) (λ e. omega arith) fits }

part_row : (row : Row) → RowFits row → Part (row_text row)
part_row row fits = record { token = IsToken-row row fits; lacks = of_row (λ byte. byte ≢ 58) row colon_separates (λ e. omega arith) fits.each }

part_int : (n : ℤ) → FitsSigned w64 n → Part (signed_decimal n)
part_int n fits = record { token = IsToken-int n fits; lacks = of_cell (λ byte. byte ≢ 58) (rows.Int n) colon_separates fits }

three_parts : {a b c : List ℕ} → Part a → Part b → Part c → All Part (a ∷ b ∷ c ∷ [])
three_parts {a = a} {b = b} {c = c} p q r = All-cons Part a (b ∷ c ∷ []) p (All-cons Part b (c ∷ []) q (All-cons Part c [] r (All-nil Part)))

four_parts : {a b c d : List ℕ} → Part a → Part b → Part c → Part d → All Part (a ∷ b ∷ c ∷ d ∷ [])
four_parts {a = a} {b = b} {c = c} {d = d} p q r s = All-cons Part a (b ∷ c ∷ d ∷ []) p (three_parts q r s)

each_part : (version : Version) (operation : Operation) → OperationFits version operation → All Part (operation_parts operation)
unfolding is_name
each_part version (Get table key) fits = three_parts (part_word (codes "get") refl) (part_name table fits.0) (part_key version key fits.1)
each_part version (Scan table lower upper) fits = four_parts (part_word (codes "scan") refl) (part_name table fits.0) (part_end version lower fits.1) (part_end version upper fits.2)
each_part version (Put table key row) fits = four_parts (part_word (codes "put") refl) (part_name table fits.0) (part_key version key fits.1) (part_row row fits.2)
each_part version (Delete table key) fits = three_parts (part_word (codes "delete") refl) (part_name table fits.0) (part_key version key fits.1)
each_part version (Add table key amount) fits = four_parts (part_word (codes "add") refl) (part_name table fits.0) (part_key version key fits.1) (part_int amount fits.2)

parts_some : (operation : Operation) → 0 < length (operation_parts operation)
parts_some (Get table key) = omega arith
parts_some (Scan table lower upper) = omega arith
parts_some (Put table key row) = omega arith
parts_some (Delete table key) = omega arith
parts_some (Add table key amount) = omega arith

-- ---- what is spelled is read

pub operation_again : (version : Version) (operation : Operation) → OperationFits version operation → read_operation version (operation_text operation) ≡ Some operation
unfolding read_operation
operation_again version operation fits =
    ap (operation_of_parts version) (split_joined 58 (operation_parts operation) (parts_some operation) (All-weaker Part (Lacks 58) (λ part p. p.lacks) (operation_parts operation) (each_part version operation fits)))
    ∙ parts_again version operation fits

-- the reader of operations is right
pub operation_reads : (version : Version) (token : List ℕ) → Reads operation_text (OperationFits version) token (read_operation version token)
operation_reads version token = record {
  found = some_or_none (read_operation version token) (λ operation. (token ≡ operation_text operation) × OperationFits version operation) (λ operation h. operation_takes version token operation h);
  again = λ operation fits e. ap (read_operation version) e ∙ operation_again version operation fits;
}

-- ---- an operation is a token

-- tokens with a colon between two of them are one token
joined : (parts : List (List ℕ)) → 0 < length parts → All Part parts → IsToken (join_with_byte 58 parts)
joined [] some each = absurd (omega arith)
joined (a ∷ []) some each = (All-head Part a [] each).token
joined (a ∷ b ∷ more) some each =
    let first = (All-head Part a (b ∷ more) each).token in
    let rest = joined (b ∷ more) (omega arith) (All-tail Part a (b ∷ more) each) in
    record {
      some = omega (arith, first.some, length-append a (58 ∷ join_with_byte 58 (b ∷ more)));
      graphic = All-append (λ byte. is_ascii_graphic byte ≡ true) a (58 ∷ join_with_byte 58 (b ∷ more)) first.graphic
          (All-cons (λ byte. is_ascii_graphic byte ≡ true) 58 (join_with_byte 58 (b ∷ more)) refl rest.graphic);
    }

pub IsToken-operation : (version : Version) (operation : Operation) → OperationFits version operation → IsToken (operation_text operation)
IsToken-operation version operation fits = joined (operation_parts operation) (parts_some operation) (each_part version operation fits)
