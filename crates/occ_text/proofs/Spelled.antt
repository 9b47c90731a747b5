-- The bytes that stand in the spelling of a decimal, a key or a cell.
use Rattle.std.proofs.Common.{◌≡◌, ℕ, suc, pos, negsuc, ◌+◌, ◌-◌, ◌^◌, ◌<◌, ◌≤◌, Bool, true, false, leb, ◌/◌, ◌%◌, List, [], ◌∷◌, length, Option, Some, None, FitsSigned, w64, refl, sym, subst, inl, inr, arith}
use Rattle.std.specs.List.{All}
use Rattle.std.specs.Prelude.{ℤ}
use Rattle.std.specs.Fmt.{decimal, signed_decimal}
use Rattle.std.specs.Char.{is_ascii_digit, is_ascii_graphic, is_ascii_lowercase}
use Rattle.std.proofs.lemmas.Bool.{leb-true, cases_lt}
use Rattle.std.proofs.lemmas.Bool.Decides.{nat_tests}
use Rattle.std.proofs.lemmas.List.{length-append}
use Rattle.std.proofs.lemmas.List.Elements.{All-nil, All-cons, All-head, All-tail, All-append, All-weaker}
use Rattle.std.proofs.lemmas.List.Sums.{AllPass-from_list_all}
use Rattle.std.proofs.lemmas.Fmt.{decimal_nonempty}
use Rattle.std.proofs.lemmas.Int.{ints}
use Rattle.occ_types.specs.Key.{Key}
use Rattle.occ_types.specs.Key as keys
use Rattle.occ_types.specs.KeyPart.{KeyPart}
use Rattle.occ_types.specs.KeyPart as parts
use Rattle.occ_types.specs.Row.{Cell, Row}
use Rattle.occ_types.specs.Row as rows
use Rattle.occ_text.specs.declared.versions.Version.{Version}
use Rattle.occ_types.specs.Spelling.{is_plain, hex_digit, escaped_byte, escaped, part_text, key_text, cell_text, row_text}
use Rattle.occ_text.specs.Spelling.{end_text, IsToken, IsName, PartFits, KeyFits, EndFits, CellFits, RowFits}
use Rattle.occ_text.proofs.Numbers.{decimal_digits}
use Rattle.occ_text.proofs.Escapes.{low_digit, high_digit, plain_spelling, escape_spelling}
use Rattle.occ_text.proofs.Words.{both}

-- what holds of each byte that may stand in a spelling
pub record OfSpellings (P : ℕ → Type 0) : Type 0 where
  pub plain : (byte : ℕ) → is_plain byte ≡ true → P byte
  pub percent : P 37
  pub quote : P 39
  pub minus : P 45
  pub digit : (n : ℕ) → n < 10 → P (48 + n)
  pub letter : (n : ℕ) → 10 ≤ n → n < 16 → P (87 + n)

of_hex : (P : ℕ → Type 0) (n : ℕ) → OfSpellings P → n < 16 → P (hex_digit n)
of_hex P n s lt = elim (cases_lt n 10) [
  | inl low ↦ subst P (sym (low_digit n low)) (s.digit n low)
  | inr high ↦ subst P (sym (high_digit n high)) (s.letter n high lt)
]

of_byte : (b : Bool) (P : ℕ → Type 0) (byte : ℕ) → is_plain byte ≡ b → OfSpellings P → byte < 256 → All P (escaped_byte byte)
of_byte true P byte h s small = subst (All P) (sym (plain_spelling byte h)) (All-cons P byte [] (s.plain byte h) (All-nil P))
of_byte false P byte h s small =
    subst (All P) (sym (escape_spelling byte h)) (All-cons P 37 (hex_digit (byte / 16) ∷ hex_digit (byte % 16) ∷ []) s.percent
    (All-cons P (hex_digit (byte / 16)) (hex_digit (byte % 16) ∷ []) (of_hex P (byte / 16) s (omega arith))
    (All-cons P (hex_digit (byte % 16)) [] (of_hex P (byte % 16) s (omega arith)) (All-nil P))))

of_escaped : (P : ℕ → Type 0) (bytes : List ℕ) → OfSpellings P → All (λ byte. byte < 256) bytes → All P (escaped bytes)
of_escaped P [] s small = All-nil P
of_escaped P (byte ∷ bytes) s small =
    All-append P (escaped_byte byte) (escaped bytes) (of_byte (is_plain byte) P byte refl s (All-head (λ b. b < 256) byte bytes small))
    (of_escaped P bytes s (All-tail (λ b. b < 256) byte bytes small))

of_digit : (P : ℕ → Type 0) (byte : ℕ) → OfSpellings P → is_ascii_digit byte ≡ true → P byte
of_digit P byte s h =
    let t = both (leb 48 byte) (leb byte 57) h in
    let lo : 48 ≤ byte = leb-true 48 byte t.0 in
    let hi : byte ≤ 57 = leb-true byte 57 t.1 in
    let whole : 48 + (byte - 48) ≡ byte = omega arith in
    subst P whole (s.digit (byte - 48) (omega arith))

pub of_decimal : (P : ℕ → Type 0) (n : ℕ) → OfSpellings P → n < 2 ^ 64 → All P (decimal n)
of_decimal P n s small =
    All-weaker (λ byte. is_ascii_digit byte ≡ true) P (λ byte h. of_digit P byte s h) (decimal n) (AllPass-from_list_all is_ascii_digit (decimal n) (decimal_digits n small))

-- an int has at most 64 bits
pub pos_small : (n : ℕ) → FitsSigned w64 (pos n) → n < 2 ^ 64
pos_small n fits = omega (arith, ints)

pub negsuc_small : (n : ℕ) → FitsSigned w64 (negsuc n) → suc n < 2 ^ 64
negsuc_small n fits = omega (arith, ints)

pub of_cell : (P : ℕ → Type 0) (cell : Cell) → OfSpellings P → CellFits cell → All P (cell_text cell)
of_cell P (rows.Int (pos n)) s fits = of_decimal P n s (pos_small n fits)
of_cell P (rows.Int (negsuc n)) s fits = All-cons P 45 (decimal (suc n)) s.minus (of_decimal P (suc n) s (negsuc_small n fits))
of_cell P (rows.Text bytes) s fits = All-cons P 39 (escaped bytes) s.quote (of_escaped P bytes s fits.small)

pub of_part : (P : ℕ → Type 0) (part : KeyPart) → OfSpellings P → PartFits part → All P (part_text part)
of_part P (parts.Num n) s fits = of_decimal P n s fits
of_part P (parts.Text bytes) s fits = All-cons P 39 (escaped bytes) s.quote (of_escaped P bytes s fits.small)

pub of_key : (P : ℕ → Type 0) (version : Version) (key : Key) → OfSpellings P → P 43 → KeyFits version key → All P (key_text key)
of_key P version (keys.Num n) s plus fits = of_part P (parts.Num n) s fits
of_key P version (keys.Text bytes) s plus fits = of_part P (parts.Text bytes) s fits
of_key P version (keys.Pair a b) s plus fits =
    All-append P (part_text a) (43 ∷ part_text b) (of_part P a s fits.1) (All-cons P 43 (part_text b) plus (of_part P b s fits.2))

pub of_end : (P : ℕ → Type 0) (version : Version) (end : Option Key) → OfSpellings P → P 42 → P 43 → EndFits version end → All P (end_text end)
of_end P version None s star plus fits = All-cons P 42 [] star (All-nil P)
of_end P version (Some key) s star plus fits = of_key P version key s plus fits

pub of_row : (P : ℕ → Type 0) (cells : Row) → OfSpellings P → P 44 → All CellFits cells → All P (row_text cells)
of_row P [] s comma each = All-nil P
of_row P (a ∷ []) s comma each = of_cell P a s (All-head CellFits a [] each)
of_row P (a ∷ b ∷ cells) s comma each =
    All-append P (cell_text a) (44 ∷ row_text (b ∷ cells)) (of_cell P a s (All-head CellFits a (b ∷ cells) each))
    (All-cons P 44 (row_text (b ∷ cells)) comma (of_row P (b ∷ cells) s comma (All-tail CellFits a (b ∷ cells) each)))

-- ---- what is spelled is a token

abbrev Graphic : ℕ → Type 0
Graphic byte = is_ascii_graphic byte ≡ true

plain_is_graphic : (byte : ℕ) → is_plain byte ≡ true → Graphic byte
plain_is_graphic byte h = grind (arith, nat_tests)

digit_is_graphic : (n : ℕ) → n < 10 → Graphic (48 + n)
digit_is_graphic n lt = grind (arith, nat_tests)

hex_letter_is_graphic : (n : ℕ) → 10 ≤ n → n < 16 → Graphic (87 + n)
hex_letter_is_graphic n le lt = grind (arith, nat_tests)

letter_is_graphic : (byte : ℕ) → is_ascii_lowercase byte ≡ true → Graphic byte
letter_is_graphic byte h = grind (arith, nat_tests)

graphic : OfSpellings Graphic
graphic = record {
  plain = plain_is_graphic;
  percent = refl;
  quote = refl;
  minus = refl;
  digit = digit_is_graphic;
  letter = hex_letter_is_graphic;
}

pub IsToken-decimal : (n : ℕ) → n < 2 ^ 64 → IsToken (decimal n)
IsToken-decimal n small = record { some = decimal_nonempty n small; graphic = of_decimal Graphic n graphic small }

pub IsToken-name : (name : List ℕ) → IsName name → IsToken name
IsToken-name name fits = record { some = fits.some; graphic = All-weaker (λ byte. is_ascii_lowercase byte ≡ true) Graphic letter_is_graphic name fits.letters }

part_some : (part : KeyPart) → PartFits part → 0 < length (part_text part)
part_some (parts.Num n) fits = decimal_nonempty n fits
part_some (parts.Text bytes) fits = omega arith

key_some : (version : Version) (key : Key) → KeyFits version key → 0 < length (key_text key)
key_some version (keys.Num n) fits = part_some (parts.Num n) fits
key_some version (keys.Text bytes) fits = part_some (parts.Text bytes) fits
key_some version (keys.Pair a b) fits = omega (arith, length-append (part_text a) (43 ∷ part_text b))

pub IsToken-key : (version : Version) (key : Key) → KeyFits version key → IsToken (key_text key)
IsToken-key version key fits = record { some = key_some version key fits; graphic = of_key Graphic version key graphic refl fits }

end_some : (version : Version) (end : Option Key) → EndFits version end → 0 < length (end_text end)
end_some version None fits = omega arith
end_some version (Some key) fits = key_some version key fits

pub IsToken-end : (version : Version) (end : Option Key) → EndFits version end → IsToken (end_text end)
IsToken-end version end fits = record { some = end_some version end fits; graphic = of_end Graphic version end graphic refl refl fits }

cell_some : (cell : Cell) → CellFits cell → 0 < length (cell_text cell)
cell_some (rows.Int (pos n)) fits = decimal_nonempty n (pos_small n fits)
cell_some (rows.Int (negsuc n)) fits = omega arith
cell_some (rows.Text bytes) fits = omega arith

row_some : (cells : Row) → RowFits cells → 0 < length (row_text cells)
row_some [] fits = absurd (omega (arith, fits.some))
row_some (a ∷ []) fits = cell_some a (All-head CellFits a [] fits.each)
row_some (a ∷ b ∷ cells) fits =
    let some = cell_some a (All-head CellFits a (b ∷ cells) fits.each) in
    omega (arith, length-append (cell_text a) (44 ∷ row_text (b ∷ cells)))

pub IsToken-row : (cells : Row) → RowFits cells → IsToken (row_text cells)
IsToken-row cells fits = record { some = row_some cells fits; graphic = of_row Graphic cells graphic refl fits.each }

pub IsToken-int : (z : ℤ) → FitsSigned w64 z → IsToken (signed_decimal z)
IsToken-int z fits = record { some = cell_some (rows.Int z) fits; graphic = of_cell Graphic (rows.Int z) graphic fits }
