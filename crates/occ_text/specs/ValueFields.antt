-- Names, keys, rows and numbers with a sign are fields of one token.
use Rattle.std.specs.Prelude.{ℤ, ℕ, Bool, false, List, [], ◌∷◌, Option, FitsSigned, codes, option_and_then}
use Rattle.std.specs.Int.{w64}
use Rattle.std.specs.Option.{option_map_or}
use Rattle.std.specs.Fmt.{signed_decimal}
use Rattle.occ_types.specs.Key.{Key}
use Rattle.occ_types.specs.Row.{Row}
use Rattle.occ_text.specs.declared.versions.Version.{Version}
use Rattle.occ_types.specs.Spelling.{key_text, row_text}
use Rattle.occ_text.specs.Spelling.{end_text, IsName, KeyFits, EndFits, RowFits}
use Rattle.occ_text.specs.Reading.{name_of, int_of}
use Rattle.occ_text.specs.Escapes.{read_key, read_end, read_row}
use Rattle.occ_text.specs.Fields.{Tokens, Field, before, next_token}

unfoldable pub next_name : Tokens → Option (List ℕ × Tokens)
next_name tokens = option_and_then (λ t. before t.1 (name_of t.0)) (next_token tokens)

abbrev pub name : Field (List ℕ)
name = record { read = next_name; spell = λ name. name ∷ []; fits = IsName; letters = codes "NAME" ∷ [] }

unfoldable pub next_key : Version → Tokens → Option (Key × Tokens)
next_key version tokens = option_and_then (λ t. before t.1 (read_key version t.0)) (next_token tokens)

abbrev pub key : Version → Field Key
key version = record { read = next_key version; spell = λ key. key_text key ∷ []; fits = KeyFits version; letters = codes "KEY" ∷ [] }

unfoldable pub next_end : Version → Tokens → Option (Option Key × Tokens)
next_end version tokens = option_and_then (λ t. before t.1 (read_end version t.0)) (next_token tokens)

abbrev pub end : Version → Field (Option Key)
end version = record { read = next_end version; spell = λ end. end_text end ∷ []; fits = EndFits version; letters = codes "END" ∷ [] }

unfoldable pub next_row : Tokens → Option (Row × Tokens)
next_row tokens = option_and_then (λ t. before t.1 (read_row t.0)) (next_token tokens)

abbrev pub row : Field Row
row = record { read = next_row; spell = λ row. row_text row ∷ []; fits = RowFits; letters = codes "ROW" ∷ [] }

unfoldable pub next_int : Tokens → Option (ℤ × Tokens)
next_int tokens = option_and_then (λ t. before t.1 (int_of t.0)) (next_token tokens)

abbrev pub int : Field ℤ
int = record { read = next_int; spell = λ n. signed_decimal n ∷ []; fits = FitsSigned w64; letters = codes "INT" ∷ [] }

-- what is read of the next token takes memory
unfoldable pub next_takes : (List ℕ → Bool) → Tokens → Bool
next_takes takes tokens = option_map_or (λ t. takes t.0) (next_token tokens) false
