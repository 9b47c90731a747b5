-- Lines that have keys and rows: of a read, of a row that a range answered, of a write, and of a row of a state.
use Rattle.std.specs.Prelude.{◌≡◌, ◌<◌, ◌≤◌, ◌^◌, ◌-◌, ◌||◌, ℕ, Bool, false, length, List, [], ◌∷◌, Option, Some, None, is_some, if◌then◌else◌, option_map, option_and_then, codes}
use Rattle.std.specs.Option.{option_map_or}
use Rattle.std.specs.Str.{bytes_eq}
use Rattle.std.specs.Fmt.{decimal}
use Rattle.occ_types.specs.Key.{Key}
use Rattle.occ_types.specs.Object.{Object}
use Rattle.occ_types.specs.Question.{Question, One, Span}
use Rattle.occ_types.specs.Row.{Row}
use Rattle.occ_types.specs.Schema.{Schema, check_key, check_row, check_question}
use Rattle.occ_types.specs.PlainData.{key_of, object_of, question_of}
use Rattle.occ_types.specs.declared.keys.Key as code_key
use Rattle.occ_types.specs.declared.objects.Object as code_object
use Rattle.occ_model.specs.State.{Write, Found}
use Rattle.occ_text.specs.declared.versions.Version.{Version}
use Rattle.occ_types.specs.Spelling.{key_text, row_text}
use Rattle.occ_text.specs.Spelling.{line_text, end_text, KeyFits, EndFits, RowFits}
use Rattle.occ_text.specs.StepReading.{◌>>=◌, next_end}
use Rattle.occ_print.specs.Books.{table_name, question_text, answer_text, read_line, entry_word}
use Rattle.occ_print.specs.declared.sections.Section.{Section}
use Rattle.occ_reading.specs.declared.row_lines.Asked as code_asked
use Rattle.occ_reading.specs.declared.row_lines.Asked.TheVariants as asked
use Rattle.occ_text.specs.Fields.{Tokens, Field, Form, before, next_token, next_word, after, both, ◌⊗◌, readers, by_word, of_line}
use Rattle.occ_text.specs.ValueFields.{next_takes}
use Rattle.occ_text.specs.Reading.{tokens_of}
use Rattle.occ_reading.specs.SchemaReaders.{unless_fault, row_in, next_table, next_key, next_row, next_object}
use Rattle.occ_reading.specs.NumberLines.{number_as}

-- the line of a read: a key and the row that it had, or a range and how many rows answered it
pub data Asked : Type 0 where
  AskedOne : Object → Option Row → Asked
  AskedSpan : Question → ℕ → Asked

module _ {Z : Type 0} where
  abbrev pub asked_of : code_asked.Asked Z → Asked
  asked_of (asked.One object row) = AskedOne (object_of object) row
  asked_of (asked.Span question count) = AskedSpan (question_of question) count

  abbrev pub pair_of : code_key.Key Z × Row → Key × Row
  pair_of pair = (key_of pair.0, pair.1)

  abbrev pub write_of : code_object.Object Z × Option Row → Write
  write_of write = (object_of write.0, write.1)

  abbrev pub at_of : code_object.Object Z × Row → Object × Row
  at_of entry = (object_of entry.0, entry.1)

-- ---- spelling

abbrev pub asked_text : Schema → Asked → List ℕ
asked_text schema (AskedOne object row) = read_line schema (One object.0 object.1, Found row)
asked_text schema (AskedSpan question count) = line_text (question_text schema question ∷ decimal count ∷ [])

-- a row, or `none`
abbrev pub found_text : Option Row → List ℕ
found_text row = answer_text (Found row)

abbrev pub asked_tokens : Schema → Asked → Tokens
asked_tokens schema (AskedOne object row) = codes "one" ∷ table_name schema object.0 ∷ key_text object.1 ∷ found_text row ∷ []
asked_tokens schema (AskedSpan (One table key) count) = []
asked_tokens schema (AskedSpan (Span table lower upper) count) = codes "span" ∷ table_name schema table ∷ end_text lower ∷ end_text upper ∷ decimal count ∷ []

abbrev pub write_tokens : Schema → Write → Tokens
write_tokens schema (object, None) = codes "del" ∷ table_name schema object.0 ∷ key_text object.1 ∷ []
write_tokens schema (object, Some row) = codes "put" ∷ table_name schema object.0 ∷ key_text object.1 ∷ row_text row ∷ []

-- ---- what has a line

pub record ObjectFits (version : Version) (schema : Schema) (object : Object) : Type 0 where
  pub key : KeyFits version object.1
  pub checked : check_key schema object.0 object.1 ≡ None

pub record RowFitsIn (schema : Schema) (table : ℕ) (row : Row) : Type 0 where
  pub cells : RowFits row
  pub checked : check_row schema table row ≡ None

abbrev pub FoundFits : Schema → ℕ → Option Row → Type 0
FoundFits schema table None = Unit {0}
FoundFits schema table (Some row) = RowFitsIn schema table row

-- a range whose ends a version has words for
abbrev pub EndsFit : Version → Question → Type 0
EndsFit version (One table key) = ⊥
EndsFit version (Span table lower upper) = EndFits version lower × EndFits version upper

pub record SpanFits (version : Version) (schema : Schema) (question : Question) : Type 0 where
  pub ends : EndsFit version question
  pub checked : check_question schema question ≡ None

abbrev pub AskedFits : Version → Schema → Asked → Type 0
AskedFits version schema (AskedOne object row) = ObjectFits version schema object × FoundFits schema object.0 row
AskedFits version schema (AskedSpan question count) = SpanFits version schema question × (count ≤ 2 ^ 64 - 1)

abbrev pub PairFits : Version → Schema → ℕ → Key × Row → Type 0
PairFits version schema table pair = ObjectFits version schema (table, pair.0) × RowFitsIn schema table pair.1

abbrev pub WriteFits : Version → Schema → Write → Type 0
WriteFits version schema write = ObjectFits version schema write.0 × FoundFits schema write.0.0 write.1

abbrev pub AtFits : Version → Schema → Object × Row → Type 0
AtFits version schema entry = ObjectFits version schema entry.0 × RowFitsIn schema entry.0.0 entry.1

-- ---- fields

abbrev pub table_field : Schema → Field ℕ
table_field schema = record { read = next_table schema; spell = λ table. table_name schema table ∷ []; fits = λ table. table < length schema; letters = codes "NAME" ∷ [] }

abbrev pub key_field : Version → Schema → ℕ → Field Key
key_field version schema table = record { read = next_key version schema table; spell = λ key. key_text key ∷ []; fits = λ key. ObjectFits version schema (table, key); letters = codes "KEY" ∷ [] }

abbrev pub object_field : Version → Schema → Field Object
object_field version schema = record { read = next_object version schema; spell = λ object. table_name schema object.0 ∷ key_text object.1 ∷ []; fits = ObjectFits version schema; letters = codes "NAME" ∷ codes "KEY" ∷ [] }

abbrev pub row_field : Schema → ℕ → Field Row
row_field schema table = record { read = next_row schema table; spell = λ row. row_text row ∷ []; fits = RowFitsIn schema table; letters = codes "ROW" ∷ [] }

unfoldable pub found_in : Schema → ℕ → List ℕ → Option (Option Row)
found_in schema table token = if bytes_eq token (codes "none") then Some None else option_map (λ row. Some row) (row_in schema table token)

unfoldable pub next_found : Schema → ℕ → Tokens → Option (Option Row × Tokens)
next_found schema table tokens = option_and_then (λ t. before t.1 (found_in schema table t.0)) (next_token tokens)

abbrev pub found_field : Schema → ℕ → Field (Option Row)
found_field schema table = record { read = next_found schema table; spell = λ row. found_text row ∷ []; fits = FoundFits schema table; letters = codes "ROW|none" ∷ [] }

-- a range of a table, of which an end may be missing where the version has a word for that
unfoldable pub next_ends : Version → Schema → ℕ → Tokens → Option ((Option Key × Option Key) × Tokens)
next_ends version schema table tokens = do
  lower ← next_end version tokens
  upper ← next_end version lower.1
  good ← unless_fault (check_question schema (Span table lower.0 upper.0))
  Some ((lower.0, upper.0), upper.1)

abbrev pub ends_field : Version → Schema → ℕ → Field (Option Key × Option Key)
ends_field version schema table = record {
  read = next_ends version schema table;
  spell = λ ends. end_text ends.0 ∷ end_text ends.1 ∷ [];
  fits = λ ends. SpanFits version schema (Span table ends.0 ends.1);
  letters = codes "END" ∷ codes "END" ∷ [];
}

-- a key of a table, and a row of it
abbrev pub row_at : Version → Schema → Field (Object × Row)
row_at version schema = both (object_field version schema) (codes "ROW" ∷ []) (λ object. row_field schema object.0)

-- ---- reading

abbrev pub one_form : Version → Schema → Form Asked
one_form version schema = record {
  word = codes "one";
  Told = Object × Option Row;
  behind = both (object_field version schema) (codes "ROW|none" ∷ []) (λ object. found_field schema object.0);
  to = λ p. AskedOne p.0 p.1;
}

abbrev pub span_form : Version → Schema → Form Asked
span_form version schema = record {
  word = codes "span";
  Told = ℕ × ((Option Key × Option Key) × ℕ);
  behind = both (table_field schema) (codes "END" ∷ codes "END" ∷ codes "K" ∷ []) (λ table. ends_field version schema table ⊗ number_as (codes "K"));
  to = λ p. AskedSpan (Span p.0 p.1.0.0 p.1.0.1) p.1.1;
}

abbrev pub asked_forms : Version → Schema → List (Form Asked)
asked_forms version schema = one_form version schema ∷ span_form version schema ∷ []

unfoldable pub next_asked : Version → Schema → Tokens → Option (Asked × Tokens)
next_asked version schema tokens = option_and_then (by_word (readers (asked_forms version schema))) (next_token tokens)

abbrev pub asked_line : Version → Schema → Field Asked
asked_line version schema = record { read = next_asked version schema; spell = asked_tokens schema; fits = AskedFits version schema; letters = [] }

unfoldable pub asked_of_line : Version → Schema → List ℕ → Option Asked
asked_of_line version schema line = of_line (asked_line version schema) line

-- pair KEY ROW
abbrev pub pair_field : Version → Schema → ℕ → Field (Key × Row)
pair_field version schema table = after (codes "pair") (key_field version schema table ⊗ row_field schema table)

unfoldable pub pair_of_line : Version → Schema → ℕ → List ℕ → Option (Key × Row)
pair_of_line version schema table line = of_line (pair_field version schema table) line

abbrev pub put_form : Version → Schema → Form Write
put_form version schema = record { word = codes "put"; Told = Object × Row; behind = row_at version schema; to = λ p. (p.0, Some p.1) }

abbrev pub del_form : Version → Schema → Form Write
del_form version schema = record { word = codes "del"; Told = Object; behind = object_field version schema; to = λ object. (object, None) }

abbrev pub write_forms : Version → Schema → List (Form Write)
write_forms version schema = put_form version schema ∷ del_form version schema ∷ []

unfoldable pub next_write : Version → Schema → Tokens → Option (Write × Tokens)
next_write version schema tokens = option_and_then (by_word (readers (write_forms version schema))) (next_token tokens)

abbrev pub write_field : Version → Schema → Field Write
write_field version schema = record { read = next_write version schema; spell = write_tokens schema; fits = WriteFits version schema; letters = [] }

unfoldable pub write_of_line : Version → Schema → List ℕ → Option Write
write_of_line version schema line = of_line (write_field version schema) line

-- at NAME KEY ROW, from NAME KEY ROW
abbrev pub at_field : Version → Section → Schema → Field (Object × Row)
at_field version section schema = after (entry_word section) (row_at version schema)

unfoldable pub at_of_line : Version → Section → Schema → List ℕ → Option (Object × Row)
at_of_line version section schema line = of_line (at_field version section schema) line

-- ---- which lines take memory, where they aren't malformed at their first word (our own choice)

unfoldable pub line_takes : (Tokens → Bool) → List ℕ → Bool
line_takes takes line = option_map_or takes (tokens_of line) false

abbrev pub pair_takes : Tokens → Bool
pair_takes tokens = is_some (next_word (codes "pair") tokens)

abbrev pub at_takes : Section → Tokens → Bool
at_takes section tokens = is_some (next_word (entry_word section) tokens)

abbrev pub write_takes : Tokens → Bool
write_takes tokens = next_takes (λ word. bytes_eq word (codes "put") || bytes_eq word (codes "del")) tokens

abbrev pub asked_takes : Tokens → Bool
asked_takes tokens = next_takes (λ word. bytes_eq word (codes "one") || bytes_eq word (codes "span")) tokens
