-- What a call does with a desk (our own choice).
use Rattle.std.specs.Prelude.{⊤, ◌≡◌, ◌⊎◌, ◌≤◌, ◌<◌, ℕ, ℤ, pos, false, List, [], length, slice_get, Option, None, Some, MatchOption, Result, Ok, Err, MatchResult}
use Rattle.std.specs.List.{position}
use Rattle.std.specs.Str.{IsUtf8}
use Rattle.occ_types.specs.Schema.{Schema, has_name}
use Rattle.occ_bytes.specs.declared.reading.Unread.{Unread}
use Rattle.occ_bytes.specs.Reading.{IsKey, IsRow, IsUtf8Key, IsUtf8Row, MayRefuse}
use Rattle.occ_types.specs.Key.{Key}
use Rattle.occ_types.specs.Row.{Row}
use Rattle.occ_types.specs.Question.{Question, Span}
use Rattle.occ_types.specs.declared.fault.Fault.{Fault}
use Rattle.occ_types.specs.declared.fault.Fault.TheVariants as faults
use Rattle.occ_bytes.specs.Bytes.{IsSize, key_bytes, row_bytes, put_at}
use Rattle.occ_client.specs.Clients.{fresh_client}
use Rattle.occ_sharing.specs.declared.places.Missed.{Missed}
use Rattle.occ_sharing.specs.Sharing.{Worker, GetCame, ScanCame, WriteCame}
use Rattle.occ_c.specs.declared.operations.Kept.{Kept}
use Rattle.occ_c.specs.declared.desks.Desk.{Desk}
use Rattle.occ_c.specs.Codes.{fault_code, unread_code, answered, found, wrote, counted, code_of, telling}

-- The worker of a desk made a call, for which this is told; nothing else of the desk changed.
pub record Called {C R : Type 0} (old new : Desk) (Came : Worker → Worker → C → Type 0) (told : C → R) (result : R) : Type 0 where
  pub came : C
  pub is : Came old.worker new.worker came
  pub answer : result ≡ told came
  pub kept : new ≡ record old { worker = new.worker }

-- why bytes are not those of any value of a kind: none is written so, or only with a text that isn't UTF-8, or there is no memory
pub record NoneRead {X : Type 0} (Fits Utf8 : X → Type 0) (bytes_of : X → List ℕ) (bytes : List ℕ) (code : ℤ) : Type 0 where
  pub unread : Unread
  pub told : code ≡ unread_code unread
  pub none : (x : X) → Fits x → bytes ≡ bytes_of x → MayRefuse (Utf8 x) unread

-- bytes are those of a key of a table
pub record IsKeyAt (schema : Schema) (table : ℕ) (bytes : List ℕ) (key : Key) : Type 0 where
  pub is : bytes ≡ key_bytes key
  pub fits : MatchOption (slice_get schema table) ⊥ (λ def. IsKey def.key key)

-- bytes are those of a row of a table
pub record IsRowAt (schema : Schema) (table : ℕ) (bytes : List ℕ) (row : Row) : Type 0 where
  pub is : bytes ≡ row_bytes row
  pub fits : MatchOption (slice_get schema table) ⊥ (λ def. IsRow def.columns row)

-- why bytes are no key of a table, by the code
abbrev pub NoKey : Schema → ℕ → List ℕ → ℤ → Type 0
NoKey schema table bytes code = MatchOption (slice_get schema table) (code ≡ fault_code faults.NoTable) (λ def. NoneRead (IsKey def.key) IsUtf8Key key_bytes bytes code)

-- why bytes are no row of a table, by the code
abbrev pub NoRow : Schema → ℕ → List ℕ → ℤ → Type 0
NoRow schema table bytes code = MatchOption (slice_get schema table) (code ≡ fault_code faults.NoTable) (λ def. NoneRead (IsRow def.columns) IsUtf8Row row_bytes bytes code)

-- bytes are those of the end of a range of a table: none at all are no end
abbrev pub IsEndAt : Schema → ℕ → List ℕ → Option Key → Type 0
IsEndAt schema table bytes None = bytes ≡ []
IsEndAt schema table bytes (Some key) = IsKeyAt schema table bytes key

-- a call is refused for this reason, and nothing was done
pub record Refuses {D R : Type 0} (Why : ℤ → Type 0) (old new : D) (result : Result R ℤ) : Type 0 where
  pub code : ℤ
  pub why : Why code
  pub answer : result ≡ Err code
  pub same : new ≡ old

-- bytes are those of a key, with which this was done
pub record WithKey (schema : Schema) (table : ℕ) (bytes : List ℕ) (Did : Key → Type 0) : Type 0 where
  pub key : Key
  pub is : IsKeyAt schema table bytes key
  pub did : Did key

-- bytes are those of a row, with which this was done
pub record WithRow (schema : Schema) (table : ℕ) (bytes : List ℕ) (Did : Row → Type 0) : Type 0 where
  pub row : Row
  pub is : IsRowAt schema table bytes row
  pub did : Did row

-- bytes are those of the end of a range, with which this was done
pub record WithEnd (schema : Schema) (table : ℕ) (bytes : List ℕ) (Did : Option Key → Type 0) : Type 0 where
  pub end : Option Key
  pub is : IsEndAt schema table bytes end
  pub did : Did end

-- the tables of a desk's store
abbrev pub tables : Desk → Schema
tables desk = desk.worker.settings.schema

-- the row under a key is looked up
abbrev pub GetsAt : Desk → Desk → ℕ → List ℕ → Result Row ℤ → Type 0
GetsAt old new table bytes result = Refuses (NoKey (tables old) table bytes) old new result
    ⊎ WithKey (tables old) table bytes (λ key. Called old new (λ before after came. GetCame before after (table, key) came) (λ came. found (answered came)) result)

-- a row is written under a key
abbrev pub PutsAt : Desk → Desk → ℕ → List ℕ → List ℕ → Result ⊤ ℤ → Type 0
PutsAt old new table bytes written result = Refuses (NoKey (tables old) table bytes) old new result
    ⊎ WithKey (tables old) table bytes (λ key. Refuses (NoRow (tables old) table written) old new result
    ⊎ WithRow (tables old) table written (λ row.
    Called old new (λ before after came. WriteCame {X = ⊤} before after (table, key) (Some row) came) (λ came. wrote came) result))

-- the row under a key is deleted
abbrev pub DeletesAt : Desk → Desk → ℕ → List ℕ → Result ⊤ ℤ → Type 0
DeletesAt old new table bytes result = Refuses (NoKey (tables old) table bytes) old new result
    ⊎ WithKey (tables old) table bytes (λ key. Called old new (λ before after came. WriteCame {X = ⊤} before after (table, key) None came) (λ came. wrote came) result)

-- the place of the table with a name; or the name isn't UTF-8, or no table has it
abbrev pub FindsTable : Schema → List ℕ → Result ℕ ℤ → Type 0
FindsTable schema name (Ok place) = position (has_name name) schema ≡ Some place
FindsTable schema name (Err code) = ((code ≡ pos 108) × ¬ (IsUtf8 name)) ⊎ ((code ≡ fault_code faults.NoTable) × IsUtf8 name × (position (has_name name) schema ≡ None))

-- the code of an answer, of which this holds
pub record IsCodeOf {X : Type 0} (Answers : Result X ℤ → Type 0) (code : ℤ) : Type 0 where
  pub answer : Result X ℤ
  pub is : Answers answer
  pub told : code ≡ code_of answer

-- a row goes to the beginning of a room; where that is too short, nothing but its size is told
pub record WritesRow (row : Row) (old new : List ℕ) (size : ℕ) (code : ℤ) : Type 0 where
  pub told : IsSize size (length (row_bytes row))
  pub ok : length (row_bytes row) ≤ length old → (new ≡ put_at old 0 (row_bytes row)) × (code ≡ pos 0)
  pub short : length old < length (row_bytes row) → (new ≡ old) × (code ≡ pos 103)

-- the row under a key goes into a room, with its size
pub record GetsInto (old new : Desk) (table : ℕ) (bytes : List ℕ) (room filled : List ℕ) (stood size : ℕ) (code : ℤ) : Type 0 where
  pub answer : Result Row ℤ
  pub is : GetsAt old new table bytes answer
  pub told : MatchResult answer (λ row. WritesRow row room filled size code) (λ refusal. (code ≡ refusal) × (filled ≡ room) × (size ≡ stood))

-- the range of a question is read, and its rows are kept to be fetched
pub record Scanned (old new : Desk) (question : Question) (result : Result ℕ ℤ) : Type 0 where
  pub came : Result (Result (List (Key × Row)) Fault) Missed
  pub is : ScanCame old.worker new.worker question came
  pub answer : result ≡ counted (answered came)
  pub kept : MatchResult (answered came)
      (λ rows. new ≡ record old { worker = new.worker; kept = record old.kept { rows = Some rows; next = 0 } })
      (λ code. new ≡ record old { worker = new.worker })

-- the rows of a table between two ends are read
abbrev pub ScansAt : Desk → Desk → ℕ → List ℕ → List ℕ → Result ℕ ℤ → Type 0
ScansAt old new table below above result = Refuses (NoKey (tables old) table below) old new result
    ⊎ WithEnd (tables old) table below (λ lower. Refuses (NoKey (tables old) table above) old new result
    ⊎ WithEnd (tables old) table above (λ upper. Scanned old new (Span table lower upper) result))

-- what is told of an answer, of which this holds: its code, and its value in the place of what stood there
pub record TellsOf {X : Type 0} (Answers : Result X ℤ → Type 0) (stood told : X) (code : ℤ) : Type 0 where
  pub answer : Result X ℤ
  pub is : Answers answer
  pub told_is : (code, told) ≡ telling stood answer

-- a desk keeps nothing between calls
pub record KeepsNothing (kept : Kept) : Type 0 where
  pub rows : kept.rows ≡ None
  pub next : kept.next ≡ 0
  pub operations : kept.operations.items ≡ []
  pub answers : kept.answers.items ≡ []
  pub book : kept.book.items ≡ []

-- the worker of a desk has no session, and the desk keeps nothing
pub record IsFresh (desk : Desk) : Type 0 where
  pub worker : desk.worker ≡ record { settings = desk.store; client = fresh_client 0; lease = None; holdings = 0 }
  pub kept : KeepsNothing desk.kept
