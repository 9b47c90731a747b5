-- What a desk keeps between calls: rows to be fetched, operations that are to run alone, and their answers (our own choice).
use Rattle.std.specs.Prelude.{⊤, ◌≡◌, ◌⊎◌, ◌≤◌, ◌<◌, ◌+◌, ℕ, ℤ, pos, List, [], ◌∷◌, ◌++◌, length, take, drop, map, slice_get, Option, None, Some, MatchOption, Result, Ok, Err, OnOk, OnErr}
use Rattle.std.specs.Int.{w64, cast_unsigned, cast_signed}
use Rattle.occ_types.specs.Key.{Key}
use Rattle.occ_types.specs.Row.{Row}
use Rattle.occ_types.specs.Schema.{Schema}
use Rattle.occ_types.specs.declared.fault.Fault.{Fault}
use Rattle.occ_types.specs.declared.fault.Fault.TheVariants as faults
use Rattle.occ_model.specs.State.{Answer, Found, Rows}
use Rattle.occ_model.specs.Event.{RanAlone}
use Rattle.occ_model.specs.Operations.{Operation, Get, Scan, Put, Delete, Add}
use Rattle.occ_model.specs.Replies.{replied}
use Rattle.occ_sets.specs.Operations.{ops_of}
use Rattle.occ_sets.specs.PlainSets.{answer_of}
use Rattle.occ_bytes.specs.Bytes.{IsSize, number_bytes, key_bytes, row_bytes, put_at}
use Rattle.occ_client.specs.Clients.{after_alone}
use Rattle.occ_sharing.specs.declared.places.Missed.{Missed}
use Rattle.occ_sharing.specs.Sharing.{Worker, Came, RunsAloneNext}
use Rattle.occ_c.specs.declared.desks.Desk.{Desk}
use Rattle.occ_c.specs.declared.operations.Told.{Told}
use Rattle.occ_c.specs.declared.operations.Told.TheVariants as tolds
use Rattle.occ_c.specs.Codes.{fault_code, answered}
use Rattle.occ_c.specs.Desks.{Called, NoneRead, NoKey, NoRow, IsKeyAt, IsRowAt, IsEndAt, Refuses, WithKey, WithEnd, WritesRow, tables}

-- ---- rows, each with its key

abbrev pub entry_bytes : Key × Row → List ℕ
entry_bytes entry = key_bytes entry.0 ++ row_bytes entry.1

abbrev pub entries_bytes : List (Key × Row) → List ℕ
entries_bytes [] = []
entries_bytes (entry ∷ entries) = entry_bytes entry ++ entries_bytes entries

-- bytes are put at a place where they have room whole, and the place behind them is told; else nothing but their size
abbrev pub PutsWhole : List ℕ → ℕ → List ℕ → List ℕ → Result ℕ ℕ → Type 0
PutsWhole room at bytes new (Ok behind) = (at + length bytes ≤ length room) × (new ≡ put_at room at bytes) × (behind ≡ at + length bytes)
PutsWhole room at bytes new (Err size) = (length room < at + length bytes) × (new ≡ room) × IsSize size (length bytes)

-- of the rows that are left behind so many bytes the first one has no room, or none is left
abbrev pub HasNoRoom : ℕ → ℕ → List (Key × Row) → Type 0
HasNoRoom room at [] = ⊤
HasNoRoom room at (entry ∷ left) = room < at + length (entry_bytes entry)

-- how many bytes are told: those that went; or where not even the first row had room, those that it needs
abbrev pub IsTold : List (Key × Row) → List (Key × Row) → ℕ → Type 0
IsTold [] [] bytes = bytes ≡ 0
IsTold [] (entry ∷ left) bytes = IsSize bytes (length (entry_bytes entry))
IsTold (entry ∷ went) left bytes = bytes ≡ length (entries_bytes (entry ∷ went))

-- the code: the room is too short where not even the first row had room
abbrev pub went_code : List (Key × Row) → List (Key × Row) → ℤ
went_code [] (entry ∷ left) = pos 103
went_code went left = pos 0

-- of some rows as many go to the beginning of a room as have room whole
pub record WritesRows (rows : List (Key × Row)) (old new : List ℕ) (count bytes : ℕ) : Type 0 where
  pub went : List (Key × Row)
  pub left : List (Key × Row)
  pub whole : rows ≡ went ++ left
  pub fits : length (entries_bytes went) ≤ length old
  pub full : HasNoRoom (length old) (length (entries_bytes went)) left
  pub room : new ≡ put_at old 0 (entries_bytes went)
  pub counted : count ≡ length went
  pub told : IsTold went left bytes

-- the rows that are kept are taken out, with the place of the next one
abbrev pub TakesRows : Desk → Desk → Option (List (Key × Row) × ℕ) → Type 0
TakesRows old new None = (old.kept.rows ≡ None) × (new ≡ old)
TakesRows old new (Some taken) = (old.kept.rows ≡ Some taken.0) × (taken.1 ≡ old.kept.next) × (new ≡ record old { kept = record old.kept { rows = None } })

-- the rows that are kept go into a room from the next one on, and the one behind those is the next one then
pub record Fetches (old new : Desk) (room filled : List ℕ) (size count : ℕ) (code : ℤ) : Type 0 where
  pub none : old.kept.rows ≡ None → (new ≡ old) × (filled ≡ room) × (size ≡ 0) × (count ≡ 0) × (code ≡ pos 0)
  pub some : (rows : List (Key × Row)) → old.kept.rows ≡ Some rows → (w : WritesRows (drop old.kept.next rows) room filled count size)
      × (new ≡ record old { kept = record old.kept { next = old.kept.next + count } }) × (code ≡ went_code w.went w.left)

-- ---- operations

-- bytes are those of an operation, as C numbers its kind
abbrev pub IsOperation : Schema → ℕ → ℕ → List ℕ → List ℕ → Operation → Type 0
IsOperation schema kind table first second (Get place key) = (kind ≡ 0) × (place ≡ table) × IsKeyAt schema table first key
IsOperation schema kind table first second (Put place key row) = (kind ≡ 1) × (place ≡ table) × IsKeyAt schema table first key × IsRowAt schema table second row
IsOperation schema kind table first second (Delete place key) = (kind ≡ 2) × (place ≡ table) × IsKeyAt schema table first key
IsOperation schema kind table first second (Add place key amount) = (kind ≡ 3) × (place ≡ table) × IsKeyAt schema table first key × (second ≡ number_bytes (cast_unsigned w64 amount))
IsOperation schema kind table first second (Scan place lower upper) = (kind ≡ 4) × (place ≡ table) × IsEndAt schema table first lower × IsEndAt schema table second upper

-- why bytes are not those of a whole number, by the code
abbrev pub NoInt : List ℕ → ℤ → Type 0
NoInt = NoneRead (λ (number : ℤ). cast_signed w64 (cast_unsigned w64 number) ≡ number) (λ _. ⊤) (λ number. number_bytes (cast_unsigned w64 number))

-- why bytes are those of no operation, by the code
pub data NoOperation (schema : Schema) (kind table : ℕ) (first second : List ℕ) (code : ℤ) : Type 0 where
  NoKind : 4 < kind → code ≡ pos 104 → NoOperation schema kind table first second code
  NoFirst : kind ≤ 4 → NoKey schema table first code → NoOperation schema kind table first second code
  NoSecond : kind ≡ 1 → NoRow schema table second code → NoOperation schema kind table first second code
  NoAmount : kind ≡ 3 → NoInt second code → NoOperation schema kind table first second code
  NoUpper : kind ≡ 4 → NoKey schema table second code → NoOperation schema kind table first second code

-- an operation is put behind those that are to run; or it is none, or there is no memory for it, and those are as they were
pub record Added (old new : Desk) (kind table : ℕ) (first second : List ℕ) (result : Result ⊤ ℤ) : Type 0 where
  pub operation : Operation
  pub is : IsOperation (tables old) kind table first second operation
  pub kept : new ≡ record old { kept = record old.kept { operations = new.kept.operations } }
  pub ok : OnOk result (ops_of new.kept.operations.items ≡ ops_of old.kept.operations.items ++ operation ∷ [])
  pub err : OnErr result (new.kept.operations.items ≡ old.kept.operations.items)
  pub told : (result ≡ Ok tt) ⊎ (result ≡ Err (fault_code faults.Memory))

abbrev pub AddsAt : Desk → Desk → ℕ → ℕ → List ℕ → List ℕ → Result ⊤ ℤ → Type 0
AddsAt old new kind table first second result = Refuses (NoOperation (tables old) kind table first second) old new result ⊎ Added old new kind table first second result

-- operations run alone, in one holding
abbrev pub RunCame : Worker → Worker → List Operation → Result (Result (ℕ × List Answer) Fault) Missed → Type 0
RunCame old new operations came = Came old new came (λ done before after.
    RunsAloneNext old.client operations before (replied (λ told. RanAlone told.0 told.1) done) after
    × OnOk done (new.client ≡ after_alone old.client)
    × OnErr done (new.client ≡ old.client))

-- what a desk keeps behind a run: nothing of it where the core was away; or no operation is left, and the answers are those of the run
abbrev pub KeepsRun : Desk → Desk → Result (Result (ℕ × List Answer) Fault) Missed → Type 0
KeepsRun old new (Ok (Ok told)) = (new.kept.operations.items ≡ []) × (map answer_of new.kept.answers.items ≡ told.1)
    × (new ≡ record old { worker = new.worker; kept = record old.kept { operations = new.kept.operations; answers = new.kept.answers } })
KeepsRun old new (Ok (Err fault)) = (new.kept.operations.items ≡ []) × (new ≡ record old { worker = new.worker; kept = record old.kept { operations = new.kept.operations } })
KeepsRun old new (Err missed) = new ≡ record old { worker = new.worker }

-- the number of a run, and how many answers there are
abbrev pub ran_told : Result (ℕ × List Answer) ℤ → Result (ℕ × ℕ) ℤ
ran_told (Ok told) = Ok (told.0, length told.1)
ran_told (Err code) = Err code

-- the operations that are kept run alone
pub record RunsAt (old new : Desk) (result : Result (ℕ × ℕ) ℤ) : Type 0 where
  pub came : Result (Result (ℕ × List Answer) Fault) Missed
  pub is : RunCame old.worker new.worker (ops_of old.kept.operations.items) came
  pub answer : result ≡ ran_told (answered came)
  pub kept : KeepsRun old new came

-- the same for C
abbrev pub run_code : ℕ → ℕ → Result (ℕ × ℕ) ℤ → ℤ × ℕ × ℕ
run_code number answers (Ok told) = (pos 0, told.0, told.1)
run_code number answers (Err code) = (code, number, answers)

pub record RunsInto (old new : Desk) (stood number stood_answers answers : ℕ) (code : ℤ) : Type 0 where
  pub answer : Result (ℕ × ℕ) ℤ
  pub is : RunsAt old new answer
  pub told : (code, number, answers) ≡ run_code stood stood_answers answer

-- ---- answers

-- what an answer tells; the rows of a range are kept to be fetched
abbrev pub Tells : Desk → Desk → Answer → Result Told ℤ → Type 0
Tells old new (Found None) result = (result ≡ Ok tolds.Nothing) × (new ≡ old)
Tells old new (Found (Some row)) result = (result ≡ Ok (tolds.Row row)) × (new ≡ old)
Tells old new (Rows rows) result = (result ≡ Ok (tolds.Rows (length rows))) × (new ≡ record old { kept = record old.kept { rows = Some rows; next = 0 } })

-- what the answer at a place tells; there is none there, or no memory for a copy of it
abbrev pub AnswersAt : Desk → Desk → ℕ → Result Told ℤ → Type 0
AnswersAt old new place result = MatchOption (slice_get (map answer_of old.kept.answers.items) place)
    ((result ≡ Err (pos 109)) × (new ≡ old))
    (λ answer. ((result ≡ Err (fault_code faults.Memory)) × (new ≡ old)) ⊎ Tells old new answer result)

-- what is told goes to C: a row into a room, with its size, or how many rows are to be fetched
abbrev pub ToldInto : Result Told ℤ → List ℕ → List ℕ → ℕ → ℕ → ℤ → Type 0
ToldInto (Ok tolds.Nothing) room filled stood size code = (code ≡ pos 102) × (filled ≡ room) × (size ≡ stood)
ToldInto (Ok (tolds.Row row)) room filled stood size code = WritesRow row room filled size code
ToldInto (Ok (tolds.Rows count)) room filled stood size code = (code ≡ pos 0) × (filled ≡ room) × (size ≡ count)
ToldInto (Err refusal) room filled stood size code = (code ≡ refusal) × (filled ≡ room) × (size ≡ stood)

pub record AnswersInto (old new : Desk) (place : ℕ) (room filled : List ℕ) (stood size : ℕ) (code : ℤ) : Type 0 where
  pub answer : Result Told ℤ
  pub is : AnswersAt old new place answer
  pub told : ToldInto answer room filled stood size code
