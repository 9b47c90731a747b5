-- No refusal of the store or of a client is a want of memory: that comes after all of them.
use Rattle.std.proofs.Common.{◌≡◌, ℕ, zero, suc, ◌+◌, List, [], ◌∷◌, length, Option, Some, None, Result, Ok, Err, refl, Bool, true, false, not, ◌==◌, is_some, slice_get, nat_le, nat_lt, nat_eq, ◌||◌, ok_or}
use Rattle.occ_cli.specs.Replaying.{close_fault}
use Rattle.occ_cli.proofs.Common.{list_any, Fault, Key, Question, One, Span, Row, Schema, Table, fault_if, first_fault, in_table, key_has_kind, key_is_too_long, cell_has_kind, cell_is_too_long, check_key, check_key_in, check_cell, check_cells, check_row, check_row_in, check_end, is_empty_range, check_question, MAX_QUESTIONS, MAX_OPERATIONS, MAX_ANSWER_ROWS, MAX_LOG_ROWS, MAX_COUNTER, MAX_NUMBER, READ_AHEAD, Write, answer, answer_size, is_open, is_active, Operation, Get, Scan, Put, Delete, Add, World, ReadPhase, due, reads_under, active_count, has_session, has_mark, has_phase, is_held, Request, Alone, Close, Event, Read, Forget, Enter, Decide, WriteOne, Finish, BackUp, SerialEnd, RunAlone, Checkpoint, refusal, row_is_open, row_is_back, has_writes_left, wrong_start, check_writes, check_number, check_operation, check_operations, refusal_of_request, refusal_of_close, refusal_of_alone, Numbered, next, is_full, Copied, is_full_for, Client, and_then, unless, client_of, copy_of, next_number, submitted, mark_of, unfit, handed_in, begin_fault, check_written, write_fault, written}
use Rattle.occ_types.specs.Object.{Object}
use Rattle.occ_types.specs.Row.{Cell}
use Rattle.std.specs.FinMap as finite
use Rattle.occ_types.specs.declared.fault.Fault.TheVariants as faults
use Rattle.occ_types.specs.declared.kind.Kind.{Kind}
use Rattle.occ_types.specs.declared.kind.Kind.TheVariants as cells
use Rattle.occ_model.specs.Refusal as refusals
use Rattle.occ_queue.specs.Numbering as queues

-- whether a fault is the want of memory
abbrev is_memory : Fault → Bool
is_memory faults.Memory = true
is_memory fault = false

-- whether there is one, and it is that
abbrev pub is_want : Option Fault → Bool
is_want None = false
is_want (Some fault) = is_memory fault

-- whether a call is refused for that
abbrev pub wants : {X : Type 0} → Result X Fault → Bool
wants (Ok x) = false
wants (Err fault) = is_memory fault

by_test : (test : Bool) (fault : Fault) → is_memory fault ≡ false → is_want (fault_if test fault) ≡ false
by_test true fault other = other
by_test false fault other = refl

-- the first fault isn't that, where the first test doesn't answer it and the others don't
first : (test : Option Fault) (tests : List (Option Fault)) → is_want test ≡ false → is_want (first_fault tests) ≡ false → is_want (first_fault (test ∷ tests)) ≡ false
first None tests other others = others
first (Some fault) tests other others = other

guard : (test : Bool) (fault : Fault) (tests : List (Option Fault)) → is_memory fault ≡ false → is_want (first_fault tests) ≡ false → is_want (first_fault (fault_if test fault ∷ tests)) ≡ false
guard test fault tests other others = first (fault_if test fault) tests (by_test test fault other) others

-- of a schema

by_table : (schema : Schema) (place : ℕ) (check : Table → Option Fault) → ((table : Table) → is_want (check table) ≡ false) → is_want (in_table schema place check) ≡ false
by_table schema place check each = go (slice_get schema place)
  where
    go : (o : Option Table) → is_want (elim o as (λ _. Option Fault) [ None ↦ Some faults.NoTable | Some table ↦ check table ]) ≡ false
    go None = refl
    go (Some table) = each table

by_key_in : (table : Table) (key : Key) → is_want (check_key_in table key) ≡ false
by_key_in table key = guard (not (key_has_kind table.key key)) faults.WrongKind _ refl (guard (key_is_too_long key) faults.TooLong [] refl refl)

pub by_key : (schema : Schema) (place : ℕ) (key : Key) → is_want (check_key schema place key) ≡ false
by_key schema place key = by_table schema place (λ table. check_key_in table key) (λ table. by_key_in table key)

by_cell : (kind : Kind) (cell : Cell) → is_want (check_cell kind cell) ≡ false
by_cell kind cell = guard (not (cell_has_kind kind cell)) faults.WrongKind _ refl (guard (cell_is_too_long cell) faults.TooLong [] refl refl)

by_cells : (kinds : List Kind) (row : Row) → is_want (check_cells kinds row) ≡ false
by_cells [] row = refl
by_cells (kind ∷ kinds) [] = refl
by_cells (kind ∷ kinds) (cell ∷ row) = first (check_cell kind cell) _ (by_cell kind cell) (first (check_cells kinds row) [] (by_cells kinds row) refl)

by_row_in : (table : Table) (row : Row) → is_want (check_row_in table row) ≡ false
by_row_in table row = guard (not (nat_eq (length row) (length table.columns))) faults.WrongColumns _ refl (first (check_cells table.columns row) [] (by_cells table.columns row) refl)

by_row : (schema : Schema) (place : ℕ) (row : Row) → is_want (check_row schema place row) ≡ false
by_row schema place row = by_table schema place (λ table. check_row_in table row) (λ table. by_row_in table row)

by_end : (table : Table) (end : Option Key) → is_want (check_end table end) ≡ false
by_end table None = refl
by_end table (Some end) = by_key_in table end

pub by_question : (schema : Schema) (question : Question) → is_want (check_question schema question) ≡ false
by_question schema (One place key) = by_key schema place key
by_question schema (Span place lower upper) =
    by_table schema place (λ table. first_fault (check_end table lower ∷ check_end table upper ∷ fault_if (is_empty_range lower upper) faults.EmptyRange ∷ []))
    (λ table. first (check_end table lower) _ (by_end table lower)
    (first (check_end table upper) _ (by_end table upper)
    (guard (is_empty_range lower upper) faults.EmptyRange [] refl refl)))

-- of the store

by_written : (schema : Schema) (place : ℕ) (row : Option Row) → is_want (check_written schema place row) ≡ false
by_written schema place None = refl
by_written schema place (Some row) = by_row schema place row

by_writes : (schema : Schema) (writes : List Write) → is_want (check_writes schema writes) ≡ false
by_writes schema [] = refl
by_writes schema (write ∷ writes) =
    first (check_key schema write.0.0 write.0.1) _ (by_key schema write.0.0 write.0.1)
    (first (check_written schema write.0.0 write.1) _ (by_written schema write.0.0 write.1)
    (first (check_writes schema writes) [] (by_writes schema writes) refl))

by_start : (world : World) (session number start : ℕ) → is_want (wrong_start world session number start) ≡ false
by_start world session number start = go (finite.get world.phases (session, number))
  where
    go : (o : Option ReadPhase) → is_want (elim o as (λ _. Option Fault) [
      | None ↦ fault_if (nat_lt world.counter start) faults.FutureStart
      | Some phase ↦ fault_if (not (phase.start == start)) faults.StartDiffers
    ]) ≡ false
    go None = by_test (nat_lt world.counter start) faults.FutureStart refl
    go (Some phase) = by_test (not (phase.start == start)) faults.StartDiffers refl

by_kind : (kind : Kind) → is_want (elim kind as (λ _. Option Fault) [ cells.Int ↦ None | cells.Text ↦ Some faults.WrongKind ]) ≡ false
by_kind cells.Int = refl
by_kind cells.Text = refl

-- the fault of columns that aren't one whole number
abbrev column_fault : List Kind → Option Fault
column_fault columns = elim columns [ [] ↦ None | kind ∷ kinds ↦ elim kind [ cells.Int ↦ None | cells.Text ↦ Some faults.WrongKind ] ]

by_column : (columns : List Kind) → is_want (column_fault columns) ≡ false
by_column [] = refl
by_column (kind ∷ kinds) = by_kind kind

by_number : (schema : Schema) (place : ℕ) → is_want (check_number schema place) ≡ false
by_number schema place =
    by_table schema place (λ table. first_fault (fault_if (not (length table.columns == 1)) faults.WrongColumns ∷ column_fault table.columns ∷ []))
    (λ table. guard (not (length table.columns == 1)) faults.WrongColumns _ refl (first (column_fault table.columns) [] (by_column table.columns) refl))

by_operation : (schema : Schema) (operation : Operation) → is_want (check_operation schema operation) ≡ false
by_operation schema (Get place key) = by_key schema place key
by_operation schema (Scan place lower upper) = by_question schema (Span place lower upper)
by_operation schema (Put place key row) = first (check_key schema place key) _ (by_key schema place key) (first (check_row schema place row) [] (by_row schema place row) refl)
by_operation schema (Delete place key) = by_key schema place key
by_operation schema (Add place key n) = first (check_key schema place key) _ (by_key schema place key) (first (check_number schema place) [] (by_number schema place) refl)

by_operations : (schema : Schema) (operations : List Operation) → is_want (check_operations schema operations) ≡ false
by_operations schema [] = refl
by_operations schema (operation ∷ operations) =
    first (check_operation schema operation) _ (by_operation schema operation)
    (first (check_operations schema operations) [] (by_operations schema operations) refl)

module _ (world : World) (session : ℕ) where
  -- the guards that more than one event begins with
  by_session : (tests : List (Option Fault)) → is_want (first_fault tests) ≡ false → is_want (first_fault (refusals.no_session world session ∷ tests)) ≡ false
  by_session tests others = guard (not (has_session world session)) faults.NoSession tests refl others

  by_held : (tests : List (Option Fault)) → is_want (first_fault tests) ≡ false → is_want (first_fault (refusals.no_session world session ∷ refusals.nothing_entered world session ∷ tests)) ≡ false
  by_held tests others = by_session _ (guard (not (is_held world session)) faults.NothingEntered tests refl others)

  by_turn : (number : ℕ) (tests : List (Option Fault)) → is_want (first_fault tests) ≡ false
      → is_want (first_fault (refusals.no_session world session ∷ refusals.session_closed world session ∷ refusals.not_due world session number ∷ refusals.session_busy world session ∷ tests)) ≡ false
  by_turn number tests others =
      by_session _ (guard (has_mark world session) faults.SessionClosed _ refl
      (guard (not (number == due world session)) faults.OutOfTurn _ refl
      (guard (is_held world session) faults.SessionBusy tests refl others)))

-- the guards that an entry ends with
by_room : (world : World) → is_want (first_fault (refusals.log_full world ∷ refusals.counter_exhausted world ∷ [])) ≡ false
by_room world = guard (nat_le MAX_LOG_ROWS (length world.log)) faults.LogFull _ refl (guard (nat_le MAX_COUNTER (world.counter + active_count world)) faults.CounterExhausted [] refl refl)

by_store : (world : World) → is_want (refusals.store_busy world) ≡ false
by_store world = by_test (list_any (λ row. is_active row.standing) world.log) faults.StoreBusy refl

by_request : (world : World) (busy : Option Fault) (session number start : ℕ) (writes : List Write) → is_want busy ≡ false → is_want (refusal_of_request world busy session number start writes) ≡ false
by_request world busy session number start writes other =
    by_turn world session number _ (first busy _ other
    (guard (nat_le MAX_NUMBER number) faults.NumbersExhausted _ refl
    (first (wrong_start world session number start) _ (by_start world session number start)
    (first (check_writes world.settings.schema writes) _ (by_writes world.settings.schema writes) (by_room world)))))

by_close : (world : World) (session number : ℕ) → is_want (refusal_of_close world session number) ≡ false
by_close world session number = by_turn world session number [] refl

by_alone : (world : World) (session number : ℕ) (operations : List Operation) → is_want (refusal_of_alone world session number operations) ≡ false
by_alone world session number operations =
    by_turn world session number _ (guard (has_phase world session number) faults.ReadOpen _ refl
    (first (refusals.store_busy world) _ (by_store world)
    (guard (nat_le MAX_NUMBER number) faults.NumbersExhausted _ refl
    (guard (nat_lt MAX_OPERATIONS (length operations)) faults.SetFull _ refl
    (first (check_operations world.settings.schema operations) _ (by_operations world.settings.schema operations) (by_room world))))))

by_read : (world : World) (session number start : ℕ) (question : Question) → is_want (refusal world (Read session number start question)) ≡ false
by_read world session number start question =
    by_session world session _ (guard (has_mark world session) faults.SessionClosed _ refl
    (guard (nat_lt number (due world session) || nat_lt (due world session + READ_AHEAD) number) faults.OutOfTurn _ refl
    (first (wrong_start world session number start) _ (by_start world session number start)
    (first (check_question world.settings.schema question) _ (by_question world.settings.schema question)
    (guard (nat_lt MAX_ANSWER_ROWS (answer_size (answer question world.table))) faults.RangeTooLarge _ refl
    (guard (nat_le MAX_QUESTIONS (length (reads_under world session number))) faults.SetFull [] refl refl))))))

pub refusal_other : (world : World) (event : Event) → is_want (refusal world event) ≡ false
refusal_other world (Read session number start question) = by_read world session number start question
refusal_other world (Forget session number) = by_test (not (has_session world session)) faults.NoSession refl
refusal_other world (Enter session (Request number start writes)) = by_request world None session number start writes refl
refusal_other world (Enter session (Alone number operations)) = by_alone world session number operations
refusal_other world (Enter session (Close number)) = by_close world session number
refusal_other world (Decide session) = by_held world session _ (guard (not (row_is_open world session)) faults.AlreadyDecided [] refl refl)
refusal_other world (WriteOne session) =
    by_held world session _ (guard (row_is_open world session) faults.NotDecided _ refl (guard (row_is_back world session) faults.AlreadyDecided [] refl refl))
refusal_other world (Finish session) =
    by_held world session _ (guard (row_is_open world session) faults.NotDecided _ refl
    (guard (row_is_back world session) faults.AlreadyDecided _ refl (guard (has_writes_left world session) faults.WritesLeft [] refl refl)))
refusal_other world (BackUp session) =
    by_held world session _ (guard (row_is_open world session) faults.NotDecided _ refl (guard (not (row_is_back world session)) faults.AlreadyDecided [] refl refl))
refusal_other world (SerialEnd session (Request number start writes)) = by_request world (refusals.store_busy world) session number start writes (by_store world)
refusal_other world (SerialEnd session (Alone number operations)) = by_alone world session number operations
refusal_other world (SerialEnd session (Close number)) = by_close world session number
refusal_other world (RunAlone session number operations) = by_alone world session number operations
refusal_other world Checkpoint = by_test (list_any (λ row. is_open row.standing) world.log) faults.StoreBusy refl

-- of a client

by_some : {X : Type 0} (o : Option X) (fault : Fault) → is_memory fault ≡ false → wants (ok_or o fault) ≡ false
by_some None fault other = other
by_some (Some x) fault other = refl

by_unless : {X : Type 0} (fault : Option Fault) (x : X) → is_want fault ≡ false → wants (unless fault x) ≡ false
by_unless None x other = refl
by_unless (Some fault) x other = other

by_both : {X Y : Type 0} (r : Result X Fault) (f : X → Result Y Fault) → wants r ≡ false → ((x : X) → wants (f x) ≡ false) → wants (and_then r f) ≡ false
by_both (Ok x) f first next = next x
by_both (Err fault) f first next = first

pub client_other : (clients : List Client) (session : ℕ) → wants (client_of clients session) ≡ false
client_other clients zero = refl
client_other clients (suc place) = by_some (slice_get clients place) faults.NoSession refl

pub copy_other : (client : Client) → wants (copy_of client) ≡ false
copy_other client = by_some client.copy faults.NoReadOpen refl

pub number_other : (client : Client) → wants (next_number client) ≡ false
number_other client = by_unless _ (next client.queue)
    (guard client.queue.closed faults.Closed _ refl
    (first (begin_fault client.copy (next client.queue)) []
    (guard (is_some client.copy) faults.ReadOpen _ refl (guard (nat_le MAX_NUMBER (next client.queue)) faults.NumbersExhausted [] refl refl))
    refl))

-- of its queue
by_queue : (queue : Numbered) (number : ℕ) → is_want (queues.refusal_of_request queue number) ≡ false
by_queue queue number =
    guard queue.closed faults.Closed _ refl
    (guard (nat_le MAX_NUMBER (next queue)) faults.NumbersExhausted _ refl
    (guard (not (number == next queue)) faults.OutOfTurn _ refl
    (guard (is_full queue) faults.QueueFull [] refl refl)))

pub submitted_other : (client : Client) → wants (submitted client) ≡ false
submitted_other client = by_both (unless (fault_if client.queue.closed faults.Closed) client) _ (by_unless _ client (by_test client.queue.closed faults.Closed refl))
    (λ c. by_both (copy_of c) _ (copy_other c) (λ copy. by_unless _ copy (by_queue client.queue copy.number)))

pub mark_other : (client : Client) → wants (mark_of client) ≡ false
mark_other client = by_unless _ (next client.queue)
    (first (close_fault client) _
    (guard client.queue.closed faults.Closed _ refl
    (guard (is_some client.copy) faults.ReadOpen _ refl
    (guard (nat_lt MAX_NUMBER (next client.queue)) faults.NumbersExhausted [] refl refl)))
    (guard (is_full client.queue) faults.QueueFull [] refl refl))

pub handed_in_other : (schema : Schema) (list : List Operation) (client : Client) → wants (handed_in schema list client) ≡ false
handed_in_other schema list client = by_both (unless (unfit schema list client) client) _
    (by_unless _ client
    (guard client.queue.closed faults.Closed _ refl
    (guard (is_some client.copy) faults.ReadOpen _ refl
    (guard (nat_le MAX_NUMBER (next client.queue)) faults.NumbersExhausted _ refl
    (guard (nat_lt MAX_OPERATIONS (length list)) faults.SetFull _ refl
    (first (check_operations schema list) [] (by_operations schema list) refl))))))
    (λ c. by_unless _ (next c.queue) (by_test (is_full c.queue) faults.QueueFull refl))

by_write : (schema : Schema) (object : Object) (row : Option Row) (copy : Option Copied) → is_want (write_fault schema object row copy) ≡ false
by_write schema object row None = refl
by_write schema object row (Some copy) =
    first (check_key schema object.0 object.1) _ (by_key schema object.0 object.1)
    (first (check_written schema object.0 row) _ (by_written schema object.0 row)
    (guard (is_full_for copy.writes object) faults.SetFull [] refl refl))

pub write_other : (schema : Schema) (object : Object) (row : Option Row) (client : Client) → wants (unless (write_fault schema object row client.copy) (written client.copy object row)) ≡ false
write_other schema object row client = by_unless _ (written client.copy object row) (by_write schema object row client.copy)
