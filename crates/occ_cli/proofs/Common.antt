-- The names that most proofs cite, passed on from one place. Declares nothing.
pub use Rattle.std.proofs.KnownBytes.{Appends-kept, Appends-nil, Appends-trans, Consumes-nil, Consumes-trans, prepend_known-nil}
pub use Rattle.std.proofs.lemmas.Bool.{eq-eqb, le-ltb, lt-leb, lt-ltb}
pub use Rattle.std.proofs.lemmas.List.{append-nil, length-map, length_push, map-append, set-get_or, take_more}
pub use Rattle.std.proofs.lemmas.Result.{err_from_is_err_and}
pub use Rattle.std.specs.Io.KnownBytes.{Appends, Consumes, IsAtEnd, Keeps, prepend_known}
pub use Rattle.std.specs.List.{list_any}
pub use Rattle.std.specs.Result.{result_err}
pub use Rattle.occ_types.specs.Key.{Key}
pub use Rattle.occ_types.specs.Question.{One, Question, Span}
pub use Rattle.occ_types.specs.Row.{Row}
pub use Rattle.occ_types.specs.Schema.{Schema, Table, cell_has_kind, cell_is_too_long, check_cell, check_cells, check_end, check_key, check_key_in, check_question, check_row, check_row_in, fault_if, first_fault, in_table, is_empty_range, key_has_kind, key_is_too_long}
pub use Rattle.occ_types.specs.PlainData.{end_of, key_of, question_of}
pub use Rattle.occ_types.specs.declared.fault.Fault.{Fault}
pub use Rattle.occ_types.specs.declared.limits.TheConstants.{MAX_ANSWER_ROWS, MAX_COUNTER, MAX_LOG_ROWS, MAX_NUMBER, MAX_OPERATIONS, MAX_QUESTIONS, READ_AHEAD}
pub use Rattle.occ_model.specs.Event.{Alone, Answered, BackUp, Checkpoint, Close, Decide, Enter, Event, Finish, Forget, Item, NoMore, Read, Refused, Reply, Request, RunAlone, SerialEnd, WriteOne, Wrote}
pub use Rattle.occ_model.specs.Log.{Audited, Base, LogRow, Writing, is_active, is_open, rest}
pub use Rattle.occ_model.specs.Operations.{Add, Delete, Get, Operation, Put, Scan}
pub use Rattle.occ_model.specs.Overlay.{overlay, own}
pub use Rattle.occ_model.specs.Refusal.{check_number, check_operation, check_operations, check_writes, has_writes_left, numbers_exhausted, puts_next, refusal, refusal_of_alone, refusal_of_close, refusal_of_request, row_is_back, row_is_open, takes_memory, wrong_start}
pub use Rattle.occ_model.specs.State.{State, Write, answer_size}
unfoldable pub use Rattle.occ_model.specs.State.{answer, put}
pub use Rattle.occ_model.specs.Step.{EndsSerially, Step, Taken, starved, taken, validity_of}
pub use Rattle.occ_model.specs.World.{ReadPhase, Settings, World, active_count, due, has_mark, has_phase, has_session, is_held, latest, low, reads_under, turn}
pub use Rattle.occ_sets.specs.Operations.{op_of, ops_of}
pub use Rattle.occ_sets.specs.Sets.{Copied, is_full_for}
pub use Rattle.occ_queue.specs.Items.{item_of}
pub use Rattle.occ_queue.specs.Numbering.{Numbered, is_full, next, refusal_of_submit, with_item}
pub use Rattle.occ_text.specs.Line.{HasFailed, IsLine, LineGives, NoneTaken, Source, lines_text}
pub use Rattle.occ_text.specs.Operations.{operation_of}
pub use Rattle.occ_text.specs.Printing.{PrintGives, Pushed, PushedFront}
pub use Rattle.occ_text.specs.Sending.{Outgoing, PushGives, Sends}
pub use Rattle.occ_text.specs.Steps.{StepFits, step_of, step_text}
pub use Rattle.occ_text.specs.declared.faults.WriteFault.{WriteFault}
pub use Rattle.occ_print.proofs.Printing.{Pushed-nothing, Pushed-then, front_before, front_behind, front_none, front_then, lines_text-append, lines_then, printed_nothing}
pub use Rattle.occ_cli.specs.Answers.{answer_text, answer_token, pair_text}
pub use Rattle.occ_cli.specs.Replaying.{Abandons, AtMostOneStep, Begins, ByAsking, ByBoth, ByClient, ByStore, Client, Closes, CopyWantsGet, Enters, Gets, Given, HandsIn, IsUnlisted, Played, PlayedIn, Plays, PutOff, Replayed, Scans, Starved, StarvesItem, Submits, Tells, Told, Wants, WantsGet, WantsList, WantsScan, WantsWrite, Writes, and_then, client_of, copy_of, fresh, handed_in, kept_after, mark_of, next_item, next_number, object_named, operation_named, operations_named, place_named, played, span_named, still_waiting, submitted, unfit, unless}
pub use Rattle.occ_open.specs.Transactions.{IsRefusedBy, OrStarves, WantsOwn, WantsRange, WantsRoom, begin_fault, check_written, copy_fault, open_after, overlaid, write_fault, written}
pub use Rattle.occ_cli.specs.Schedules.{Answers, AppendsFront, CutAmid, CutAtEnd, IsAudited, IsCutShort, IsMalformedAt, IsReplayed, IsUnreadable, PlaysAll, ReplayGives, Schedule, Turn, answer_lines, book_after, book_at, closing_lines, opened_by, place_behind, replay_lines, schedule_lines, step_lines}
pub use Rattle.occ_cli.specs.Turns.{AnswerGives, AreHalfSaid, AreTurns, AuditGives, ClosingGives, IsHalfTurn, IsNoStep, IsNoTurn, IsTurn, LineOfNoStep, NoLineThere, TurnGives, TurnsGive, is_cut_short}
