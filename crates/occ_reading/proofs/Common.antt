-- The names that most proofs cite, passed on from one place. Declares nothing.
pub use Rattle.std.proofs.KnownBytes.{Appends-trans, Consumes-trans, Keeps-refl}
pub use Rattle.std.proofs.Math.Nat.{min-eq_left}
pub use Rattle.std.proofs.lemmas.Bool.{eqb-true, lt-ltb, ltb-false, ne_eqb}
pub use Rattle.std.proofs.lemmas.Bool.Decides.{nat_tests}
pub use Rattle.std.proofs.lemmas.List.{append-nil, append_assoc, length-map, map-append, nil_from_length}
pub use Rattle.std.proofs.lemmas.List.Elements.{All-cons, All-head, All-nil, All-tail}
pub use Rattle.std.proofs.lemmas.Slice.Eq.{bytes_eq-Decides}
pub use Rattle.std.specs.Bool.{Decides}
pub use Rattle.std.specs.Cmp.{IsTotalOrder, eq_by_cmp_equiv, nat_cmp_is, nat_cmp_total, tied_itself}
pub use Rattle.std.specs.Cmp.Lexicographic.{pointwise}
pub use Rattle.std.specs.FinMap.{FinMap, IsAntisymmetric, empty, entries, entries-insert, entries_sorted, find, get, get-entries, insert, is_sorted, len, len-empty, len-entries, nat_cmp-IsAntisymmetric, put}
pub use Rattle.std.specs.FinMap.Entries.{below_all, by_order}
pub use Rattle.std.specs.Fmt.{decimal}
pub use Rattle.std.specs.Io.KnownBytes.{Appends, Consumes, IsAtEnd, prepend_known}
pub use Rattle.std.specs.List.{All, AllByRecursion, flat_map, list_any, position, position_or_len}
pub use Rattle.std.specs.Ordering.{eq_by_cmp, is_eq, is_lt, nat_cmp, ordering_reverse}
pub use Rattle.std.specs.Prelude.{IfErr, IfOk, IfSome, IsTrue, codes, cond, filter, is_some, nat_eq, nat_le, nat_lt, option_and_then, option_map, slice_get, unwrap_or, ◌==◌, ◌↔◌}
pub use Rattle.std.specs.Result.{IsErrAnd}
pub use Rattle.std.specs.Str.{bytes_eq}
pub use Rattle.std.specs.declared.cmp.Ordering.{Ordering}
pub use Rattle.std.specs.declared.cmp.Ordering.TheVariants.{Equal, Greater, Less}
pub use Rattle.occ_types.specs.Key.{Key, key_cmp}
pub use Rattle.occ_types.specs.Object.{Object, object_cmp, object_cmp-IsAntisymmetric, object_cmp_total}
pub use Rattle.occ_types.specs.PlainData.{key_of, object_of, question_of, table_asked, table_of, tables_of}
pub use Rattle.occ_types.specs.Question.{One, Question, Span}
pub use Rattle.occ_types.specs.Row.{Cell, Row}
pub use Rattle.occ_types.specs.Schema.{Schema, Table, are_tables, cell_is_too_long, check_cell, check_cells, check_end, check_key, check_key_in, check_question, check_row, check_row_in, check_tables, fault_if, first_fault, in_table, is_name, part_is_too_long}
pub use Rattle.occ_types.specs.declared.fault.Fault.{Fault}
pub use Rattle.occ_types.specs.declared.fault.Fault.TheVariants.{NoTable, TooLong, WrongColumns, WrongKind}
pub use Rattle.occ_types.specs.declared.kind.Kind.{Kind}
pub use Rattle.occ_model.specs.Content.{IsInSchema, QuestionFits, ReadIs, RowIs, StateIs, WriteIs}
pub use Rattle.occ_model.specs.Log.{Audited, Back, Base, Counts, Done, LogRow, Open, Standing, Writing, last_folded, numbers}
pub use Rattle.occ_model.specs.Overlay.{own, set}
pub use Rattle.occ_model.specs.RangeLaws.{IsDistinctWrites, IsRangeAnswer}
pub use Rattle.occ_model.specs.State.{Answer, Found, Observation, Rows, State, Write}
unfoldable pub use Rattle.occ_model.specs.State.{answer}
pub use Rattle.occ_model.specs.World.{World, active_count, empty_base}
pub use Rattle.occ_model.specs.declared.verdict.Cause.TheVariants.{Conflict, TooOld}
pub use Rattle.occ_sets.specs.PlainSets.{observation_of, rows_of}
pub use Rattle.occ_book.specs.Base.{BaseContent}
pub use Rattle.occ_book.specs.Content.{Content}
pub use Rattle.occ_book.specs.Marks.{Marked}
pub use Rattle.occ_text.proofs.Causes.{caused}
pub use Rattle.occ_text.proofs.Escapes.{bind_value, escape_spelling, map_value, plain_spelling, some_is}
pub use Rattle.occ_text.proofs.Fields.{IsField, after_word, alone_spelled, alone_takes, behind_spelled, behind_takes, both_fields, decimal_width, field_is_line, field_reads, fitting_field, joined_width, lettered_field, line_of_words, next-takes, number_field, one_and_other, shaped_field, tested_field, token_field, width, within, words_field, words_have_no_feed}
pub use Rattle.occ_text.proofs.HeaderLines.{count_field, count_reads, same_version, table_reads}
pub use Rattle.occ_text.proofs.Numbers.{some_or_none}
pub use Rattle.occ_text.proofs.Readers.{name_again, takes, word_is}
pub use Rattle.occ_text.proofs.SchemaLines.{IsSchema-from_check, check-from_IsSchema, each_fits}
pub use Rattle.occ_text.proofs.Spelled.{IsToken-end, IsToken-key, IsToken-name, IsToken-row, negsuc_small, pos_small}
pub use Rattle.occ_text.proofs.Taking.{NoneTaken-narrower, ShownLine, line_found}
pub use Rattle.occ_text.proofs.TokenLists.{two_tokens}
pub use Rattle.occ_text.proofs.Values.{again_by, end_reads, found_by, key_reads, row_reads}
pub use Rattle.occ_text.proofs.Words.{IsToken-from_test, name_reads, tokens_takes}
pub use Rattle.occ_text.specs.Escapes.{Gives, read_end}
unfoldable pub use Rattle.occ_text.specs.Escapes.{read_cell, read_row}
pub use Rattle.occ_text.specs.Faults.{read_fault, read_trouble, told, widened, write_trouble}
pub use Rattle.occ_text.specs.Fields.{Field, Tokens, both, line_of, number, ◌⊗◌}
pub use Rattle.occ_text.specs.HeaderReading.{count_of_line, table_of_tokens}
unfoldable pub use Rattle.occ_text.specs.HeaderReading.{table_of_line}
pub use Rattle.occ_text.specs.HeaderTaking.{BeginsLimits, LimitsTaken, TablesSoFar, table_behind}
pub use Rattle.occ_text.specs.Headers.{Header, HeaderFits, KindFits, KindsFit, LimitsFit, TableFits, TableHasLine, Within, count_text, key_kind_word, kind_word, limits_lines, limits_of, part_kind_word, table_text, table_tokens, version_text}
pub use Rattle.occ_text.specs.Languages.{Ended, EndsFrom, FailsFrom, Grammar, Language, LeadOn, Leads, LeadsOn, Position, Stopped, TakesFrom, Took, Torn, Uncounted, Unended, counts_of, lines_of, point, position_of, start}
pub use Rattle.occ_text.specs.Line.{AtEnd, BeginsNoLine, CannotStand, HasFailed, HasNoFeed, IsLine, IsSpelled, LineGives, NoLine, NoneTaken, OtherLine, Source, Taken, lines_text}
pub use Rattle.occ_text.specs.Reading.{Reads, name_of, tokens_of}
unfoldable pub use Rattle.occ_text.specs.Reading.{decimal_of, int_of, is_decimal, is_token, number_of}
pub use Rattle.occ_text.specs.Sending.{Outgoing, PushGives, Sends}
pub use Rattle.occ_text.specs.TableTaking.{Behind, OneTable, TablesTold}
pub use Rattle.occ_types.specs.Spelling.{cell_text, escaped, escaped_byte, is_plain, key_text, part_text, row_text}
pub use Rattle.occ_text.specs.Spelling.{CellFits, EndFits, IsName, IsToken, KeyFits, PartFits, RowFits, end_text, line_text}
pub use Rattle.occ_text.specs.declared.faults.LineFault.{LineFault}
pub use Rattle.occ_text.specs.declared.faults.ReadFault.{ReadFault}
pub use Rattle.occ_text.specs.declared.faults.ReadFault.TheVariants.{Malformed, Memory}
pub use Rattle.occ_text.specs.declared.headers.Limits.{Limits}
pub use Rattle.occ_text.specs.declared.tokens.Unread.{Unread}
pub use Rattle.occ_text.specs.declared.trouble.Trouble.{Trouble}
pub use Rattle.occ_text.specs.declared.versions.Version.{Version}
pub use Rattle.occ_print.specs.Books.{Book, audit_line, base_line, base_lines, book_lines, book_text, entry_line, entry_word, folded_lines, header_lines, log_lines, mark_lines, number_line, number_word, pair_line, question_text, read_lines, row_count, row_line, row_lines, standing_text, state_lines, table_name, write_line}
pub use Rattle.occ_print.specs.declared.sections.Section.{Section}
pub use Rattle.occ_text.proofs.LinesTaken.{Gathered, Path, along, count_more, ended, failed, fails, gathered_all, gathered_fails, gathered_more, gathered_none, led_apart, line_refused, next_fails, next_taken, none, none_fails, on, part_failed, single_lines, spelled, stay, stopped_here, torn_here, uncounted_here, viewed_more, ◌and◌}
pub use Rattle.occ_reading.specs.Cores.{HasWords, IsHeaderOf, IsToldBase, ReadHasWords, RowHasWords, WriteHasWords, book_in}
pub use Rattle.occ_reading.specs.NumberLines.{BaseHeadFits, BeganFits, CountsFit, HeadFits, IsSession, MarkFits, Stand, StandFits, base_head_line, base_text, began_of_line, began_text, began_unless, counts_line, counts_text, head_from, head_line, head_parts, head_text, mark_line, mark_text, number64, number_as, session, stand, stand_tokens}
unfoldable pub use Rattle.occ_reading.specs.NumberLines.{base_of_line, counts_of_line, head_of_line, mark_of_line, next_session, next_stand}
pub use Rattle.occ_reading.specs.Places.{Audit, Counter, End, EntryOf, Frame, InRow, IsAbove, Keep, Log, Marks, MayEnd, NumberOf, PairOf, Place, Queue, ReadOf, Sessions, Tables, WriteOf, behind_began, behind_entries, behind_numbers, behind_read, books, entries_to_come, frame_of, framed, grammar, in_row, last_key, numbers_to_come, pairs_to_come, reads_to_come, rows_to_come, writes_to_come}
pub use Rattle.occ_reading.specs.PlainRows.{log_of, log_row_of, without_case}
pub use Rattle.occ_reading.specs.RowLines.{Asked, AskedFits, AskedOne, AskedSpan, AtFits, FoundFits, ObjectFits, PairFits, RowFitsIn, SpanFits, WriteFits, asked_line, asked_of, asked_text, asked_tokens, at_field, at_of, ends_field, found_field, found_text, key_field, object_field, pair_field, pair_of, row_field, table_field, write_field, write_of, write_tokens}
unfoldable pub use Rattle.occ_reading.specs.RowLines.{asked_of_line, at_of_line, found_in, next_asked, next_ends, next_found, next_write, pair_of_line, write_of_line}
pub use Rattle.occ_reading.specs.SchemaReaders.{unless_fault}
unfoldable pub use Rattle.occ_reading.specs.SchemaReaders.{key_in, next_key, next_object, next_row, next_table, place_of, row_in}
pub use Rattle.occ_reading.specs.Taking.{AllFit, IsBaseOf, IsRowOf, LogRowFits, ReadFits, RisesFrom, StandingFits, StandsSo, but_first, front_lines, is_behind}
pub use Rattle.occ_reading.specs.WholeBooks.{AuditGives, BaseFits, BookFits, EntryFits, IsBookText, IsEnding, Judged, VerdictFront, VerdictGives, printed_book, verdict_text}
pub use Rattle.occ_reading.specs.declared.number_lines.BaseHead.{BaseHead}
pub use Rattle.occ_reading.specs.declared.number_lines.Began.{Began}
pub use Rattle.occ_reading.specs.declared.number_lines.Head.{Head}
pub use Rattle.occ_reading.specs.declared.number_lines.Mark.{Mark}
