-- The names that most proofs cite, passed on from one place. Declares nothing.
pub use Rattle.std.proofs.lemmas.Option.{MatchOption-at_none, MatchOption-at_some}
pub use Rattle.occ_book.proofs.Common.{AllByRecursion, AllZip, Answer, AreAnswers, Audited, Base, Bound, Case, Counts, Decides-and, Decides-eqb, Explained, FinMap, Found, IsDistinctWrites, Key, LogRow, Object, One, Question, Row, Rows, Span, State, Write, YieldsList, YieldsList-at, YieldsList-end, YieldsList-from_map_by, YieldsList-from_rest, YieldsList-from_slice, YieldsList-turn, after, answer_of, answers_range, apply, at_drop_all, clash, decided, deref_pair, drop_at, empty, end_of, entries_between, eq_by_cmp_equiv, find, get, get-empty, get-entries, get-insert, get-put, get-retain_keys, is_committed, key_cmp, key_cmp_total, key_of, key_same, key_same-decides, keys_of, last_folded, length-map, lookup, map-id, nat_cmp_total, nat_tests, not_false, on_ok_weaker, numbers, object_cmp, object_cmp-IsAntisymmetric, object_cmp_total, object_of, object_tied, observations_of, on, option_copied_mut, option_eq, option_or, own, question_of, remaining, rest, row_same, row_same-decides, rows_of, same, same_object, same_state, serial, settled, sorted_head, sorted_tail, tied_itself, unsigned_Decides, unsigned_tied}
unfoldable pub use Rattle.occ_book.proofs.Common.{IsStrictlySortedBy, answer, put}
pub use Rattle.occ_book.proofs.TableEntries.{all_within, answer-backward, answer-nowhere, answer-within, code_of, kept-filtered, row-answered, row_at-plain}
pub use Rattle.occ_book.proofs.LastNotes.{AreInOrder, distinct-writes_in, get-own, over, write-more}
pub use Rattle.occ_book.proofs.Parted.{left-none}
pub use Rattle.occ_book.specs.Content.{entries_within, is_backward, is_within, lower_bound, seen, upper_bound}
pub use Rattle.occ_book.specs.LastWrites.{writes_in}
pub use Rattle.occ_audit.specs.Order.{AreClosed, AreLast, AreNumbered, ArePlaced, last_of}
pub use Rattle.occ_book.specs.Table.{row_under, rows_within}
pub use Rattle.occ_audit.specs.Replica.{IsPlaced, IsTaken, SameTable, with_table}
unfoldable pub use Rattle.occ_audit.specs.Replica.{state_of}
pub use Rattle.occ_audit.specs.Rows.{log_of, log_row_of, unasked}
pub use Rattle.occ_audit.proofs.Walks.{Iff, along, at_next, next_left, of_cond, via}
