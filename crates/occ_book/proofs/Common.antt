-- The names that most proofs cite, passed on from one place. Declares nothing.
pub use Rattle.std.specs.Option.{option_copied_mut, option_eq, option_or}
pub use Rattle.std.specs.Ordering.{eq_by_cmp, on, ordering_reverse, ordering_then}
pub use Rattle.std.specs.Cmp.{Equal-is, eq_by_cmp_equiv, nat_cmp_is, nat_cmp_total, tied_itself, unsigned_Decides, unsigned_tied}
pub use Rattle.std.specs.List.{AllByRecursion, AllZip}
unfoldable pub use Rattle.std.specs.List.{IsDistinct}
unfoldable pub use Rattle.std.specs.List.Sorted.{IsStrictlySortedBy}
pub use Rattle.std.specs.Map.{keys_of, lookup}
pub use Rattle.std.specs.Map.Iter.{deref_pair}
pub use Rattle.std.specs.BTreeMap.{IsClone, IsOrdered}
pub use Rattle.std.specs.BTreeMap.Range.{entries_between, range_contains}
pub use Rattle.std.specs.FinMap.{FinMap, empty, entries, entries-from_sorted, find, from_entries, from_sorted, get, get-empty, get-entries, get-from_entries, get-from_sorted, get-insert, get-retain_keys, insert, is_sorted, len-entries, nat_cmp-IsAntisymmetric, retain_keys, same_map}
pub use Rattle.std.specs.FinMap.Entries.{below_all, is_sorted-where_key}
pub use Rattle.std.specs.declared.ops.Bound.{Bound}
pub use Rattle.std.proofs.lemmas.Bool.Decides.{Decides-and, Decides-eqb, nat_tests}
pub use Rattle.std.proofs.lemmas.List.{at_drop_all, drop_more, length-map, length-set, map-append, map-id}
pub use Rattle.std.proofs.lemmas.Option.{get_or_from_slice_get, slice_get_past, slice_get_read, slice_get_within}
pub use Rattle.std.proofs.lemmas.Result.{IfOk-weaker, on_err_weaker, on_ok_weaker}
pub use Rattle.std.proofs.lemmas.Map.Entries.{entries_from_clone, lookup-filter-keys}
pub use Rattle.std.proofs.lemmas.List.Kept.{IsStrictlySortedBy-filter}
pub use Rattle.std.proofs.lemmas.Map.Views.{Contains-from_lookup, lookup-from_Contains}
pub use Rattle.std.proofs.lemmas.Map.Keys.{IsDistinct-from_sorted, sorted_head, sorted_tail}
pub use Rattle.std.proofs.lemmas.Iterator.{YieldsList, YieldsList-from_map_by, YieldsList-from_slice}
pub use Rattle.std.proofs.lemmas.Iterator.Consumers.{YieldsList-at, YieldsList-end, YieldsList-from_rest, YieldsList-turn, count_from_yields_List}
pub use Rattle.occ_types.specs.Key.{Key, Num, Pair, Text as KeyText, key_cmp, key_cmp-IsAntisymmetric, key_cmp_total}
pub use Rattle.occ_types.specs.Object.{Object, object_cmp, object_cmp-IsAntisymmetric, object_cmp_total}
pub use Rattle.occ_types.specs.Question.{InRange, One, Question, Span}
unfoldable pub use Rattle.occ_types.specs.Question.{asks}
pub use Rattle.occ_types.specs.Row.{Row}
pub use Rattle.occ_types.specs.Same.{key_same, key_same-decides, key_same_equiv, row_same, row_same-decides}
pub use Rattle.occ_types.specs.PlainData.{end_of, key_of, object_of, question_of}
pub use Rattle.occ_types.proofs.Asked.{asks-One, asks-Span, object_tied}
pub use Rattle.occ_types.proofs.Walks.{drop_at}
pub use Rattle.occ_sets.specs.PlainSets.{answer_of, observations_of, rows_of}
pub use Rattle.occ_sets.specs.LogRows.{IsRowCopy, IsStandingCopy, log_of, log_row_of, standing_of}
pub use Rattle.occ_sets.specs.Sets.{ArePlaced, WritesOnce, objects}
pub use Rattle.occ_sets.proofs.Agreement.{answer_of_entries, drop-slice_get}
pub use Rattle.occ_model.specs.State.{Answer, Found, Rows, State, Write, answer_size, apply, meets_question, target}
unfoldable pub use Rattle.occ_model.specs.State.{answer, put}
pub use Rattle.occ_model.specs.Log.{AreAnswers, Audited, Base, Case, Counts, Explained, LogRow, after, is_committed, last_folded, numbers, remaining, rest, serial, settled}
pub use Rattle.occ_model.specs.Overlay.{own, set}
pub use Rattle.occ_model.specs.RangeLaws.{IsDistinctWrites}
pub use Rattle.occ_model.proofs.States.{apply-put, get-put, same, same_object, same_state}
pub use Rattle.occ_model.proofs.Tests.{clash, decided, not_false}
pub use Rattle.occ_model.proofs.RangeAnswers.{answers_range}
pub use Rattle.occ_book.specs.Content.{Content, IsPut, content_of, entries_within, is_backward, is_within, lower_bound, placed, placed_from, seen, upper_bound}
unfoldable pub use Rattle.occ_book.specs.Content.{state_of}
pub use Rattle.occ_book.specs.Undo.{KeepsReplaced, Replaced, deletions, if_deletion, if_put, kept_write, kept_writes, puts}
pub use Rattle.occ_book.specs.LastWrites.{writes_in}
pub use Rattle.occ_book.specs.Base.{AllFitIn, BaseContent, base_content, commits, committed_writes, numbered, written}
pub use Rattle.occ_book.specs.Marks.{Marked, mark_at, marked_of, marks_from, marks_listed}
unfoldable pub use Rattle.occ_book.specs.Marks.{marks_of}
