-- The names that most proofs cite, passed on from one place. Declares nothing.
pub use Rattle.std.proofs.lemmas.Bool.{leb-false, leb-true, lt-ltb, ltb-false, ltb-true, ne_eqb}
pub use Rattle.std.proofs.lemmas.Grind.{common_steps, get_or-set_at, get_or_head, get_or_tail}
pub use Rattle.std.proofs.lemmas.List.{append-nil, drop-append-le, drop-drop, drop-map, drop_all, get_or-append-add, get_or-map, get_or-set_other, get_or_append_left, get_or_past, length-append, length-drop, length-map, length-set, map-append, map-set}
pub use Rattle.std.proofs.lemmas.List.Elements.{filter-append}
pub use Rattle.std.proofs.lemmas.List.Folds.{list_any-append}
pub use Rattle.std.proofs.lemmas.Option.{get_or_from_slice_get, same_Some, slice_get-map, slice_get_past, slice_get_read, slice_get_within}
pub use Rattle.std.specs.Cmp.{both_ways, nat_cmp_total, unsigned_tied}
pub use Rattle.std.specs.FinSet.{FinSet, nat_cmp-IsAntisymmetric}
pub use Rattle.std.specs.List.{list_any, prefix_len}
pub use Rattle.std.specs.Option.{option_copied, option_map}
pub use Rattle.std.specs.Ordering.{nat_cmp}
pub use Rattle.occ_model.proofs.Logs.{standing_at}
pub use Rattle.occ_model.proofs.Orders.{Counts-push, placed_at}
pub use Rattle.occ_model.proofs.Tests.{and_true, both_true, clash, decided}
pub use Rattle.occ_model.specs.Invariant.{ActiveAreHeld, NumberIsBelow, NumbersAreBelow, OneUnderWay}
pub use Rattle.occ_model.specs.Log.{Case, Counts, Done, LogRow, Standing, is_active, is_open, numbers}
pub use Rattle.occ_model.specs.State.{Write, meets_reads}
pub use Rattle.occ_model.specs.Step.{foldable_part}
pub use Rattle.occ_model.specs.Validity.{AreSame, active_opponents, finished_opponents, finished_within}
pub use Rattle.occ_model.specs.World.{latest, turn}
pub use Rattle.occ_sets.proofs.LookUps.{table-at}
pub use Rattle.occ_log.specs.Listing.{IsNew, Listed, all_listed, has_room, listed_at, listed_of, unlisted}
pub use Rattle.occ_log.specs.Logs.{AreListed, HaveNoGap, Kept, kept_of, places_of, rows_of}
unfoldable pub use Rattle.occ_log.specs.Logs.{row_at}
pub use Rattle.occ_log.specs.Rows.{log_of, log_row_of, slot_of, slots_of, standing_of}
pub use Rattle.occ_log.specs.SessionStates.{Hold, HoldsArePlaced, IsHeldAt, Slot, active_from, active_of, held_from, idle_slots, last_of}
pub use Rattle.std.proofs.lemmas.Bool.Decides.{nat_tests}
pub use Rattle.std.proofs.lemmas.Result.{on_ok_weaker}
pub use Rattle.occ_sets.specs.Sets.{ArePlaced}
