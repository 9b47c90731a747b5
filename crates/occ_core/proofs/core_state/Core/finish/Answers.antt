use Rattle.std.proofs.Common.{ap, sym, subst, ◌∙◌, ◌-◌, length, Some, is_some, option_map}
use Rattle.std.proofs.lemmas.Result.{err_from_is_err_and}
use Rattle.occ_core.specs.Core.{parts_of}
use Rattle.occ_log.specs.SessionStates.{HoldsArePlaced, last_of, finish_fault}
use Rattle.occ_log.specs.Rows.{log_row_of, standing_of, hold_of}
use Rattle.occ_core.proofs.Calls.{slot_below}
use Rattle.occ_log.proofs.Changes.{placed-free}
use Rattle.occ_log.proofs.Places.{length-set}
use Rattle.occ_core.proofs.Staying.{base_kept}
use Rattle.occ_core.proofs.Finishes.{finish_exit, finish_kept, finish_whole}
use Rattle.occ_core.proofs.Placed.{fault_in, in_log, stood_in}
use Rattle.occ_core.proofs.Tallies.{counted_over, can_count, uncounted}
use Rattle.occ_model.specs.Event.{Finished}
use Rattle.occ_core.specs.CoreParts.{world_of}
use Rattle.occ_core.specs.Totals.{with_commit}
use Rattle.occ_core.proofs.core_state.Core.finish.Goals as goal

pub returns-in_err-place-clause-step : goal.returns-in_err-place-clause-step
returns-in_err-place-clause-step g c =
    let p = err_from_is_err_and c.from_residual.result c.from_residual.ensures.1 in
    finish_exit (parts_of c.self.inside) c.args.self.now.world (ap (λ s. s.world) c.self.view_is) c.self.invariant.sound c.args.session c.from_residual.result p.0 p.1 (fault_in c.self.inside.log c.self.inside.sessions c.args.session c.self.invariant.log_match.begins c.in_err-place.ensures.err ∙ ap Some (sym p.2))

pub returns-in-Some-clause-step : goal.returns-in-Some-clause-step
returns-in-Some-clause-step g c =
    finish_kept (parts_of c.self.inside) c.args.self.now.world (ap (λ s. s.world) c.self.view_is) c.self.invariant.sound c.args.session c.in_ok-place.place (log_row_of c.in_ok-place.row.now) c.in-Some.fault c.in_ok-place.ensures.place (in_log c.self.inside.log c.in_ok-place.place (log_row_of c.in_ok-place.row.now) c.self.invariant.log_match.begins c.in_ok-place.ensures.row)
    (sym (c.in-Some.ensures ∙ ap (finish_fault (standing_of c.in_ok-place.row.now.standing)) c.len.ensures.value))

pub release-requires : goal.release-requires
release-requires g c = slot_below (parts_of c.self.inside) c.args.session c.in_ok-place.place c.self.invariant.sound c.in_ok-place.ensures.place

pub stand-requires : goal.stand-requires
stand-requires g c = ap is_some c.in_ok-place.ensures.row

pub invariant_of-self : goal.invariant_of-self
invariant_of-self g c =
    let whole = finish_whole (parts_of c.self.inside) c.args.self.now.world (ap (λ s. s.world) c.self.view_is) c.self.invariant.sound c.args.session c.in_ok-place.place (log_row_of c.in_ok-place.row.now)
    c.in_ok-place.ensures.place (in_log c.self.inside.log c.in_ok-place.place (log_row_of c.in_ok-place.row.now) c.self.invariant.log_match.begins c.in_ok-place.ensures.row) (sym (c.in_default.ensures ∙ ap (finish_fault (standing_of c.in_ok-place.row.now.standing)) c.len.ensures.value))
    (hold_of c.unwrap-held.result) (c.release.ensures.held ∙ ap (λ h. Some (record { last = last_of c.self.inside.sessions (c.args.session - 1); hold = option_map hold_of h })) c.unwrap-held.ensures) c.release.new.self c.release.ensures.released c.stand.new.self.rows (stood_in c.self.inside.log c.in_ok-place.place _ c.stand.new.self.rows c.self.invariant.log_match.begins (c.stand.ensures.rows (log_row_of c.in_ok-place.row.now) c.in_ok-place.ensures.row)) c.advance.new.self c.advance.ensures in
    record {
      sound = whole.1;
      tables_match = c.self.invariant.tables_match;
      marks_match = c.self.invariant.marks_match ∙ sym (ap length c.release.ensures.released ∙ length-set c.self.inside.sessions (c.args.session - 1) _);
      log_match = record { begins = c.stand.ensures.first ∙ c.self.invariant.log_match.begins; knows = c.stand.ensures.sessions ∙ c.self.invariant.log_match.knows ∙ sym (ap length c.release.ensures.released ∙ length-set c.self.inside.sessions (c.args.session - 1) _) };
      base_match = base_kept c.self.inside.base (length c.self.inside.schema) c.self.inside.sessions c.release.new.self _ _ c.release.ensures.released c.self.invariant.base_match;
      placed = subst (HoldsArePlaced c.self.inside.tables.tables) (sym c.release.ensures.released) (placed-free c.self.inside.tables.tables c.self.inside.sessions (c.args.session - 1) (last_of c.self.inside.sessions (c.args.session - 1)) c.self.invariant.placed);
      counted = counted_over c.self.inside.totals c.count_commit.new.self (world_of (parts_of c.self.inside)) c.args.self.now.world _ _ _ (ap (λ s. s.world) c.self.view_is)
          whole.0
          c.count_commit.ensures c.self.invariant.counted;
    }

pub returns-clause-step : goal.returns-clause-step
returns-clause-step g c =
    (finish_whole (parts_of c.self.inside) c.args.self.now.world (ap (λ s. s.world) c.self.view_is) c.self.invariant.sound c.args.session c.in_ok-place.place (log_row_of c.in_ok-place.row.now)
    c.in_ok-place.ensures.place (in_log c.self.inside.log c.in_ok-place.place (log_row_of c.in_ok-place.row.now) c.self.invariant.log_match.begins c.in_ok-place.ensures.row) (sym (c.in_default.ensures ∙ ap (finish_fault (standing_of c.in_ok-place.row.now.standing)) c.len.ensures.value))
    (hold_of c.unwrap-held.result) (c.release.ensures.held ∙ ap (λ h. Some (record { last = last_of c.self.inside.sessions (c.args.session - 1); hold = option_map hold_of h })) c.unwrap-held.ensures) c.release.new.self c.release.ensures.released c.stand.new.self.rows (stood_in c.self.inside.log c.in_ok-place.place _ c.stand.new.self.rows c.self.invariant.log_match.begins (c.stand.ensures.rows (log_row_of c.in_ok-place.row.now) c.in_ok-place.ensures.row)) c.advance.new.self c.advance.ensures).0

pub returns-in_err-place-clause-totals : goal.returns-in_err-place-clause-totals
returns-in_err-place-clause-totals g c =
    let p = err_from_is_err_and c.from_residual.result c.from_residual.ensures.1 in
    uncounted Finished _ c.from_residual.result p.0 p.1

pub count_commit-requires : goal.count_commit-requires
count_commit-requires g c = can_count (parts_of c.self.inside) c.self.inside.totals c.self.invariant.sound c.self.invariant.counted

pub returns-clause-totals : goal.returns-clause-totals
returns-clause-totals g c = c.count_commit.ensures ∙ ap (λ s. with_commit s.totals) c.self.view_is
