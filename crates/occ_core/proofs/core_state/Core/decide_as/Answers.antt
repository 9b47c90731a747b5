use Rattle.std.proofs.Common.{ap, sym, ◌∙◌, ◌-◌, Some, is_some, slice_set}
use Rattle.std.proofs.lemmas.Result.{err_from_is_err_and}
use Rattle.occ_core.specs.Core.{parts_of}
use Rattle.occ_log.specs.Rows.{log_row_of, standing_of}
use Rattle.occ_core.proofs.Calls.{decide_exit, decide_exit_late, decide_whole}
use Rattle.occ_log.proofs.Changes.{not_open}
use Rattle.occ_core.proofs.OpenCases.{right_for}
use Rattle.occ_core.proofs.Placed.{fault_in, in_log, stood_in}
use Rattle.occ_core.proofs.Tallies.{counted_over, can_count, uncounted}
use Rattle.occ_model.specs.Event.{Decided}
use Rattle.occ_core.specs.CoreParts.{world_of}
use Rattle.occ_core.specs.Totals.{with_verdict}
use Rattle.occ_core.proofs.core_state.Core.decide_as.Goals as goal

pub returns-in_err-place-clause-step : goal.returns-in_err-place-clause-step
returns-in_err-place-clause-step g c =
    let p = err_from_is_err_and c.from_residual.result c.from_residual.ensures.1 in
    decide_exit (parts_of c.self.inside) c.args.self.now.world (ap (λ s. s.world) c.self.view_is) c.self.invariant.sound c.args.session c.from_residual.result p.0 p.1 (fault_in c.self.inside.log c.self.inside.sessions c.args.session c.self.invariant.log_match.begins c.in_err-place.ensures.err ∙ ap Some (sym p.2))

pub returns-in_default-clause-step : goal.returns-in_default-clause-step
returns-in_default-clause-step g c =
    decide_exit_late (parts_of c.self.inside) c.args.self.now.world (ap (λ s. s.world) c.self.view_is) c.self.invariant.sound c.args.session c.in_ok-place.place (log_row_of c.in_ok-place.row.now) c.in_ok-place.ensures.place (in_log c.self.inside.log c.in_ok-place.place (log_row_of c.in_ok-place.row.now) c.self.invariant.log_match.begins c.in_ok-place.ensures.row) (not_open c.in_ok-place.row.now.standing c.in_default.not-Open)

pub stand-requires : goal.stand-requires
stand-requires g c = ap is_some c.in_ok-place.ensures.row

pub invariant_of-self : goal.invariant_of-self
invariant_of-self g c =
    let whole = decide_whole (parts_of c.self.inside) c.args.self.now.world (ap (λ s. s.world) c.self.view_is) c.self.invariant.sound c.args.session c.in_ok-place.place (log_row_of c.in_ok-place.row.now) c.in-Open._open.0 c.in-Open._open.1
    c.in_ok-place.ensures.place (in_log c.self.inside.log c.in_ok-place.place (log_row_of c.in_ok-place.row.now) c.self.invariant.log_match.begins c.in_ok-place.ensures.row) (ap standing_of c.in-Open.is) c.args.reached (right_for (parts_of c.self.inside) c.args.self.now.world (ap (λ s. s.world) c.self.view_is) c.self.invariant.sound c.args.session c.in_ok-place.place (log_row_of c.in_ok-place.row.now) c.in-Open._open.0 c.in-Open._open.1 c.in_ok-place.ensures.place (in_log c.self.inside.log c.in_ok-place.place (log_row_of c.in_ok-place.row.now) c.self.invariant.log_match.begins c.in_ok-place.ensures.row) (ap standing_of c.in-Open.is) c.args.reached c.requires.right) c.stand.new.self.rows
    (stood_in c.self.inside.log c.in_ok-place.place _ c.stand.new.self.rows c.self.invariant.log_match.begins (c.stand.ensures.rows (log_row_of c.in_ok-place.row.now) c.in_ok-place.ensures.row) ∙ ap (λ s. slice_set c.self.inside.log.rows (c.in_ok-place.place - c.self.inside.base.base.place) (record (log_row_of c.in_ok-place.row.now) { standing = s })) c.decided.ensures) in
    record {
      sound = whole.1;
      tables_match = c.self.invariant.tables_match;
      marks_match = c.self.invariant.marks_match;
      log_match = record { begins = c.stand.ensures.first ∙ c.self.invariant.log_match.begins; knows = c.stand.ensures.sessions ∙ c.self.invariant.log_match.knows };
      base_match = c.self.invariant.base_match;
      placed = c.self.invariant.placed;
      counted = counted_over c.self.inside.totals c.count_verdict.new.self (world_of (parts_of c.self.inside)) c.args.self.now.world _ _ _ (ap (λ s. s.world) c.self.view_is)
          whole.0
          c.count_verdict.ensures c.self.invariant.counted;
    }

pub returns-clause-step : goal.returns-clause-step
returns-clause-step g c =
    (decide_whole (parts_of c.self.inside) c.args.self.now.world (ap (λ s. s.world) c.self.view_is) c.self.invariant.sound c.args.session c.in_ok-place.place (log_row_of c.in_ok-place.row.now) c.in-Open._open.0 c.in-Open._open.1
    c.in_ok-place.ensures.place (in_log c.self.inside.log c.in_ok-place.place (log_row_of c.in_ok-place.row.now) c.self.invariant.log_match.begins c.in_ok-place.ensures.row) (ap standing_of c.in-Open.is) c.args.reached (right_for (parts_of c.self.inside) c.args.self.now.world (ap (λ s. s.world) c.self.view_is) c.self.invariant.sound c.args.session c.in_ok-place.place (log_row_of c.in_ok-place.row.now) c.in-Open._open.0 c.in-Open._open.1 c.in_ok-place.ensures.place (in_log c.self.inside.log c.in_ok-place.place (log_row_of c.in_ok-place.row.now) c.self.invariant.log_match.begins c.in_ok-place.ensures.row) (ap standing_of c.in-Open.is) c.args.reached c.requires.right) c.stand.new.self.rows
    (stood_in c.self.inside.log c.in_ok-place.place _ c.stand.new.self.rows c.self.invariant.log_match.begins (c.stand.ensures.rows (log_row_of c.in_ok-place.row.now) c.in_ok-place.ensures.row) ∙ ap (λ s. slice_set c.self.inside.log.rows (c.in_ok-place.place - c.self.inside.base.base.place) (record (log_row_of c.in_ok-place.row.now) { standing = s })) c.decided.ensures)).0

pub returns-in_err-place-clause-totals : goal.returns-in_err-place-clause-totals
returns-in_err-place-clause-totals g c =
    let p = err_from_is_err_and c.from_residual.result c.from_residual.ensures.1 in
    uncounted Decided _ c.from_residual.result p.0 p.1

pub count_verdict-requires : goal.count_verdict-requires
count_verdict-requires g c = can_count (parts_of c.self.inside) c.self.inside.totals c.self.invariant.sound c.self.invariant.counted

pub returns-clause-totals : goal.returns-clause-totals
returns-clause-totals g c = c.count_verdict.ensures ∙ ap (λ s. with_verdict s.totals c.args.reached) c.self.view_is
