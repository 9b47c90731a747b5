use Rattle.std.proofs.Common.{◌≤◌, Some, refl, ap, sym, subst, ◌∙◌, ◌-◌, length, [], ◌∷◌, ◌++◌, arith, slice_set}
use Rattle.std.specs.FinMap as finite
use Rattle.std.proofs.lemmas.Result.{err_from_is_err_and}
use Rattle.occ_model.specs.Event.{Enter, Request, Refused, Entered}
use Rattle.occ_model.specs.Log.{LogRow, Open}
use Rattle.occ_model.specs.World.{next_place, reads_under}
use Rattle.occ_model.specs.Step.{Step, refused, starved}
use Rattle.occ_core.specs.Core.{parts_of}
use Rattle.occ_core.specs.CoreParts.{world_of}
use Rattle.occ_log.specs.Logs.{HasRoom}
use Rattle.occ_log.specs.Rows.{log_row_of}
use Rattle.occ_log.proofs.Places.{length-set}
use Rattle.occ_core.proofs.Staying.{base_kept}
use Rattle.occ_core.proofs.Replied.{replied_err}
use Rattle.occ_core.proofs.Entries.{entry_roomless, sound_kept, entering_place, open_row_kept, enter_from, enter_below, enter_whole, enter_placed, held_placed}
use Rattle.occ_core.proofs.Placed.{next_kept}
use Rattle.occ_core.proofs.Tallies.{counted_over}
use Rattle.occ_core.specs.Totals.{AddUp}
use Rattle.occ_core.proofs.core_state.Core.enter_request.Goals as goal

pub returns-in_err-check_entry-clause-step : goal.returns-in_err-check_entry-clause-step
returns-in_err-check_entry-clause-step g c =
    let p = err_from_is_err_and c.from_residual.result c.from_residual.ensures.1 in
    replied_err (λ place. Entered place place) _ _ _ _ p.0 p.1 (refused p.0 (sym c.in_err-check_entry.ensures ∙ ap Some (sym p.2)) refl refl)

pub returns-in_err-shared-clause-step : goal.returns-in_err-shared-clause-step
returns-in_err-shared-clause-step g c =
    let p = err_from_is_err_and c.from_residual-in_err-shared.result c.from_residual-in_err-shared.ensures.1 in
    let world = c.args.self.now.world in
    let event = Enter c.args.transaction.session (Request c.args.transaction.number c.args.transaction.start c.args.writes.now) in
    replied_err (λ place. Entered place place) _ _ _ _ p.0 p.1 (subst (λ f. Step world event (Refused f) world) (sym p.2) (starved (sym c.in_ok-check_entry.ensures) refl refl refl))

pub reserve-requires-clause-from : goal.reserve-requires-clause-from
reserve-requires-clause-from g c =
    enter_from (parts_of c.self.inside) c.args.self.now.world (ap (λ s. s.world) c.self.view_is) c.args.transaction.session c.args.transaction.number c.args.transaction.start c.args.writes.now (sym c.in_ok-check_entry.ensures)

pub reserve-requires-clause-below : goal.reserve-requires-clause-below
reserve-requires-clause-below g c =
    let from = enter_from (parts_of c.self.inside) c.args.self.now.world (ap (λ s. s.world) c.self.view_is) c.args.transaction.session c.args.transaction.number c.args.transaction.start c.args.writes.now (sym c.in_ok-check_entry.ensures) in
    let below = enter_below (parts_of c.self.inside) c.args.self.now.world (ap (λ s. s.world) c.self.view_is) c.self.invariant.sound c.args.transaction.session c.args.transaction.number c.args.transaction.start c.args.writes.now (sym c.in_ok-check_entry.ensures) in
    let knows = c.self.invariant.log_match.knows in
    omega arith

pub returns-in_err-reserve-clause-step : goal.returns-in_err-reserve-clause-step
returns-in_err-reserve-clause-step g c =
    let p = err_from_is_err_and c.from_residual-in_err-reserve.result c.from_residual-in_err-reserve.ensures.1 in
    let world = c.args.self.now.world in
    let event = Enter c.args.transaction.session (Request c.args.transaction.number c.args.transaction.start c.args.writes.now) in
    replied_err (λ place. Entered place place) _ _ _ _ p.0 p.1 (subst (λ f. Step world event (Refused f) (world_of (record (parts_of c.self.inside) { log = c.reserve.new.self.rows }))) (sym p.2)
    (entry_roomless (parts_of c.self.inside) world (ap (λ s. s.world) c.self.view_is) c.args.transaction.session c.args.transaction.number c.args.transaction.start c.args.writes.now (sym c.in_ok-check_entry.ensures)
    c.reserve.new.self.rows c.in_err-reserve.ensures.rows))

pub push-requires-clause-from : goal.push-requires-clause-from
push-requires-clause-from g c =
    let seen = ap (λ s. s.world) c.self.view_is in
    let row = open_row_kept c.args.self.now.world c.args.transaction.session c.args.transaction.number c.args.transaction.start c.args.writes.now c.share.new.self c.share.ensures.kept (log_row_of c.in_ok-row.row) c.in_ok-row.ensures in
    subst (λ s. 1 ≤ s) (sym (ap (λ (r : LogRow). r.session) row.2))
    (enter_from (parts_of c.self.inside) c.args.self.now.world seen c.args.transaction.session c.args.transaction.number c.args.transaction.start c.args.writes.now (sym c.in_ok-check_entry.ensures))

pub push-requires-clause-room : goal.push-requires-clause-room
push-requires-clause-room g c =
    let row = open_row_kept c.args.self.now.world c.args.transaction.session c.args.transaction.number c.args.transaction.start c.args.writes.now c.share.new.self c.share.ensures.kept (log_row_of c.in_ok-row.row) c.in_ok-row.ensures in
    subst (HasRoom c.reserve.new.self) (sym (ap (λ (r : LogRow). r.session) row.2)) c.in_ok-reserve.ensures.room

pub push-requires-clause-place : goal.push-requires-clause-place
push-requires-clause-place g c =
    let seen = ap (λ s. s.world) c.self.view_is in
    let row = open_row_kept c.args.self.now.world c.args.transaction.session c.args.transaction.number c.args.transaction.start c.args.writes.now c.share.new.self c.share.ensures.kept (log_row_of c.in_ok-row.row) c.in_ok-row.ensures in
    ap (λ (r : LogRow). r.place) row.2 ∙ entering_place (parts_of c.self.inside) c.args.self.now.world seen c.args.transaction.session c.args.transaction.number c.args.transaction.start (reads_under c.args.self.now.world c.args.transaction.session c.args.transaction.number) c.args.writes.now (Open (next_place c.args.self.now.world) row.0)
    ∙ next_kept c.self.inside.log c.reserve.new.self c.self.invariant.log_match.begins c.in_ok-reserve.ensures.first c.in_ok-reserve.ensures.rows

pub overflow_sub-session : goal.overflow_sub-session
overflow_sub-session g c =
    enter_from (parts_of c.self.inside) c.args.self.now.world (ap (λ s. s.world) c.self.view_is) c.args.transaction.session c.args.transaction.number c.args.transaction.start c.args.writes.now (sym c.in_ok-check_entry.ensures)

pub hold-requires : goal.hold-requires
hold-requires g c =
    enter_below (parts_of c.self.inside) c.args.self.now.world (ap (λ s. s.world) c.self.view_is) c.self.invariant.sound c.args.transaction.session c.args.transaction.number c.args.transaction.start c.args.writes.now (sym c.in_ok-check_entry.ensures)

pub invariant_of-self : goal.invariant_of-self
invariant_of-self g c = record {
  sound = sound_kept (parts_of c.self.inside) c.self.invariant.sound c.reserve.new.self.rows c.in_err-reserve.ensures.rows;
  tables_match = c.self.invariant.tables_match;
  marks_match = c.self.invariant.marks_match;
  log_match = record { begins = c.in_err-reserve.ensures.first ∙ c.self.invariant.log_match.begins; knows = c.in_err-reserve.ensures.sessions ∙ c.self.invariant.log_match.knows };
  base_match = c.self.invariant.base_match;
  placed = c.self.invariant.placed;
  counted = subst (λ log. AddUp c.self.inside.totals (world_of (record (parts_of c.self.inside) { log = log }))) (sym c.in_err-reserve.ensures.rows) c.self.invariant.counted;
}

pub invariant_of-self-2 : goal.invariant_of-self-2
invariant_of-self-2 g c =
    let parts = parts_of c.self.inside in
    let world = c.args.self.now.world in
    let seen = ap (λ s. s.world) c.self.view_is in
    let number = c.args.transaction.number in
    let writes = c.args.writes.now in
    let none = sym c.in_ok-check_entry.ensures in
    let row = open_row_kept world c.args.transaction.session number c.args.transaction.start writes c.share.new.self c.share.ensures.kept (log_row_of c.in_ok-row.row) c.in_ok-row.ensures in
    let pushed = c.push.ensures.rows ∙ ap (λ log. log ++ log_row_of c.in_ok-row.row ∷ []) c.in_ok-reserve.ensures.rows in
    let phases = c.take-reads.ensures.gone ∙ ap (λ p. finite.remove p (c.args.transaction.session, number)) refl in
    let slots = c.hold.ensures ∙ ap (λ ws. slice_set c.self.inside.sessions (c.args.transaction.session - 1) (record { last = number; hold = Some (record { place = c.in_ok-row.row.place; writes = ws }) })) (c.in_ok-shared.ensures.cases ∙ c.share.ensures.kept) in
    let whole = enter_whole parts world seen c.self.invariant.sound c.args.transaction.session number c.args.transaction.start writes none (log_row_of c.in_ok-row.row) row.0 row.1 row.2
    c.push.new.self.rows pushed c.take-reads.new.self phases c.hold.new.self slots in
    record {
      sound = whole.1;
      tables_match = c.self.invariant.tables_match;
      marks_match = c.self.invariant.marks_match ∙ sym (ap length slots ∙ length-set c.self.inside.sessions (c.args.transaction.session - 1) _);
      log_match = record {
        begins = c.push.ensures.first ∙ c.in_ok-reserve.ensures.first ∙ c.self.invariant.log_match.begins;
        knows = c.push.ensures.sessions ∙ c.in_ok-reserve.ensures.sessions ∙ c.self.invariant.log_match.knows ∙ sym (ap length slots ∙ length-set c.self.inside.sessions (c.args.transaction.session - 1) _);
      };
      base_match = base_kept c.self.inside.base (length c.self.inside.schema) c.self.inside.sessions c.hold.new.self _ _ slots c.self.invariant.base_match;
      placed = held_placed c.self.inside.tables.tables (length c.self.inside.schema) c.self.invariant.tables_match c.self.inside.sessions (c.args.transaction.session - 1) number c.in_ok-row.row.place writes c.self.invariant.placed
          (enter_placed parts world seen c.args.transaction.session number c.args.transaction.start writes none) c.hold.new.self slots;
      counted = counted_over c.self.inside.totals c.self.inside.totals (world_of parts) world _ _ _ seen
          whole.0
          refl c.self.invariant.counted;
    }

pub returns-clause-step : goal.returns-clause-step
returns-clause-step g c =
    let parts = parts_of c.self.inside in
    let world = c.args.self.now.world in
    let seen = ap (λ s. s.world) c.self.view_is in
    let number = c.args.transaction.number in
    let writes = c.args.writes.now in
    let none = sym c.in_ok-check_entry.ensures in
    let row = open_row_kept world c.args.transaction.session number c.args.transaction.start writes c.share.new.self c.share.ensures.kept (log_row_of c.in_ok-row.row) c.in_ok-row.ensures in
    let pushed = c.push.ensures.rows ∙ ap (λ log. log ++ log_row_of c.in_ok-row.row ∷ []) c.in_ok-reserve.ensures.rows in
    let phases = c.take-reads.ensures.gone ∙ ap (λ p. finite.remove p (c.args.transaction.session, number)) refl in
    let slots = c.hold.ensures ∙ ap (λ ws. slice_set c.self.inside.sessions (c.args.transaction.session - 1) (record { last = number; hold = Some (record { place = c.in_ok-row.row.place; writes = ws }) })) (c.in_ok-shared.ensures.cases ∙ c.share.ensures.kept) in
    (enter_whole parts world seen c.self.invariant.sound c.args.transaction.session number c.args.transaction.start writes none (log_row_of c.in_ok-row.row) row.0 row.1 row.2
    c.push.new.self.rows pushed c.take-reads.new.self phases c.hold.new.self slots).0
