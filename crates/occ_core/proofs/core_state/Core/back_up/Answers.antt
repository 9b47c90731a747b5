use Rattle.std.proofs.Common.{ap, sym, subst, ◌∙◌, ◌-◌, length, Err}
use Rattle.occ_log.specs.SessionStates.{HoldsArePlaced, last_of}
use Rattle.occ_log.proofs.Changes.{placed-free}
use Rattle.std.proofs.lemmas.Result.{err_from_is_err_and}
use Rattle.occ_core.specs.Core.{parts_of}
use Rattle.occ_core.specs.Folding.{back_fault_of}
use Rattle.occ_core.proofs.Calls.{back_exit, back_kept, back_whole, slot_below}
use Rattle.occ_core.proofs.Staying.{base_kept}
use Rattle.occ_log.proofs.Places.{length-set}
use Rattle.occ_core.proofs.Placed.{found_in}
use Rattle.occ_core.proofs.core_state.Core.back_up.Goals as goal

pub returns-in_err-place-clause-step : goal.returns-in_err-place-clause-step
returns-in_err-place-clause-step g c =
    let p = err_from_is_err_and c.from_residual.result c.from_residual.ensures.1 in
    back_exit (parts_of c.self.inside) c.args.self.now.world (ap (λ s. s.world) c.self.view_is) c.self.invariant.sound c.args.session c.from_residual.result p.0 p.1 (sym c.in_err-place.ensures ∙ ap Err (sym p.2))

pub returns-in-Some-clause-step : goal.returns-in-Some-clause-step
returns-in-Some-clause-step g c =
    back_kept (parts_of c.self.inside) c.args.self.now.world (ap (λ s. s.world) c.self.view_is) c.self.invariant.sound c.args.session c.in_ok-place.place c.in-Some.fault (sym c.in_ok-place.ensures)
    (sym (c.in-Some.ensures ∙ ap back_fault_of (found_in c.self.inside.log c.in_ok-place.place c.self.invariant.log_match.begins)))

pub release-row-requires : goal.release-row-requires
release-row-requires g c = slot_below (parts_of c.self.inside) c.args.session c.in_ok-place.place c.self.invariant.sound (sym c.in_ok-place.ensures)

pub invariant_of-self : goal.invariant_of-self
invariant_of-self g c = record {
  sound = (back_whole (parts_of c.self.inside) c.args.self.now.world (ap (λ s. s.world) c.self.view_is) c.self.invariant.sound c.args.session c.in_ok-place.place (sym c.in_ok-place.ensures)
      (sym (c.in_default.ensures ∙ ap back_fault_of (found_in c.self.inside.log c.in_ok-place.place c.self.invariant.log_match.begins))) c.last-last.result c.last-last.ensures c.release-row.new.self c.release-row.ensures.released).1;
  tables_match = c.self.invariant.tables_match;
  marks_match = c.self.invariant.marks_match ∙ sym (ap length c.release-row.ensures.released ∙ length-set c.self.inside.sessions (c.args.session - 1) _);
  log_match = record { begins = c.self.invariant.log_match.begins; knows = c.self.invariant.log_match.knows ∙ sym (ap length c.release-row.ensures.released ∙ length-set c.self.inside.sessions (c.args.session - 1) _) };
  base_match = base_kept c.self.inside.base (length c.self.inside.schema) c.self.inside.sessions c.release-row.new.self _ _ c.release-row.ensures.released c.self.invariant.base_match;
  placed = subst (HoldsArePlaced c.self.inside.tables.tables) (sym c.release-row.ensures.released) (placed-free c.self.inside.tables.tables c.self.inside.sessions (c.args.session - 1) (last_of c.self.inside.sessions (c.args.session - 1)) c.self.invariant.placed);
  counted = c.self.invariant.counted;
}

pub returns-clause-step : goal.returns-clause-step
returns-clause-step g c =
    (back_whole (parts_of c.self.inside) c.args.self.now.world (ap (λ s. s.world) c.self.view_is) c.self.invariant.sound c.args.session c.in_ok-place.place (sym c.in_ok-place.ensures)
    (sym (c.in_default.ensures ∙ ap back_fault_of (found_in c.self.inside.log c.in_ok-place.place c.self.invariant.log_match.begins))) c.last-last.result c.last-last.ensures c.release-row.new.self c.release-row.ensures.released).0
