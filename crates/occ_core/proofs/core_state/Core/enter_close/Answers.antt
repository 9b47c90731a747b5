use Rattle.std.proofs.Common.{◌≤◌, Some, refl, ap, sym, subst, ◌∙◌}
use Rattle.std.proofs.lemmas.Result.{err_from_is_err_and}
use Rattle.occ_model.specs.Step.{refused}
use Rattle.occ_core.specs.Core.{parts_of}
use Rattle.occ_core.proofs.Closing.{close_there, close_whole}
use Rattle.occ_core.proofs.Replied.{replied_err}
use Rattle.occ_model.specs.Event.{Closed}
use Rattle.occ_core.proofs.core_state.Core.enter_close.Goals as goal

pub returns-in_err-check_close-clause-step : goal.returns-in_err-check_close-clause-step
returns-in_err-check_close-clause-step g c =
    let p = err_from_is_err_and c.from_residual.result c.from_residual.ensures.1 in
    replied_err (λ _. Closed) _ _ _ _ p.0 p.1 (refused p.0 (sym c.in_err-check_close.ensures ∙ ap Some (sym p.2)) refl refl)

pub set-requires-clause-first : goal.set-requires-clause-first
set-requires-clause-first g c =
    (close_there (parts_of c.self.inside) c.args.self.now.world (ap (λ s. s.world) c.self.view_is) c.self.invariant.sound c.args.session c.args.number (sym c.in_ok-check_close.ensures)).0

pub set-requires-clause-last : goal.set-requires-clause-last
set-requires-clause-last g c =
    subst (λ n. c.args.session ≤ n) (sym c.self.invariant.marks_match)
    (close_there (parts_of c.self.inside) c.args.self.now.world (ap (λ s. s.world) c.self.view_is) c.self.invariant.sound c.args.session c.args.number (sym c.in_ok-check_close.ensures)).1

pub invariant_of-self : goal.invariant_of-self
invariant_of-self g c = record {
  sound = (close_whole (parts_of c.self.inside) c.args.self.now.world (ap (λ s. s.world) c.self.view_is) c.self.invariant.sound c.args.session c.args.number (sym c.in_ok-check_close.ensures)
      c.set.new.self.marks (ap (λ m. m.marks) c.set.ensures) c.drop_session.new.self c.drop_session.ensures).1;
  tables_match = c.self.invariant.tables_match;
  marks_match = ap (λ m. m.sessions) c.set.ensures ∙ c.self.invariant.marks_match;
  log_match = c.self.invariant.log_match;
  base_match = c.self.invariant.base_match;
  placed = c.self.invariant.placed;
  counted = c.self.invariant.counted;
}

pub returns-clause-step : goal.returns-clause-step
returns-clause-step g c =
    (close_whole (parts_of c.self.inside) c.args.self.now.world (ap (λ s. s.world) c.self.view_is) c.self.invariant.sound c.args.session c.args.number (sym c.in_ok-check_close.ensures)
    c.set.new.self.marks (ap (λ m. m.marks) c.set.ensures) c.drop_session.new.self c.drop_session.ensures).0
