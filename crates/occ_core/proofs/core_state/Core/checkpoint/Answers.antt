use Rattle.std.proofs.Common.{◌≡◌, ◌≤◌, ◌+◌, ap, sym, subst, refl, ◌∙◌, Err, arith}
use Rattle.std.proofs.lemmas.Result.{err_from_is_err_and}
use Rattle.occ_types.specs.declared.fault.Fault.TheVariants.{Memory}
use Rattle.occ_model.specs.Event.{Checkpoint, Folded, Refused}
use Rattle.occ_model.specs.Step.{Step}
use Rattle.occ_core.proofs.Replied.{replied_err}
use Rattle.occ_core.specs.Core.{parts_of}
use Rattle.occ_core.specs.declared.checkpoint.TheConstants.{MAX_PLACE}
use Rattle.occ_core.proofs.Checkpoints.{checkpoint_busy, checkpoint_whole, checkpoint_starved, nothing_folds, part_within, rows_fit, begins_later}
use Rattle.occ_core.proofs.OpenRows.{busy_is}
use Rattle.occ_core.proofs.Tallies.{counted_over}
use Rattle.occ_core.specs.CoreParts.{world_of}
use Rattle.occ_core.proofs.core_state.Core.checkpoint.Goals as goal

pub returns-then-has_open-clause-step : goal.returns-then-has_open-clause-step
returns-then-has_open-clause-step g c = checkpoint_busy (parts_of c.self.inside) c.args.self.now.world (ap (λ s. s.world) c.self.view_is) (busy_is c.self.inside c.self.invariant _ c.if-has_open.ensures)

pub fold_front-requires-clause-count : goal.fold_front-requires-clause-count
fold_front-requires-clause-count g c = part_within (parts_of c.self.inside) c.args.self.now.world (ap (λ s. s.world) c.self.view_is) c.foldable-count.result c.foldable-count.ensures

pub fold_front-requires-clause-fit : goal.fold_front-requires-clause-fit
fold_front-requires-clause-fit g c =
    rows_fit (parts_of c.self.inside) c.self.invariant.sound c.self.inside.base.tables c.self.inside.base.sessions c.self.invariant.base_match.holds c.self.invariant.base_match.knows

pub fold-requires-clause-count : goal.fold-requires-clause-count
fold-requires-clause-count g c = part_within (parts_of c.self.inside) c.args.self.now.world (ap (λ s. s.world) c.self.view_is) c.foldable-count.result c.foldable-count.ensures

pub invariant_of-self-2 : goal.invariant_of-self-2
invariant_of-self-2 g c =
    let parts = parts_of c.self.inside in
    let seen = ap (λ s. s.world) c.self.view_is in
    let count = c.foldable-count.result in
    let ok = c.in_ok-fold_front.ensures.ok in
    let room = subst (λ p. p + count ≤ MAX_PLACE) c.place.ensures c.in_ok-check_place.ensures.ok in
    let whole = checkpoint_whole parts c.args.self.now.world seen c.self.invariant.sound (busy_is c.self.inside c.self.invariant _ c.if-has_open.ensures) count c.foldable-count.ensures room c.fold_front.new.base.base (ap (λ b. b.base) ok) c.fold.new.self.rows c.fold.ensures.rows in
    record {
      sound = whole.1;
      tables_match = c.self.invariant.tables_match;
      marks_match = c.self.invariant.marks_match;
      log_match = record {
        begins = begins_later c.self.inside.log.first c.self.inside.base.base.place count c.fold.new.self.first c.self.inside.log.rows (part_within parts c.args.self.now.world seen count c.foldable-count.ensures) c.self.invariant.log_match.begins c.fold.ensures.first
            ∙ sym (ap (λ b. b.base.place) ok);
        knows = c.fold.ensures.sessions ∙ c.self.invariant.log_match.knows;
      };
      base_match = record { holds = ap (λ b. b.tables) ok ∙ c.self.invariant.base_match.holds; knows = ap (λ b. b.sessions) ok ∙ c.self.invariant.base_match.knows };
      placed = c.self.invariant.placed;
      counted = counted_over c.self.inside.totals c.self.inside.totals (world_of parts) c.args.self.now.world _ Checkpoint _ seen
          whole.0
          refl c.self.invariant.counted;
    }

pub returns-clause-step : goal.returns-clause-step
returns-clause-step g c =
    let parts = parts_of c.self.inside in
    let seen = ap (λ s. s.world) c.self.view_is in
    let count = c.foldable-count.result in
    let room = subst (λ p. p + count ≤ MAX_PLACE) c.place.ensures c.in_ok-check_place.ensures.ok in
    (checkpoint_whole parts c.args.self.now.world seen c.self.invariant.sound (busy_is c.self.inside c.self.invariant _ c.if-has_open.ensures) count c.foldable-count.ensures room c.fold_front.new.base.base (ap (λ b. b.base) c.in_ok-fold_front.ensures.ok) c.fold.new.self.rows c.fold.ensures.rows).0

pub returns-then-count-eq0-clause-step : goal.returns-then-count-eq0-clause-step
returns-then-count-eq0-clause-step g c =
    let zero = c.if-count-eq0.true in
    let none : c.foldable-count.result ≡ 0 = omega arith in
    nothing_folds (parts_of c.self.inside) c.args.self.now.world (ap (λ s. s.world) c.self.view_is) c.self.invariant.sound (busy_is c.self.inside c.self.invariant _ c.if-has_open.ensures) c.foldable-count.result c.foldable-count.ensures none

pub returns-in_err-check_place-clause-step : goal.returns-in_err-check_place-clause-step
returns-in_err-check_place-clause-step g c =
    let p = err_from_is_err_and c.from_residual.result c.from_residual.ensures.1 in
    let seen = ap (λ s. s.world) c.self.view_is in
    replied_err Folded _ _ _ _ _ (p.1 ∙ ap Err (p.2 ∙ c.in_err-check_place.ensures.memory))
    (subst (λ w. Step c.args.self.now.world Checkpoint (Refused Memory) w) seen (checkpoint_starved (parts_of c.self.inside) c.args.self.now.world seen (busy_is c.self.inside c.self.invariant _ c.if-has_open.ensures) c.self.inside.base.base refl))

pub returns-in_err-fold_front-clause-step : goal.returns-in_err-fold_front-clause-step
returns-in_err-fold_front-clause-step g c =
    let p = err_from_is_err_and c.from_residual-in_err-fold_front.result c.from_residual-in_err-fold_front.ensures.1 in
    replied_err Folded _ _ _ _ _ (p.1 ∙ ap Err (p.2 ∙ c.in_err-fold_front.ensures.memory))
    (checkpoint_starved (parts_of c.self.inside) c.args.self.now.world (ap (λ s. s.world) c.self.view_is) (busy_is c.self.inside c.self.invariant _ c.if-has_open.ensures) c.fold_front.new.base.base (ap (λ b. b.base) c.in_err-fold_front.ensures.err))
