use Rattle.std.proofs.Common.{ap, sym, subst, ◌∙◌, ◌∷◌, [], ◌++◌, length}
use Rattle.occ_model.specs.Log.{LogRow}
use Rattle.occ_model.specs.State.{apply}
use Rattle.occ_core.specs.Core.{parts_of}
use Rattle.occ_core.specs.CoreParts.{AreSound, world_of}
use Rattle.occ_sets.specs.Sets.{ArePlaced}
use Rattle.occ_log.specs.Rows.{log_row_of}
use Rattle.occ_log.specs.SessionStates.{HoldsArePlaced}
use Rattle.occ_log.specs.Window.{advanced}
use Rattle.occ_core.proofs.AtOnce.{commit_whole}
use Rattle.occ_core.proofs.Staying.{session_passed, marks_kept, log_kept, base_kept, still_placed, at_err, unmoved, same_log, placed_all}
use Rattle.occ_core.proofs.Tallies.{committed_adds, can_count}
use Rattle.occ_core.specs.Totals.{AddUp, with_one_step}
use Rattle.occ_core.proofs.core_state.Core.commit_at_once.Goals as goal

pub take_room-requires-clause-placed : goal.take_room-requires-clause-placed
take_room-requires-clause-placed g c =
    subst (ArePlaced c.self.inside.tables.tables) (sym (ap (λ (r : LogRow). r.writes) c.row_at_once-row.ensures))
    (placed_all c.self.inside.tables.tables (length c.self.inside.schema) c.args.writes c.self.invariant.tables_match
    (subst (λ w. ArePlaced (length w.settings.schema) c.args.writes) (sym (ap (λ s. s.world) c.self.view_is)) c.requires.placed))

pub invariant_of-self : goal.invariant_of-self
invariant_of-self g c =
    let still = c.in_err-take_room.ensures.rows in
    let kept = c.in_err-take_room.ensures.err in
    record {
      sound = subst AreSound (unmoved (parts_of c.self.inside) c.take_room.new.log.rows c.take_room.new.tables.state still (ap (λ t. t.state) kept)) c.self.invariant.sound;
      tables_match = ap (λ t. t.tables) kept ∙ c.self.invariant.tables_match;
      marks_match = c.self.invariant.marks_match;
      log_match = same_log c.self.inside.log c.take_room.new.log _ _ c.in_err-take_room.ensures.first c.in_err-take_room.ensures.sessions c.self.invariant.log_match;
      base_match = c.self.invariant.base_match;
      placed = subst (λ n. HoldsArePlaced n c.self.inside.sessions) (sym (ap (λ t. t.tables) kept)) c.self.invariant.placed;
      counted = subst (λ p. AddUp c.self.inside.totals (world_of p)) (unmoved (parts_of c.self.inside) c.take_room.new.log.rows c.take_room.new.tables.state still (ap (λ t. t.state) kept)) c.self.invariant.counted;
    }

pub returns-in_err-take_room-clause-err : goal.returns-in_err-take_room-clause-err
returns-in_err-take_room-clause-err g c =
    at_err c.from_residual-in_err-take_room.result
    (sym (ap (λ p. record { world = world_of p; totals = c.self.inside.totals }) (unmoved (parts_of c.self.inside) c.take_room.new.log.rows c.take_room.new.tables.state c.in_err-take_room.ensures.rows (ap (λ t. t.state) c.in_err-take_room.ensures.err))) ∙ c.self.view_is)

pub invariant_of-self-2 : goal.invariant_of-self-2
invariant_of-self-2 g c =
    let parts = parts_of c.self.inside in
    let seen = ap (λ s. s.world) c.self.view_is in
    let t = c.args.transaction in
    let row = c.row_at_once-row.ensures in
    let slots = session_passed c.self.inside.sessions c.settle.new.sessions (log_row_of c.row_at_once-row.result) _ row c.settle.ensures.passed in
    let done = c.in_ok-take_room.ensures.ok in
    let whole = commit_whole parts c.args.self.now.world seen c.self.invariant.sound t.session t.number t.start c.args.reads c.args.writes c.requires.room c.requires.lawful
    (log_row_of c.row_at_once-row.result) row c.settle.new.log.rows (c.settle.ensures.rows ∙ ap (λ log. log ++ log_row_of c.row_at_once-row.result ∷ []) c.in_ok-take_room.ensures.rows)
    c.take_room.new.tables.state (ap (λ t. t.state) done ∙ ap (apply c.self.inside.tables.state) (ap (λ (r : LogRow). r.writes) row)) c.discard.new.self c.discard.ensures c.settle.new.sessions slots
    c.advance.new.self (c.advance.ensures ∙ ap (advanced c.self.inside.window) c.in_ok-shared.ensures.cases) in
    record {
      sound = whole.1;
      tables_match = ap (λ t. t.tables) done ∙ c.self.invariant.tables_match;
      marks_match = marks_kept c.self.inside.sessions c.settle.new.sessions _ _ _ slots c.self.invariant.marks_match;
      log_match = log_kept c.self.inside.log c.settle.new.log c.self.inside.sessions c.settle.new.sessions _ _ _ (c.settle.ensures.first ∙ c.in_ok-take_room.ensures.first) (c.settle.ensures.sessions ∙ c.in_ok-take_room.ensures.sessions) slots c.self.invariant.log_match;
      base_match = base_kept c.self.inside.base (length c.self.inside.schema) c.self.inside.sessions c.settle.new.sessions _ _ slots c.self.invariant.base_match;
      placed = subst (λ n. HoldsArePlaced n c.settle.new.sessions) (sym (ap (λ t. t.tables) done)) (still_placed c.self.inside.tables.tables c.self.inside.sessions c.settle.new.sessions _ _ slots c.self.invariant.placed);
      counted = committed_adds c.self.inside.totals c.count_one_step.new.self (world_of parts) c.args.self.now.world _ t.session t.number t.start c.args.reads c.args.writes c.args.by seen whole.0 c.count_one_step.ensures c.self.invariant.counted;
    }

pub returns-clause-ok : goal.returns-clause-ok
returns-clause-ok g c =
    let parts = parts_of c.self.inside in
    let seen = ap (λ s. s.world) c.self.view_is in
    let t = c.args.transaction in
    let row = c.row_at_once-row.ensures in
    let slots = session_passed c.self.inside.sessions c.settle.new.sessions (log_row_of c.row_at_once-row.result) _ row c.settle.ensures.passed in
    let whole = commit_whole parts c.args.self.now.world seen c.self.invariant.sound t.session t.number t.start c.args.reads c.args.writes c.requires.room c.requires.lawful
    (log_row_of c.row_at_once-row.result) row c.settle.new.log.rows (c.settle.ensures.rows ∙ ap (λ log. log ++ log_row_of c.row_at_once-row.result ∷ []) c.in_ok-take_room.ensures.rows)
    c.take_room.new.tables.state (ap (λ t. t.state) c.in_ok-take_room.ensures.ok ∙ ap (apply c.self.inside.tables.state) (ap (λ (r : LogRow). r.writes) row)) c.discard.new.self c.discard.ensures c.settle.new.sessions slots
    c.advance.new.self (c.advance.ensures ∙ ap (advanced c.self.inside.window) c.in_ok-shared.ensures.cases) in
    whole.0

pub count_one_step-requires : goal.count_one_step-requires
count_one_step-requires g c = can_count (parts_of c.self.inside) c.self.inside.totals c.self.invariant.sound c.self.invariant.counted

pub returns-clause-totals : goal.returns-clause-totals
returns-clause-totals g c = c.count_one_step.ensures ∙ ap (λ s. with_one_step s.totals c.args.by) c.self.view_is
