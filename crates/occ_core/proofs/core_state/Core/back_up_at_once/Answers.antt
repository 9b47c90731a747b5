use Rattle.std.proofs.Common.{ap, ◌∙◌, length, ◌∷◌, [], ◌++◌}
use Rattle.occ_model.specs.Log.{Back}
use Rattle.occ_model.specs.Step.{entering}
use Rattle.occ_core.specs.Core.{parts_of}
use Rattle.occ_log.specs.Rows.{log_row_of}
use Rattle.occ_core.proofs.AtOnce.{back_whole}
use Rattle.occ_core.proofs.Staying.{session_passed, marks_kept, log_kept, base_kept, still_placed}
use Rattle.occ_core.proofs.Tallies.{backed_adds, can_count}
use Rattle.occ_core.specs.CoreParts.{world_of}
use Rattle.occ_core.specs.Totals.{with_cause}
use Rattle.occ_core.proofs.core_state.Core.back_up_at_once.Goals as goal

pub invariant_of-self-2 : goal.invariant_of-self-2
invariant_of-self-2 g c =
    let row = c.row_at_once-row.ensures ∙ ap (λ ws. entering c.args.self.now.world c.args.transaction.session c.args.transaction.number c.args.transaction.start c.args.reads ws (Back c.args.cause)) c.in_ok-kept.ensures.cases in
    let slots = session_passed c.self.inside.sessions c.settle.new.sessions (log_row_of c.row_at_once-row.result) _ row c.settle.ensures.passed in
    let whole = back_whole (parts_of c.self.inside) c.args.self.now.world (ap (λ s. s.world) c.self.view_is) c.self.invariant.sound c.args.transaction.session c.args.transaction.number c.args.transaction.start c.args.reads c.args.writes.now c.args.cause c.requires.room c.requires.lawful
    (log_row_of c.row_at_once-row.result) row c.settle.new.log.rows (c.settle.ensures.rows ∙ ap (λ log. log ++ log_row_of c.row_at_once-row.result ∷ []) c.in_ok-reserve.ensures.rows) c.discard.new.self c.discard.ensures c.settle.new.sessions slots in
    record {
      sound = whole.1;
      tables_match = c.self.invariant.tables_match;
      marks_match = marks_kept c.self.inside.sessions c.settle.new.sessions _ _ _ slots c.self.invariant.marks_match;
      log_match = log_kept c.self.inside.log c.settle.new.log c.self.inside.sessions c.settle.new.sessions _ _ _ (c.settle.ensures.first ∙ c.in_ok-reserve.ensures.first) (c.settle.ensures.sessions ∙ c.in_ok-reserve.ensures.sessions) slots c.self.invariant.log_match;
      base_match = base_kept c.self.inside.base (length c.self.inside.schema) c.self.inside.sessions c.settle.new.sessions _ _ slots c.self.invariant.base_match;
      placed = still_placed c.self.inside.tables.tables c.self.inside.sessions c.settle.new.sessions _ _ slots c.self.invariant.placed;
      counted = backed_adds c.self.inside.totals c.count_cause.new.self (world_of (parts_of c.self.inside)) c.args.self.now.world _ c.args.transaction.session c.args.transaction.number c.args.transaction.start c.args.reads c.args.writes.now c.args.cause (ap (λ s. s.world) c.self.view_is)
          whole.0
          c.count_cause.ensures c.self.invariant.counted;
    }

pub returns-clause-ok : goal.returns-clause-ok
returns-clause-ok g c =
    let row = c.row_at_once-row.ensures ∙ ap (λ ws. entering c.args.self.now.world c.args.transaction.session c.args.transaction.number c.args.transaction.start c.args.reads ws (Back c.args.cause)) c.in_ok-kept.ensures.cases in
    (back_whole (parts_of c.self.inside) c.args.self.now.world (ap (λ s. s.world) c.self.view_is) c.self.invariant.sound c.args.transaction.session c.args.transaction.number c.args.transaction.start c.args.reads c.args.writes.now c.args.cause c.requires.room c.requires.lawful
    (log_row_of c.row_at_once-row.result) row c.settle.new.log.rows (c.settle.ensures.rows ∙ ap (λ log. log ++ log_row_of c.row_at_once-row.result ∷ []) c.in_ok-reserve.ensures.rows) c.discard.new.self c.discard.ensures c.settle.new.sessions
    (session_passed c.self.inside.sessions c.settle.new.sessions (log_row_of c.row_at_once-row.result) _ row c.settle.ensures.passed)).0

pub count_cause-requires : goal.count_cause-requires
count_cause-requires g c = can_count (parts_of c.self.inside) c.self.inside.totals c.self.invariant.sound c.self.invariant.counted

pub returns-clause-totals : goal.returns-clause-totals
returns-clause-totals g c = c.count_cause.ensures ∙ ap (λ s. with_cause s.totals c.args.cause) c.self.view_is
