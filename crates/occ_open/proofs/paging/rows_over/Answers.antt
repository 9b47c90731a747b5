use Rattle.std.proofs.Common.{◌≡◌, ℕ, ◌≤◌, Err, ap, sym, subst, ◌∙◌, arith}
use Rattle.std.proofs.lemmas.List.{length-map}
use Rattle.std.proofs.lemmas.Result.{err_from_is_err_and}
use Rattle.occ_types.specs.declared.limits.TheConstants.{MAX_ANSWER_ROWS}
unfoldable use Rattle.occ_model.specs.State.{answer}
use Rattle.occ_model.specs.Step.{Step}
use Rattle.occ_sets.specs.Overlays.{rows_over}
use Rattle.occ_sets.specs.PlainSets.{rows_of}
use Rattle.occ_open.specs.Pages.{Plan}
use Rattle.occ_open.proofs.Answering.{answered, table_answers}
use Rattle.occ_open.proofs.PageScans.{planned_rows, planned_refused, side_answered}
use Rattle.occ_open.proofs.paging.rows_over.Goals as goal

-- the store refused it
pub returns-in_err-rows-clause-step : goal.returns-in_err-rows-clause-step
returns-in_err-rows-clause-step g c =
    let world = g.S.Readable.world c.args.store.now in
    let after = g.S.Readable.world c.ask_apart.new.store in
    let p = err_from_is_err_and c.from_residual-in_err-rows.result c.from_residual-in_err-rows.ensures.1 in
    planned_refused world (after ≡ world) (λ event reply. Step world event reply after) (g.S.Readable.reader c.args.store.now c.args.session) c.args.plan.now c.args.copy.now _ _
    (ap (λ (p : Plan). p.asked) c.plan.view_is) (ap (λ (p : Plan). p.shown) c.plan.view_is) c.in_err-rows.field-0.0 c.from_residual-in_err-rows.result (p.1 ∙ ap Err p.2) c.in_err-rows.ensures.step

-- what it answers may go under the own writes
pub over_apart-requires-clause-answered : goal.over_apart-requires-clause-answered
over_apart-requires-clause-answered g c =
    let world = g.S.Readable.world c.args.store.now in
    let rows = rows_of c.in_ok-rows.rows.items in
    let shown = rows_of c.cut.result.items in (
      world.table,
      ap (λ p. answer p.question world.table) c.in_ok-prepared.ensures.prepared
          ∙ side_answered world c.args.plan.now c.requires.planned _ _ (ap (λ (p : Plan). p.asked) c.plan.view_is) (ap (λ (p : Plan). p.shown) c.plan.view_is) c.requires.shown rows shown
          (table_answers world (g.S.Readable.reader c.args.store.now c.args.session) _ _ _ rows (g.S.Readable.world c.ask_apart.new.store) c.in_ok-rows.ensures.step) c.cut.ensures.rows,
    )

pub over_apart-requires-clause-few : goal.over_apart-requires-clause-few
over_apart-requires-clause-few g c =
    let a = answered (g.S.Readable.world c.args.store.now) (g.S.Readable.reader c.args.store.now c.args.session) _ _ _ _ _ c.in_ok-rows.ensures.step in
    let few = subst (λ (n : ℕ). n ≤ MAX_ANSWER_ROWS) (length-map c.in_ok-rows.rows.items _) a.few in
    let fewer = c.cut.ensures.fewer in
    omega (arith, few, fewer)

-- and they go over it
pub returns-clause-step : goal.returns-clause-step
returns-clause-step g c =
    let world = g.S.Readable.world c.args.store.now in
    let after = g.S.Readable.world c.ask_apart.new.store in
    let reader = g.S.Readable.reader c.args.store.now c.args.session in
    let rows = rows_of c.in_ok-rows.rows.items in
    let shown = rows_of c.cut.result.items in
    planned_rows world (after ≡ world) (λ event reply. Step world event reply after) reader c.args.plan.now c.args.copy.now _ _
    (ap (λ (p : Plan). p.asked) c.plan.view_is) (ap (λ (p : Plan). p.shown) c.plan.view_is) rows shown c.over_apart.result
    (table_answers world reader _ _ _ rows after c.in_ok-rows.ensures.step) c.in_ok-rows.ensures.step c.cut.ensures.rows c.requires.shown
    (λ there. c.over_apart.ensures ∙ ap (λ p. rows_over p.question p.writes shown) c.in_ok-prepared.ensures.prepared)

pub returns-clause-moves : goal.returns-clause-moves
returns-clause-moves g c =
    let world = g.S.Readable.world c.args.store.now in
    let after = g.S.Readable.world c.ask_apart.new.store in
    let reader = g.S.Readable.reader c.args.store.now c.args.session in
    let rows = rows_of c.in_ok-rows.rows.items in
    let shown = rows_of c.cut.result.items in
    planned_rows world (c.ask_apart.new.store ≡ c.args.store.now) (λ event reply. g.S.Readable.moves c.args.store.now event reply c.ask_apart.new.store) reader c.args.plan.now c.args.copy.now _ _
    (ap (λ (p : Plan). p.asked) c.plan.view_is) (ap (λ (p : Plan). p.shown) c.plan.view_is) rows shown c.over_apart.result
    (table_answers world reader _ _ _ rows after c.in_ok-rows.ensures.step) c.in_ok-rows.ensures.moves c.cut.ensures.rows c.requires.shown
    (λ there. c.over_apart.ensures ∙ ap (λ p. rows_over p.question p.writes shown) c.in_ok-prepared.ensures.prepared)
