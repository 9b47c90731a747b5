use Rattle.std.proofs.Common.{◌≡◌, Err, ap, sym, ◌∙◌}
use Rattle.std.proofs.lemmas.Result.{err_from_is_err_and}
use Rattle.occ_model.specs.Step.{Step}
use Rattle.occ_sets.specs.PlainSets.{rows_of}
use Rattle.occ_open.specs.Pages.{Plan}
use Rattle.occ_open.proofs.Answering.{table_answers}
use Rattle.occ_open.proofs.PageScans.{planned_rows, planned_refused}
use Rattle.occ_open.proofs.paging.rows_planned.Goals as goal

-- the store refused it
pub returns-in_err-rows-clause-step : goal.returns-in_err-rows-clause-step
returns-in_err-rows-clause-step g c =
    let world = g.S.Readable.world c.args.store.now in
    let after = g.S.Readable.world c.ask_apart.new.store in
    let p = err_from_is_err_and c.from_residual.result c.from_residual.ensures.1 in
    planned_refused world (after ≡ world) (λ event reply. Step world event reply after) (g.S.Readable.reader c.args.store.now c.args.session) c.args.plan.now c.args.copy.now _ _
    (ap (λ (p : Plan). p.asked) c.plan.view_is) (ap (λ (p : Plan). p.shown) c.plan.view_is) c.in_err-rows.field-0.0 c.from_residual.result (p.1 ∙ ap Err p.2) c.in_err-rows.ensures.step

-- nothing that it shows is written
pub returns-clause-step : goal.returns-clause-step
returns-clause-step g c =
    let world = g.S.Readable.world c.args.store.now in
    let after = g.S.Readable.world c.ask_apart.new.store in
    let reader = g.S.Readable.reader c.args.store.now c.args.session in
    let rows = rows_of c.in_ok-rows.rows.items in
    let shown = rows_of c.cut.result.items in
    planned_rows world (after ≡ world) (λ event reply. Step world event reply after) reader c.args.plan.now c.args.copy.now _ _
    (ap (λ (p : Plan). p.asked) c.plan.view_is) (ap (λ (p : Plan). p.shown) c.plan.view_is) rows shown c.cut.result
    (table_answers world reader _ _ _ rows after c.in_ok-rows.ensures.step) c.in_ok-rows.ensures.step c.cut.ensures.rows c.requires.shown
    (λ there. sym (c.meets.ensures.untouched c.if-meets.false world.table shown there))

pub returns-clause-moves : goal.returns-clause-moves
returns-clause-moves g c =
    let world = g.S.Readable.world c.args.store.now in
    let after = g.S.Readable.world c.ask_apart.new.store in
    let reader = g.S.Readable.reader c.args.store.now c.args.session in
    let rows = rows_of c.in_ok-rows.rows.items in
    let shown = rows_of c.cut.result.items in
    planned_rows world (c.ask_apart.new.store ≡ c.args.store.now) (λ event reply. g.S.Readable.moves c.args.store.now event reply c.ask_apart.new.store) reader c.args.plan.now c.args.copy.now _ _
    (ap (λ (p : Plan). p.asked) c.plan.view_is) (ap (λ (p : Plan). p.shown) c.plan.view_is) rows shown c.cut.result
    (table_answers world reader _ _ _ rows after c.in_ok-rows.ensures.step) c.in_ok-rows.ensures.moves c.cut.ensures.rows c.requires.shown
    (λ there. sym (c.meets.ensures.untouched c.if-meets.false world.table shown there))
