use Rattle.std.proofs.Common.{◌≡◌, ◌<◌, ◌+◌, ◌-◌, ap, sym, ◌∙◌, Some, arith}
use Rattle.std.specs.Result.{result_err}
use Rattle.std.proofs.lemmas.Result.{err_from_is_err_and}
use Rattle.occ_core.proofs.Resumptions.{tables_go, tables_stop}
use Rattle.occ_core.proofs.resuming.check_tables.Goals as goal

pub returns-in_err-check_table-clause-fault : goal.returns-in_err-check_table-clause-fault
returns-in_err-check_table-clause-fault g c =
    let p = err_from_is_err_and c.from_residual.result c.from_residual.ensures.1 in
    let value = c.count-table-end.ensures.value in
    let tables = c.args.tables.now.tables in
    let less : c.loop-table.table < tables = omega arith in
    ap result_err p.1
    ∙ sym (c.loop-table.invariant ∙ tables_stop c.args.schema.now c.args.tables.now.state c.loop-table.table (tables - (c.loop-table.table + 1)) (tables - c.loop-table.table) p.0 (omega arith) (sym c.in_err-check_table.ensures ∙ ap Some (sym p.2)))

pub loop-table-preserved : goal.loop-table-preserved
loop-table-preserved g c =
    let value = c.count-table-end.ensures.value in
    let tables = c.args.tables.now.tables in
    let less : c.loop-table.table < tables = omega arith in
    c.loop-table.invariant ∙ tables_go c.args.schema.now c.args.tables.now.state c.loop-table.table (c.loop-table.table + 1) (tables - (c.loop-table.table + 1)) (tables - c.loop-table.table) (omega arith) (omega arith) (sym c.in_ok-check_table.ensures)
