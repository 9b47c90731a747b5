use Rattle.occ_types.specs.PlainData.{table_of}
use Rattle.occ_text.specs.Headers.{table_text}
use Rattle.occ_print.proofs.Printing.{failed, each_more, each_front}
use Rattle.occ_print.proofs.header_printing.print_tables.Goals as goal

pub returns-in_err-print_table-clause-printed : goal.returns-in_err-print_table-clause-printed
returns-in_err-print_table-clause-printed g c =
    failed _ c.from_residual.result _ _ _ _ _ c.from_residual.ensures.1
    (each_front table_text table_of _ _ _ _ _ _ c.args.tables.now c.loop-table.table-index c.table-item.result c.loop-table-test.true c.table-item.is
    c.loop-table.invariant c.in_err-print_table.ensures.printed)

pub loop-table-preserved : goal.loop-table-preserved
loop-table-preserved g c =
    each_more table_text table_of _ _ _ _ _ _ c.args.tables.now c.loop-table.table-index c.table-item.result c.loop-table-test.true c.table-item.is
    c.loop-table.invariant c.in_ok-print_table.ensures.printed
