use Rattle.std.proofs.Common.{arith}
use Rattle.occ_types.specs.PlainData.{table_of}
use Rattle.occ_text.proofs.Taking.{behind_read, behind_taken}
use Rattle.occ_text.proofs.headers.table_behind.Goals as goal

pub returns-then-has_table-clause-exact : goal.returns-then-has_table-clause-exact
returns-then-has_table-clause-exact g c =
    behind_taken c.args.version table_of c.args.tables.now c.args.line.now c.as_str.result.now (table_of c.in_ok-table.table) c.has_table.result c.in_ok-table.ensures.exact (omega arith)
    c.as_str.ensures c.has_table.ensures c.if-has_table.true

pub returns-clause-exact : goal.returns-clause-exact
returns-clause-exact g c =
    behind_read c.args.version table_of c.args.tables.now c.args.line.now c.as_str.result.now (table_of c.in_ok-table.table) c.has_table.result c.in_ok-table.ensures.exact (omega arith)
    c.as_str.ensures c.has_table.ensures c.if-has_table.false
