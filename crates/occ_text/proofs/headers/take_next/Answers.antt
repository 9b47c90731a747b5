use Rattle.std.specs.Prelude.{is_some}
use Rattle.occ_types.specs.PlainData.{table_of, tables_of}
use Rattle.occ_text.proofs.Taking.{heads_here, none_takes}
use Rattle.occ_text.proofs.TablesTaken.{next_by, read_takes}
use Rattle.occ_text.proofs.headers.take_next.Goals as goal

pub returns-clause-gives : goal.returns-clause-gives
returns-clause-gives g c =
    next_by c.args.version (table_of {Z = g.row.A.Denot}) c.table_behind.result c.if_read.result (tables_of c.args.tables.now) c.line.result.now c.take_line.new.self.line _ _ _ _ c.requires c.in_ok-take_line.ensures.gives c.line.ensures c.table_behind.ensures.exact c.if_read.ensures

pub returns-in_err-take_line-clause-heads : goal.returns-in_err-take_line-clause-heads
returns-in_err-take_line-clause-heads g c = none_takes is_some _ c.in_err-take_line.field-0.0 c.from_residual.result c.from_residual.ensures.1

pub returns-clause-heads : goal.returns-clause-heads
returns-clause-heads g c = read_takes _ c.table_behind.result c.if_read.result c.if_read.ensures (heads_here c.args.version c.line.result.now c.take_line.new.self.line c.table_behind.result c.line.ensures c.table_behind.ensures.heads)
