use Rattle.std.proofs.Common.{map, ap, arith}
use Rattle.occ_print.specs.Books.{entry_line}
use Rattle.occ_print.proofs.Printing.{lines_same}
use Rattle.occ_print.proofs.TableRows.{placed-is}
use Rattle.occ_print.proofs.state_printing.print_rows_at.Goals as goal

pub returns-in-Some-clause-printed : goal.returns-in-Some-clause-printed
returns-in-Some-clause-printed g c =
    lines_same c.print_table.result _ _ _ _ _ _ (ap (map (entry_line c.args.section c.args.schema.now)) (placed-is c.args.place c.args.tables.now.state c.in-Some.rows c.in-Some.ensures)) c.print_table.ensures.printed

pub returns-in-None-clause-printed : goal.returns-in-None-clause-printed
returns-in-None-clause-printed g c =
    let past = c.in-None.ensures in
    let within = c.requires in
    absurd (omega arith)
