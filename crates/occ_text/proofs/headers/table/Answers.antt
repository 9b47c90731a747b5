use Rattle.occ_types.specs.PlainData.{table_of}
use Rattle.occ_text.specs.HeaderReading.{table_of_line}
use Rattle.occ_text.specs.Headers.{table_text, TableHasLine}
use Rattle.occ_text.proofs.HeaderLines.{table_reads}
use Rattle.occ_text.proofs.Values.{found_by, again_by}
use Rattle.occ_text.proofs.headers.table.Goals as goal

pub returns-clause-found : goal.returns-clause-found
returns-clause-found g c =
    found_by table_of c.table_value.result (table_of_line c.args.version c.args.line.now) table_text (TableHasLine c.args.version) c.args.line.now c.table_value.ensures.exact (table_reads c.args.version c.args.line.now)

pub returns-clause-again : goal.returns-clause-again
returns-clause-again g c =
    again_by table_of c.table_value.result (table_of_line c.args.version c.args.line.now) table_text (TableHasLine c.args.version) c.args.line.now c.table_value.ensures.exact (table_reads c.args.version c.args.line.now)
