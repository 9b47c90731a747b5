use Rattle.occ_types.specs.Spelling.{row_text}
use Rattle.occ_text.specs.Spelling.{RowFits}
use Rattle.occ_text.specs.Escapes.{read_row}
use Rattle.occ_text.proofs.Values.{found_by, again_by, row_reads}
use Rattle.occ_text.proofs.texts.row.Goals as goal

pub returns-clause-found : goal.returns-clause-found
returns-clause-found g c = found_by (λ row. row) c.row_value.result (read_row c.args.token.now) row_text RowFits c.args.token.now c.row_value.ensures (row_reads c.args.token.now)

pub returns-clause-again : goal.returns-clause-again
returns-clause-again g c = again_by (λ row. row) c.row_value.result (read_row c.args.token.now) row_text RowFits c.args.token.now c.row_value.ensures (row_reads c.args.token.now)
