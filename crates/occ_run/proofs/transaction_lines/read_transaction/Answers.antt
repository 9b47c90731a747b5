use Rattle.occ_text.proofs.Values.{found_by, again_by}
use Rattle.occ_run.specs.Plans.{transaction_of}
use Rattle.occ_run.specs.TransactionLines.{transaction_of_line, transaction_text, TransactionFits}
use Rattle.occ_run.proofs.TransactionLines.{transaction_reads}
use Rattle.occ_run.proofs.transaction_lines.read_transaction.Goals as goal

pub returns-clause-found : goal.returns-clause-found
returns-clause-found g c =
    found_by transaction_of c.transaction_value.result (transaction_of_line c.args.version c.args.sessions c.args.line.now) transaction_text (TransactionFits c.args.version c.args.sessions) c.args.line.now c.transaction_value.ensures
    (transaction_reads c.args.version c.args.sessions c.args.line.now c.ranges.sessions.fits)

pub returns-clause-again : goal.returns-clause-again
returns-clause-again g c =
    again_by transaction_of c.transaction_value.result (transaction_of_line c.args.version c.args.sessions c.args.line.now) transaction_text (TransactionFits c.args.version c.args.sessions) c.args.line.now c.transaction_value.ensures
    (transaction_reads c.args.version c.args.sessions c.args.line.now c.ranges.sessions.fits)
