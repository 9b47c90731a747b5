use Rattle.occ_text.specs.Operations.{operation_of, operation_text, OperationFits}
use Rattle.occ_text.specs.OperationReading.{read_operation}
use Rattle.occ_text.proofs.Values.{found_by, again_by}
use Rattle.occ_text.proofs.OperationsSpelled.{operation_reads}
use Rattle.occ_text.proofs.operation_reading.read_operation.Goals as goal

pub returns-clause-found : goal.returns-clause-found
returns-clause-found g c = found_by operation_of c.operation_value.result (read_operation c.args.version c.args.token.now) operation_text (OperationFits c.args.version) c.args.token.now c.operation_value.ensures (operation_reads c.args.version c.args.token.now)

pub returns-clause-again : goal.returns-clause-again
returns-clause-again g c = again_by operation_of c.operation_value.result (read_operation c.args.version c.args.token.now) operation_text (OperationFits c.args.version) c.args.token.now c.operation_value.ensures (operation_reads c.args.version c.args.token.now)
