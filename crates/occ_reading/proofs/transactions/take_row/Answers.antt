use Rattle.occ_reading.proofs.Common.{books, caused, failed, fails, frame_of, in_row, log_row_of, next_fails, next_taken, read_fault, ◌and◌}
use Rattle.occ_reading.specs.Places.{LogRow}
use Rattle.occ_text.specs.declared.faults.ReadFault.TheVariants as read_faults
use Rattle.occ_reading.proofs.RowTaking.{row_taken}
use Rattle.occ_reading.proofs.transactions.take_row.Goals as goal

pub returns-in_err-head-clause-taken : goal.returns-in_err-head-clause-taken
returns-in_err-head-clause-taken g c = λ rows.
    let fault = read_fault c.in_err-head.field-0.0 in
    failed books fault c.from_residual.result _ _ _ _ _ _ c.from_residual.ensures.1 (next_fails books (LogRow (frame_of c.args.version c.args.schema.now c.args.sessions) rows) fault _ _ _ (λ may. may) c.in_err-head.ensures.taken)

pub returns-in_err-reads-clause-taken : goal.returns-in_err-reads-clause-taken
returns-in_err-reads-clause-taken g c = λ rows.
    let frame = frame_of c.args.version c.args.schema.now c.args.sessions in
    let head = next_taken books (LogRow frame rows) c.in_ok-head.head c.in_ok-head.ensures.taken in
    failed books c.in_err-reads.field-0.0 c.from_residual-in_err-reads.result _ _ _ _ _ _ c.from_residual-in_err-reads.ensures.1 (fails c.in_err-reads.field-0.0 _ head.0 (c.in_err-reads.ensures.taken (in_row frame rows c.in_ok-head.head)))

pub returns-in_err-writes-clause-taken : goal.returns-in_err-writes-clause-taken
returns-in_err-writes-clause-taken g c = λ rows.
    let frame = frame_of c.args.version c.args.schema.now c.args.sessions in
    let row = in_row frame rows c.in_ok-head.head in
    let head = next_taken books (LogRow frame rows) c.in_ok-head.head c.in_ok-head.ensures.taken in
    let reads = c.in_ok-reads.ensures.taken row in
    failed books c.in_err-writes.field-0.0 c.from_residual-in_err-writes.result _ _ _ _ _ _ c.from_residual-in_err-writes.ensures.1 (fails c.in_err-writes.field-0.0 _ (head.0 and reads.0) (c.in_err-writes.ensures.taken row))

pub returns-clause-taken : goal.returns-clause-taken
returns-clause-taken g c = λ rows.
    let frame = frame_of c.args.version c.args.schema.now c.args.sessions in
    let row = in_row frame rows c.in_ok-head.head in
    row_taken c.args.version c.args.schema.now c.args.sessions rows c.in_ok-head.head c.in_ok-reads.reads c.in_ok-writes.writes (log_row_of c.row_of.result) (next_taken books (LogRow frame rows) c.in_ok-head.head c.in_ok-head.ensures.taken)
    (c.in_ok-reads.ensures.taken row) (c.in_ok-writes.ensures.taken row) c.row_of.ensures

pub returns-in_err-writes-clause-cause : goal.returns-in_err-writes-clause-cause
returns-in_err-writes-clause-cause g c = caused c.in_err-writes.field-0.0 read_faults.Read c.from_residual-in_err-writes.result _ c.from_residual-in_err-writes.ensures.1 c.in_err-writes.ensures.cause
