use Rattle.std.proofs.Common.{◌≡◌, ◌+◌, ◌-◌, length, vec_capacity, ap, arith, []}
use Rattle.occ_reading.proofs.Common.{LogRowFits, books, caused, count_more, failed, frame_of, gathered_all, gathered_fails, gathered_more, gathered_none, log_of, log_row_of, row_lines, rows_to_come, viewed_more}
use Rattle.occ_text.specs.declared.faults.ReadFault.TheVariants as read_faults
use Rattle.occ_reading.proofs.RowTaking.{room-more}
use Rattle.occ_reading.proofs.transactions.take_rows.Goals as goal

pub loop-init : goal.loop-init
loop-init g c =
    let none : log_of c.new-log.result.items ≡ [] = ap log_of c.new-log.ensures.items in
    record {
      count = ap length none;
      room = λ none. c.new-log.ensures.capacity;
      taken = gathered_none books (row_lines c.args.schema.now) (LogRowFits c.args.version c.args.schema.now c.args.sessions) (λ _. rows_to_come (frame_of c.args.version c.args.schema.now c.args.sessions)) (log_of c.new-log.result.items) c.args.count none;
    }

pub loop-preserved : goal.loop-preserved
loop-preserved g c =
    let more = viewed_more (log_row_of {Z = g.row.A.Denot}) c.loop.log.items c.keep.new.kept.items c.in_ok-row.row c.in_ok-keep.ensures in
    record {
      count = count_more (log_of c.loop.log.items) (log_of c.keep.new.kept.items) (log_row_of c.in_ok-row.row) c.loop.counter more c.loop.invariant.count;
      room = room-more c.loop.log.items c.keep.new.kept.items c.in_ok-row.row (vec_capacity c.keep.new.kept) c.in_ok-keep.ensures;
      taken = gathered_more books (rows_to_come (frame_of c.args.version c.args.schema.now c.args.sessions)) (log_of c.loop.log.items) (log_of c.keep.new.kept.items) (log_row_of c.in_ok-row.row) c.args.count c.loop.counter c.loop-test.true more c.loop.invariant.taken
          (c.in_ok-row.ensures.taken (c.args.count - (c.loop.counter + 1)));
    }

pub returns-in_err-row-clause-taken : goal.returns-in_err-row-clause-taken
returns-in_err-row-clause-taken g c =
    failed books c.in_err-row.field-0.0 c.from_residual.result _ _ _ _ _ _ c.from_residual.ensures.1
    (gathered_fails books c.in_err-row.field-0.0 _ (rows_to_come (frame_of c.args.version c.args.schema.now c.args.sessions)) c.args.count c.loop.counter c.loop-test.true c.loop.invariant.taken (c.in_err-row.ensures.taken (c.args.count - (c.loop.counter + 1))))

pub returns-clause-taken : goal.returns-clause-taken
returns-clause-taken g c = gathered_all books (rows_to_come (frame_of c.args.version c.args.schema.now c.args.sessions)) c.args.count c.loop.counter (omega arith) c.loop.invariant.count c.loop.invariant.taken

pub returns-in_err-row-clause-cause : goal.returns-in_err-row-clause-cause
returns-in_err-row-clause-cause g c = caused c.in_err-row.field-0.0 read_faults.Read c.from_residual.result _ c.from_residual.ensures.1 c.in_err-row.ensures.cause

pub keep-requires : goal.keep-requires
keep-requires g c = c.loop.invariant.room
