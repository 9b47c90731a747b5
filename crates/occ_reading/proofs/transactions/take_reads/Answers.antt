use Rattle.std.proofs.Common.{◌+◌, ◌-◌, length, ap, arith}
use Rattle.occ_reading.proofs.Common.{Memory, ReadFits, books, caused, count_more, failed, framed, gathered_all, gathered_fails, gathered_more, gathered_none, observation_of, read_lines, reads_to_come}
use Rattle.occ_text.specs.declared.faults.ReadFault.TheVariants as read_faults
use Rattle.occ_reading.proofs.transactions.take_reads.Goals as goal

pub loop-init : goal.loop-init
loop-init g c = record {
  count = ap length c.in_ok-reads.ensures;
  taken = λ row. gathered_none books (read_lines c.args.schema.now) (ReadFits c.args.version c.args.schema.now) (λ _. reads_to_come (framed c.args.version c.args.schema.now row)) c.in_ok-reads.reads c.args.count c.in_ok-reads.ensures;
}

pub loop-preserved : goal.loop-preserved
loop-preserved g c = record {
  count = count_more c.loop.reads c.note.new.reads (observation_of c.in_ok-read.read) c.loop.counter c.in_ok-note.ensures c.loop.invariant.count;
  taken = λ row.
      gathered_more books (reads_to_come (framed c.args.version c.args.schema.now row)) c.loop.reads c.note.new.reads (observation_of c.in_ok-read.read) c.args.count c.loop.counter c.loop-test.true c.in_ok-note.ensures (c.loop.invariant.taken row)
      (c.in_ok-read.ensures.taken row (c.args.count - (c.loop.counter + 1)));
}

pub returns-in_err-read-clause-taken : goal.returns-in_err-read-clause-taken
returns-in_err-read-clause-taken g c = λ row.
    failed books c.in_err-read.field-0.0 c.from_residual-in_err-read.result _ _ _ _ _ _ c.from_residual-in_err-read.ensures.1
    (gathered_fails books c.in_err-read.field-0.0 _ (reads_to_come (framed c.args.version c.args.schema.now row)) c.args.count c.loop.counter c.loop-test.true (c.loop.invariant.taken row) (c.in_err-read.ensures.taken row (c.args.count - (c.loop.counter + 1))))

pub returns-clause-taken : goal.returns-clause-taken
returns-clause-taken g c = λ row. gathered_all books (reads_to_come (framed c.args.version c.args.schema.now row)) c.args.count c.loop.counter (omega arith) c.loop.invariant.count (c.loop.invariant.taken row)

pub returns-in_err-note-clause-taken : goal.returns-in_err-note-clause-taken
returns-in_err-note-clause-taken g c = λ row. failed books Memory c.from_residual-in_err-note.result _ _ _ _ _ _ c.from_residual-in_err-note.ensures.1 tt

pub returns-in_err-read-clause-cause : goal.returns-in_err-read-clause-cause
returns-in_err-read-clause-cause g c = caused c.in_err-read.field-0.0 read_faults.Read c.from_residual-in_err-read.result _ c.from_residual-in_err-read.ensures.1 c.in_err-read.ensures.cause
