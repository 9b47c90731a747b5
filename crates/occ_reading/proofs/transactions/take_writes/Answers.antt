use Rattle.std.proofs.Common.{◌∷◌, map, length, refl, sym, ap, subst, arith, []}
use Rattle.occ_reading.proofs.Common.{IsDistinctWrites, WriteFits, books, caused, count_more, failed, framed, gathered_all, gathered_none, object_of, single_lines, spelled, write_line, writes_to_come}
use Rattle.occ_text.specs.declared.faults.ReadFault.TheVariants as read_faults
use Rattle.occ_reading.proofs.RowTaking.{distinct-more, not_some}
use Rattle.occ_reading.proofs.RowPlaces.{write_more, write_fails, add_fails, no_read_failed}
use Rattle.occ_reading.proofs.transactions.take_writes.Goals as goal

pub loop-init : goal.loop-init
loop-init g c = record {
  count = ap length c.in_ok-writes.ensures;
  distinct = subst IsDistinctWrites (sym c.in_ok-writes.ensures) tt;
  taken = λ row.
      gathered_none books (λ write. write_line c.args.schema.now write ∷ []) (WriteFits c.args.version c.args.schema.now) (λ writes k. writes_to_come (framed c.args.version c.args.schema.now row) k (map (λ write. write.0) writes)) c.in_ok-writes.writes c.args.count c.in_ok-writes.ensures;
}

pub loop-preserved : goal.loop-preserved
loop-preserved g c =
    let added = rw c.in_ok-read_at_line.ensures.taken at c.add_write.ensures.ok in
    let unwritten = rw c.in_ok-read_at_line.ensures.taken at c.add_write.ensures.unwritten in
    record {
      count = count_more c.loop.writes c.add_write.new.writes (object_of c.in_ok-object.object, c.in_ok-object.row) c.loop.counter added c.loop.invariant.count;
      distinct = distinct-more c.loop.writes c.add_write.new.writes (object_of c.in_ok-object.object) c.in_ok-object.row (not_some _ _ refl unwritten) added c.loop.invariant.distinct;
      taken = λ row.
          write_more (object_of c.in_ok-object.object, c.in_ok-object.row) (framed c.args.version c.args.schema.now row) c.args.count c.loop.counter c.loop.writes c.add_write.new.writes _ _ _ _ c.loop-test.true (c.loop.invariant.taken row)
          c.in_ok-object.ensures.taken unwritten added;
    }

pub returns-in_err-object-clause-taken : goal.returns-in_err-object-clause-taken
returns-in_err-object-clause-taken g c = λ row.
    failed books c.in_err-object.field-0.0 c.from_residual-in_err-object.result _ _ _ _ _ _ c.from_residual-in_err-object.ensures.1
    (write_fails c.in_err-object.field-0.0 (framed c.args.version c.args.schema.now row) c.args.count c.loop.counter c.loop.writes _ _ _ c.loop-test.true (c.loop.invariant.taken row) c.in_err-object.ensures.taken)

pub returns-in_err-read_at_line-clause-taken : goal.returns-in_err-read_at_line-clause-taken
returns-in_err-read_at_line-clause-taken g c = λ row.
    failed books c.in_err-read_at_line.field-0.0 c.from_residual-in_err-read_at_line.result _ _ _ _ _ _ c.from_residual-in_err-read_at_line.ensures.1
    (add_fails c.add_write.result c.in_err-read_at_line.field-0.0 (object_of c.in_ok-object.object, c.in_ok-object.row) (framed c.args.version c.args.schema.now row) c.args.count c.loop.counter c.number.result c.loop.writes _ _ _ _ c.tables-tables.ensures.fits
    c.loop-test.true (c.loop.invariant.taken row) c.in_ok-object.ensures.taken c.in_ok-object.ensures.line c.number.ensures c.add_write.ensures.err c.in_err-read_at_line.ensures.exact)

pub returns-clause-taken : goal.returns-clause-taken
returns-clause-taken g c = λ row.
    let here = framed c.args.version c.args.schema.now row in
    let all = gathered_all books (λ k. writes_to_come here k (map (λ write. write.0) c.loop.writes)) c.args.count c.loop.counter (omega arith) c.loop.invariant.count (c.loop.invariant.taken row) in
    (spelled (single_lines (write_line c.args.schema.now) c.loop.writes) all.0, (all.1, c.loop.invariant.distinct))

pub returns-in_err-object-clause-cause : goal.returns-in_err-object-clause-cause
returns-in_err-object-clause-cause g c = caused c.in_err-object.field-0.0 read_faults.Read c.from_residual-in_err-object.result _ c.from_residual-in_err-object.ensures.1 c.in_err-object.ensures.cause

pub returns-in_err-read_at_line-clause-cause : goal.returns-in_err-read_at_line-clause-cause
returns-in_err-read_at_line-clause-cause g c =
    caused c.in_err-read_at_line.field-0.0 read_faults.Read c.from_residual-in_err-read_at_line.result _ c.from_residual-in_err-read_at_line.ensures.1
    (no_read_failed c.add_write.result c.in_err-read_at_line.field-0.0 c.number.result _ c.in_err-read_at_line.ensures.exact)
