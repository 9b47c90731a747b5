use Rattle.occ_reading.proofs.Common.{AskedOne, AskedSpan, ReadOf, books, failed, framed, next_fails, next_taken, object_of, question_of, rows_of}
use Rattle.occ_reading.proofs.RowTaking.{span_shared, span_fails}
use Rattle.occ_reading.proofs.transactions.take_read.Goals as goal

pub returns-in_err-object-clause-taken : goal.returns-in_err-object-clause-taken
returns-in_err-object-clause-taken g c = λ row reads.
    let here = framed c.args.version c.args.schema.now row in
    failed books c.in_err-object.field-0.0 c.from_residual.result _ _ _ _ _ _ c.from_residual.ensures.1
    (next_fails books (ReadOf here reads) c.in_err-object.field-0.0 _ _ _ (λ may. may) c.in_err-object.ensures.taken)

pub returns-in-One-clause-taken : goal.returns-in-One-clause-taken
returns-in-One-clause-taken g c = λ row reads.
    let here = framed c.args.version c.args.schema.now row in
    let asked = rw c.in-One.is at c.in_ok-object.ensures.taken in
    next_taken books (ReadOf here reads) (AskedOne (object_of c.in-One.object) c.in-One.row) asked

pub returns-in_ok-rows-in-Span-2-clause-taken : goal.returns-in_ok-rows-in-Span-2-clause-taken
returns-in_ok-rows-in-Span-2-clause-taken g c = λ row reads.
    let here = framed c.args.version c.args.schema.now row in
    let asked = rw c.in-Span.is at c.in_ok-object.ensures.taken in
    span_shared c.args.version c.args.schema.now (question_of c.in-Span.question) (rows_of c.in_ok-rows-in-Span.rows.items) c.in_ok-rows-in-Span-2.rows here reads c.in-Span.count c.table-table.result
    c.in_ok-rows-in-Span-2.ensures c.table-table.ensures (next_taken books (ReadOf here reads) (AskedSpan (question_of c.in-Span.question) c.in-Span.count) asked) (c.in_ok-rows-in-Span.ensures.taken row reads)

pub returns-in_err-rows-in-Span-clause-taken : goal.returns-in_err-rows-in-Span-clause-taken
returns-in_err-rows-in-Span-clause-taken g c = λ row reads.
    let here = framed c.args.version c.args.schema.now row in
    let asked = rw c.in-Span.is at c.in_ok-object.ensures.taken in
    failed books c.in_err-rows-in-Span.field-0.0 c.from_residual-in_err-rows-in-Span.result _ _ _ _ _ _ c.from_residual-in_err-rows-in-Span.ensures.1
    (span_fails c.in_err-rows-in-Span.field-0.0 (question_of c.in-Span.question) here reads c.in-Span.count c.table-table.result _ c.table-table.ensures (next_taken books (ReadOf here reads) (AskedSpan (question_of c.in-Span.question) c.in-Span.count) asked) (c.in_err-rows-in-Span.ensures.taken row reads))
