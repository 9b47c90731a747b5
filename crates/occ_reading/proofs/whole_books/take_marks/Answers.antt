use Rattle.occ_reading.proofs.Common.{Marks, books, failed, fails, frame_of, next_fails, next_taken, read_fault}
use Rattle.occ_reading.proofs.Sections.{marks_taken}
use Rattle.occ_reading.proofs.whole_books.take_marks.Goals as goal

pub returns-clause-taken : goal.returns-clause-taken
returns-clause-taken g c = λ version schema.
    let first = next_taken books (Marks (frame_of version schema c.args.sessions)) c.in_ok-count.count c.in_ok-count.ensures.gives in
    marks_taken c.args.sessions c.in_ok-count.count c.in_ok-marks.marks.marks first.0 (c.in_ok-marks.ensures.taken version schema 0)

pub returns-in_err-count-clause-taken : goal.returns-in_err-count-clause-taken
returns-in_err-count-clause-taken g c = λ version schema.
    let fault = read_fault c.in_err-count.field-0.0 in
    failed books fault c.from_residual.result _ _ _ _ _ _ c.from_residual.ensures.1 (next_fails books (Marks (frame_of version schema c.args.sessions)) fault _ _ _ (λ may. may) c.in_err-count.ensures.gives)

pub returns-in_err-marks-clause-taken : goal.returns-in_err-marks-clause-taken
returns-in_err-marks-clause-taken g c = λ version schema.
    let first = next_taken books (Marks (frame_of version schema c.args.sessions)) c.in_ok-count.count c.in_ok-count.ensures.gives in
    failed books c.in_err-marks.field-0.0 c.from_residual-in_err-marks.result _ _ _ _ _ _ c.from_residual-in_err-marks.ensures.1 (fails c.in_err-marks.field-0.0 _ first.0 (c.in_err-marks.ensures.taken version schema 0))
