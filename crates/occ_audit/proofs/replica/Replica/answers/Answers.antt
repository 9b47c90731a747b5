use Rattle.std.proofs.Common.{sym, ap}
use Rattle.occ_audit.proofs.Common.{object_of, question_of, answer_of}
use Rattle.occ_audit.proofs.Ranges.{one-decides, one-not-rows, span-not-found}
use Rattle.occ_audit.proofs.replica.Replica.answers.Goals as goal

pub returns-in-One-Found : goal.returns-in-One-Found
returns-in-One-Found g c =
    let object = object_of c.in-One-Found.object in
    one-decides (answer_of c.args.given.now) (question_of c.args.question.now) object c.in-One-Found.row c.args.self.now c.row.result c.as_ref.result c.eq.result
    (ap question_of c.in-One-Found.is-0)
    (ap answer_of c.in-One-Found.is-1)
    (sym c.row.ensures)
    c.as_ref.ensures.value
    c.eq.ensures

pub returns-in-One-Rows : goal.returns-in-One-Rows
returns-in-One-Rows g c =
    one-not-rows (answer_of c.args.given.now) (question_of c.args.question.now) _ _ _ c.args.self.now (ap question_of c.in-One-Rows.is-0) (ap answer_of c.in-One-Rows.is-1)

pub returns-in-Span-Found : goal.returns-in-Span-Found
returns-in-Span-Found g c =
    span-not-found (answer_of c.args.given.now) (question_of c.args.question.now) _ _ _ _ c.args.self.now (ap question_of c.in-Span-Found.is-0) (ap answer_of c.in-Span-Found.is-1)
