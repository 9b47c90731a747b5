use Rattle.std.proofs.Common.{ap, ◌∙◌}
use Rattle.occ_audit.proofs.Common.{key_of, question_of}
use Rattle.occ_audit.proofs.Ranges.{one-answered}
use Rattle.occ_audit.proofs.replica.Replica.answer.Goals as goal

pub returns-in_ok-row-in-One : goal.returns-in_ok-row-in-One
returns-in_ok-row-in-One g c =
    one-answered (question_of c.args.question.now) c.in-One.object.table (key_of c.in-One.object.key) c.in_ok-row-in-One.row c.args.self.now (ap question_of c.in-One.is) (c.in_ok-row-in-One.ensures ∙ c.row.ensures)
