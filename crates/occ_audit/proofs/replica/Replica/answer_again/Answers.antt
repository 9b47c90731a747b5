use Rattle.std.proofs.Common.{ap, ◌∙◌}
use Rattle.occ_sets.specs.Entries.{question_lent}
use Rattle.occ_audit.proofs.Common.{object_of}
use Rattle.occ_audit.proofs.Ranges.{one-answered}
use Rattle.occ_audit.proofs.replica.Replica.answer_again.Goals as goal

pub returns-in_ok-row-in-Key : goal.returns-in_ok-row-in-Key
returns-in_ok-row-in-Key g c =
    let object = object_of c.in-Key.object.now in
    one-answered (question_lent c.args.seen) object.0 object.1 c.in_ok-row-in-Key.row c.args.self.now (ap question_lent c.in-Key.is) (c.in_ok-row-in-Key.ensures ∙ c.row.ensures)
