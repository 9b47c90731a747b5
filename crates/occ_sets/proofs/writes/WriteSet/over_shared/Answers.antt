use Rattle.std.proofs.Common.{sym, ap, ◌∙◌}
use Rattle.occ_types.specs.PlainData.{question_of}
use Rattle.occ_model.specs.State.{Rows}
use Rattle.occ_sets.specs.Overlays.{rows_over}
use Rattle.occ_sets.proofs.Untouched.{untouched}
use Rattle.occ_sets.proofs.writes.WriteSet.over_shared.Goals as goal

-- what is not written is seen as it is
pub returns-then-not-meets-clause-seen : goal.returns-then-not-meets-clause-seen
returns-then-not-meets-clause-seen g c =
    c.in_ok-untouched.ensures.cases
    ∙ sym (untouched g.row.A.Denot (question_of c.args.question.now) c.args.self.now c.requires.answered.0 c.args.rows.now (sym c.meets.ensures ∙ c.if-not-meets.true) c.requires.answered.1)

-- the rows are what the table answers
pub over-requires : goal.over-requires
over-requires g c = record {
  answered = (c.requires.answered.0, c.requires.answered.1 ∙ ap Rows (sym c.in_ok-to_vec.ensures));
}

-- and else the copies have the writes over them
pub returns-clause-seen : goal.returns-clause-seen
returns-clause-seen g c =
    c.in_ok-shared.ensures
    ∙ c.in_ok-seen.ensures.seen
    ∙ ap (rows_over (question_of c.args.question.now) c.args.self.now) c.in_ok-to_vec.ensures
