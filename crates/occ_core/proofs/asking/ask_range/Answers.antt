use Rattle.std.proofs.Common.{ap, sym, ◌∙◌, option_copied}
use Rattle.occ_types.specs.PlainData.{end_of, question_of}
use Rattle.occ_model.specs.State.{Rows, answer}
use Rattle.occ_core.specs.Performed.{so_far}
use Rattle.occ_core.proofs.Performing.{ranged}
use Rattle.occ_core.proofs.asking.ask_range.Goals as goal

-- the rows are what the tables answer
pub over_shared-requires : goal.over_shared-requires
over_shared-requires g c = record {
  answered = (c.args.tables.now.state, ap (λ q. answer q c.args.tables.now.state) c.in_ok-question.ensures.value ∙ sym c.in_ok-found.ensures.answered ∙ sym (ap Rows c.in_ok-rows.ensures));
}

-- the table's rows have the own writes over them
pub returns-clause-seen : goal.returns-clause-seen
returns-clause-seen g c =
    ranged c.args.tables.now.state (so_far c.args.reads.now c.args.writes.now) c.args.table (end_of (option_copied c.args.lower)) (end_of (option_copied c.args.upper)) (question_of c.in_ok-question.question) c.in_ok-rows.rows c.in_ok-seen.seen
    c.in_ok-question.ensures.value (ap Rows c.in_ok-rows.ensures ∙ c.in_ok-found.ensures.answered) c.in_ok-seen.ensures.seen
