use Rattle.std.proofs.Common.{◌∙◌, sym, ap}
use Rattle.occ_types.specs.PlainData.{question_of}
use Rattle.occ_model.specs.State.{meets_question}
use Rattle.occ_sets.proofs.Untouched.{untouched}
use Rattle.occ_sets.proofs.copies.PrivateCopy.meets.Goals as goal

-- a range of which nothing is written is seen as the table answers it
pub returns-clause-untouched : goal.returns-clause-untouched
returns-clause-untouched g c = λ none state rows answers.
    untouched g.row.A.Denot (question_of c.args.question.now) c.args.self.now.writes state rows
    (ap (λ m. meets_question m.writes (question_of c.args.question.now)) (sym c.self.view_is) ∙ sym c.meets.ensures ∙ none) answers
