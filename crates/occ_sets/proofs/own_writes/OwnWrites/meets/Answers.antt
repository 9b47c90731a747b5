use Rattle.std.proofs.Common.{◌∙◌, sym, ap}
use Rattle.occ_types.specs.PlainData.{key_of, question_of}
use Rattle.occ_model.specs.State.{meets_question}
use Rattle.occ_sets.specs.OwnWrites.{written}
use Rattle.occ_sets.proofs.Meetings.{meets_question-One}
use Rattle.occ_sets.proofs.own_writes.OwnWrites.meets.Goals as goal

-- a single key is looked up
pub returns-in-Many-One : goal.returns-in-Many-One
returns-in-Many-One g c =
    c.writes.ensures
    ∙ sym (meets_question-One c.args.self.now c.in-Many-One.object.table (key_of c.in-Many-One.object.key))
    ∙ ap (λ q. meets_question c.args.self.now (question_of q)) (sym c.in-Many-One.is-1)

-- a range is searched for
pub returns-in-Many-Span : goal.returns-in-Many-Span
returns-in-Many-Span g c =
    c.meets_range.ensures
    ∙ ap (λ ws. meets_question ws (question_of c.args.question.now)) (c.deref.ensures ∙ ap written (sym c.in-Many-Span.is-0) ∙ c.self.view_is)
