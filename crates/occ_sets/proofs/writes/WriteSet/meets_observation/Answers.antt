use Rattle.std.proofs.Common.{◌∙◌, sym, ap}
use Rattle.occ_types.specs.PlainData.{key_of}
use Rattle.occ_model.specs.State.{meets_question}
use Rattle.occ_sets.specs.Entries.{question_lent}
use Rattle.occ_sets.proofs.Meetings.{meets_question-One}
use Rattle.occ_sets.proofs.writes.WriteSet.meets_observation.Goals as goal

-- a single key is looked up
pub returns-in-Key : goal.returns-in-Key
returns-in-Key g c =
    c.writes.ensures
    ∙ sym (meets_question-One c.args.self.now c.in-Key.object.now.table (key_of c.in-Key.object.now.key))
    ∙ ap (λ o. meets_question c.args.self.now (question_lent o)) (sym c.in-Key.is)
