use Rattle.std.proofs.lemmas.Iterator.{YieldsList-from_slice}
use Rattle.std.proofs.lemmas.Iterator.Search.{any_from_yields_List}
use Rattle.std.proofs.Common.{◌≡◌, ◌∙◌, rules, tests}
use Rattle.std.specs.List.{list_any}
use Rattle.occ_types.specs.Question.{asks}
use Rattle.occ_types.specs.PlainData.{object_of, question_of}
use Rattle.occ_sets.proofs.Meetings.{meets_question-entries}
use Rattle.occ_sets.proofs.few_writes.meets_some.Goals as goal

-- each write is tested
pub returns : goal.returns
returns g c =
    let es = c.args.writes.now in
    let question = question_of c.args.question.now in
    let found : c.any.result ≡ list_any (λ e. asks question (object_of e.0)) es = any_from_yields_List (λ e. asks question (object_of e.0)) _ _ c.any.result c.any.ensures.ran (YieldsList-from_slice es cc) (λ x b q k. search (rules, tests)) in
    found ∙ meets_question-entries question es
