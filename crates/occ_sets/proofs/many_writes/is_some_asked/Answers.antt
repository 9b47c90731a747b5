use Rattle.std.proofs.lemmas.Iterator.Consumers.{YieldsList-from_rest}
use Rattle.std.proofs.lemmas.Iterator.Search.{any_from_yields_List}
use Rattle.std.proofs.Common.{◌≡◌, ◌∙◌, rules, tests}
use Rattle.std.specs.List.{list_any}
use Rattle.std.specs.Map.{keys_of}
use Rattle.occ_types.specs.Question.{asks}
use Rattle.occ_types.specs.PlainData.{object_of, question_of}
use Rattle.occ_sets.proofs.Meetings.{meets_question-keys}
use Rattle.occ_sets.proofs.many_writes.is_some_asked.Goals as goal

-- each object is tested
pub returns : goal.returns
returns g c =
    let es = c.args.map.now.entries in
    let question = question_of c.args.question.now in
    let found : c.any.result ≡ list_any (λ o. asks question (object_of o)) (keys_of es) = any_from_yields_List (λ o. asks question (object_of o)) _ _ c.any.result c.any.ensures.ran (YieldsList-from_rest (keys_of es) cc) (λ x b q k. search (rules, tests)) in
    found ∙ meets_question-keys question es
