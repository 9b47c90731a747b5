-- What clauses see of the code's sets: the plain writes and observations of the model.
use Rattle.std.specs.Prelude.{List, map, Option}
use Rattle.occ_types.specs.declared.objects.Object as code_object
use Rattle.occ_types.specs.declared.keys.Key as code_key
use Rattle.occ_types.specs.Key.{Key}
use Rattle.occ_types.specs.Row.{Row}
use Rattle.occ_types.specs.PlainData.{key_of, object_of, question_of}
use Rattle.occ_model.specs.State.{Write, Answer, Found, Rows, Observation}
use Rattle.occ_sets.specs.declared.reads.Answer as code_answer
use Rattle.occ_sets.specs.declared.reads.Answer.TheVariants as answers
use Rattle.occ_sets.specs.declared.reads.Observation as code_observation

module _ {Z : Type 0} where
  -- the plain write
  abbrev pub write_of : code_object.Object Z × Option Row → Write
  write_of e = (object_of e.0, e.1)

  -- the plain writes, in their order
  abbrev pub writes_of : List (code_object.Object Z × Option Row) → List Write
  writes_of = map write_of

  -- the plain keys and rows of a range
  abbrev pub rows_of : List (code_key.Key Z × Row) → List (Key × Row)
  rows_of = map (λ e. (key_of e.0, e.1))

  -- the plain answer
  abbrev pub answer_of : code_answer.Answer Z → Answer
  answer_of (answers.Found row) = Found row
  answer_of (answers.Rows rows) = Rows rows

  -- the plain question and answer
  abbrev pub observation_of : code_observation.Observation Z → Observation
  observation_of o = (question_of o.question, answer_of o.answer)

  -- the plain observations, in their order
  abbrev pub observations_of : List (code_observation.Observation Z) → List Observation
  observations_of = map observation_of
