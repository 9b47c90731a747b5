-- What clauses see of what a list of operations did: the progress of the model.
use Rattle.std.specs.Prelude.{List, [], map}
use Rattle.occ_types.specs.Object.{Object}
use Rattle.occ_types.specs.Question.{Question, One}
use Rattle.occ_model.specs.State.{Write, Observation}
use Rattle.occ_model.specs.Operations.{Progress}
use Rattle.occ_sets.specs.PlainSets.{answer_of}
use Rattle.occ_core.specs.declared.performed.Performed as code

module _ {Z : Type 0} where
  -- what has been read, written and answered
  abbrev pub progress_of : code.Performed Z → Progress
  progress_of done = record { reads = done.reads; writes = done.writes; answers = map answer_of done.answers.items }

-- what has been read and written, with no answer
abbrev pub so_far : List Observation → List Write → Progress
so_far reads writes = record { reads = reads; writes = writes; answers = [] }

-- the question for one object
abbrev pub one : Object → Question
one object = One object.0 object.1
