-- What can be asked of the store, and what it replies.
use Rattle.std.specs.Prelude.{ℕ, Bool, List}
use Rattle.occ_types.specs.Object.{Object}
use Rattle.occ_types.specs.Question.{Question}
use Rattle.occ_types.specs.declared.fault.Fault.{Fault}
use Rattle.occ_model.specs.State.{Write, Answer}
use Rattle.occ_model.specs.Operations.{Operation}
use Rattle.occ_model.specs.declared.verdict.Verdict.{Verdict}
use Rattle.occ_model.specs.declared.verdict.Cause.{Cause}

-- what a session hands in: a request with its number, its start and its writes; operations to run alone; or its closing mark
pub data Item : Type 0 where
  Request : ℕ → ℕ → List Write → Item
  Alone : ℕ → List Operation → Item
  Close : ℕ → Item

-- what is asked of the store; the session comes first, then the number, then the start
pub data Event : Type 0 where
  Read : ℕ → ℕ → ℕ → Question → Event
  Forget : ℕ → ℕ → Event
  Enter : ℕ → Item → Event
  Decide : ℕ → Event
  WriteOne : ℕ → Event
  Finish : ℕ → Event
  BackUp : ℕ → Event
  SerialEnd : ℕ → Item → Event
  RunAlone : ℕ → ℕ → List Operation → Event
  Checkpoint : Event

-- what an event replies
pub data Reply : Type 0 where
  Refused : Fault → Reply
  Answered : Answer → Reply
  -- whether there was a read phase
  Forgotten : Bool → Reply
  -- the place of the row, and the index of its case
  Entered : ℕ → ℕ → Reply
  Closed : Reply
  Decided : Verdict → Reply
  Wrote : Object → Reply
  NoMore : Reply
  Finished : ℕ → Reply
  BackedUp : ℕ → Reply
  EndedBack : Cause → Reply
  RanAlone : ℕ → List Answer → Reply
  Folded : ℕ → Reply
