-- What the calls of a core reply, as replies of the model.
use Rattle.std.specs.Prelude.{◌≡◌, ◌<◌, ⊤, ℕ, List, [], ◌∷◌, map, length, Option, None, Some, Vec}
use Rattle.occ_types.specs.Object.{Object}
use Rattle.occ_model.specs.State.{Write}
use Rattle.occ_model.specs.Log.{LogRow, Writing, rest}
use Rattle.occ_model.specs.World.{World, latest}
use Rattle.occ_model.specs.Event.{Item, Request, Alone, Close, Reply, Entered, Closed, Wrote, NoMore, Finished, EndedBack, RanAlone}
use Rattle.occ_sets.specs.PlainSets.{answer_of}
use Rattle.occ_sets.specs.declared.reads.Answer as code_answer
use Rattle.occ_log.specs.SessionStates.{written_at}
use Rattle.occ_core.specs.CoreParts.{row_placed}
use Rattle.occ_core.specs.declared.outcomes.Outcome as code_outcome
use Rattle.occ_core.specs.declared.outcomes.Outcome.TheVariants as outcomes
use Rattle.occ_core.specs.declared.writing.SingleWrite.{SingleWrite}
use Rattle.occ_core.specs.declared.writing.SingleWrite.TheVariants as writes

module _ {Z : Type 0} where
  -- what a run alone replies
  abbrev pub ran : ℕ × Vec (code_answer.Answer Z) Z → Reply
  ran done = RanAlone done.0 (map answer_of done.1.items)

  -- what is replied by what came of what was handed in; the index of a case is the place of its row
  abbrev pub outcome_of : code_outcome.Outcome Z → Reply
  outcome_of (outcomes.Entered place) = Entered place place
  outcome_of (outcomes.Committed tn) = Finished tn
  outcome_of (outcomes.BackedUp cause) = EndedBack cause
  outcome_of (outcomes.RanAlone tn answers) = RanAlone tn (map answer_of answers.items)
  outcome_of outcomes.MarkedClosed = Closed

  -- operations ran alone
  abbrev pub IsRunAlone : code_outcome.Outcome Z → Type 0
  IsRunAlone (outcomes.RanAlone tn answers) = ⊤
  IsRunAlone outcome = ⊥

  -- what can come of an entry
  abbrev pub CanEnter : Item → code_outcome.Outcome Z → Type 0
  CanEnter (Request number start writes) (outcomes.Entered place) = ⊤
  CanEnter (Alone number operations) outcome = IsRunAlone outcome
  CanEnter (Close number) outcomes.MarkedClosed = ⊤
  CanEnter item outcome = ⊥

  -- what can come of a serial end
  abbrev pub CanEnd : Item → code_outcome.Outcome Z → Type 0
  CanEnd (Request number start writes) (outcomes.Committed tn) = ⊤
  CanEnd (Request number start writes) (outcomes.BackedUp cause) = ⊤
  CanEnd (Alone number operations) outcome = IsRunAlone outcome
  CanEnd (Close number) outcomes.MarkedClosed = ⊤
  CanEnd item outcome = ⊥

-- the row at a place in the order of entry, where it stands in the log
abbrev pub row_in : World → ℕ → Option LogRow
row_in world = row_placed world.base.place world.log

-- the object of a write of that row, by its place among the row's writes
abbrev pub written_in : World → ℕ → ℕ → Option Object
written_in world = written_at (row_in world)

-- the object of the first of some writes
abbrev pub first_object : List Write → Option Object
first_object [] = None
first_object (write ∷ writes) = Some write.0

-- the object of a session's next single write, where one is left
abbrev pub next_object : World → ℕ → Option Object
next_object world session = elim (latest session world.log) [ None ↦ None | Some row ↦ first_object (rest row) ]

-- the places of a session's next single write: that of its latest row in the order of entry, which is in its write phase, and that of the first write of it that isn't done
pub record IsNextWrite (world : World) (session row write : ℕ) : Type 0 where
  pub found : LogRow
  pub there : row_in world row ≡ Some found
  pub own : latest session world.log ≡ Some found
  pub standing : found.standing ≡ Writing write
  pub left : write < length found.writes

-- a single write is named by its places: that of its row in the order of entry, and its own in the row
abbrev pub wrote : World → SingleWrite → Reply
wrote world (writes.Wrote row write) = elim (written_in world row write) [ None ↦ NoMore | Some object ↦ Wrote object ]
wrote world writes.NoMore = NoMore
