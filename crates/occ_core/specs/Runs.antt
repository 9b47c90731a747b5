-- What a list of steps does to a core, and what it is replied: a run of the model.
use Rattle.std.specs.Prelude.{◌≡◌, ◌⊎◌, true, List, [], ◌∷◌, Option, None, Some}
use Rattle.occ_types.specs.declared.fault.Fault.TheVariants.{Memory}
use Rattle.occ_types.specs.Question.{One, Span}
use Rattle.occ_types.specs.PlainData.{key_of, end_of, object_of}
use Rattle.occ_model.specs.State.{Found, Rows}
use Rattle.occ_model.specs.Event.{Event, Item, Alone, Read, Forget, Enter, Decide, WriteOne, Finish, BackUp, SerialEnd, RunAlone, Checkpoint, Reply, Refused, Answered, Forgotten, Decided, Wrote, NoMore, Finished, BackedUp, Folded}
use Rattle.occ_model.specs.Refusal.{refusal, has_writes_left}
use Rattle.occ_core.specs.Core.{Seen, Transition}
use Rattle.occ_core.specs.Totals.{moved}
use Rattle.occ_core.specs.Replies.{outcome_of}
use Rattle.occ_sets.specs.Operations.{ops_of}
use Rattle.occ_queue.specs.Items.{item_of}
use Rattle.occ_core.specs.declared.steps.Step as code_step
use Rattle.occ_core.specs.declared.steps.Step.TheVariants as steps
use Rattle.occ_core.specs.declared.replies.Reply as code_reply
use Rattle.occ_core.specs.declared.replies.Reply.TheVariants as replies

module _ {Z : Type 0} where
  -- the event that a step is
  abbrev pub event_of : code_step.Step Z → Event
  event_of (steps.Read session number start table key) = Read session number start (One table (key_of key))
  event_of (steps.Scan session number start table lower upper) = Read session number start (Span table (end_of lower) (end_of upper))
  event_of (steps.Forget session number) = Forget session number
  event_of (steps.Enter session item) = Enter session (item_of item)
  event_of (steps.Decide session) = Decide session
  event_of (steps.WriteOne session) = WriteOne session
  event_of (steps.Finish session) = Finish session
  event_of (steps.BackUp session) = BackUp session
  event_of (steps.SerialEnd session item) = SerialEnd session (item_of item)
  event_of (steps.RunAlone session number operations) = RunAlone session number (ops_of operations.items)
  event_of steps.Checkpoint = Checkpoint

  -- the plain reply
  abbrev pub reply_of : code_reply.Reply Z → Reply
  reply_of (replies.Found row) = Answered (Found row)
  reply_of (replies.Rows rows) = Answered (Rows rows)
  reply_of (replies.Forgotten there) = Forgotten there
  reply_of (replies.Outcome outcome) = outcome_of outcome
  reply_of (replies.Decided verdict) = Decided verdict
  reply_of (replies.Wrote object) = Wrote (object_of object)
  reply_of replies.NoMore = NoMore
  reply_of (replies.Finished tn) = Finished tn
  reply_of (replies.BackedUp number) = BackedUp number
  reply_of (replies.Folded count) = Folded count
  reply_of (replies.Refused fault) = Refused fault
  reply_of (replies.RefusedItem refused) = Refused refused.fault

  -- the item that a reply hands back
  abbrev pub handed_back : code_reply.Reply Z → Option Item
  handed_back (replies.RefusedItem refused) = Some (item_of refused.value)
  handed_back reply = None

  -- the item that is handed in: that of an entry or a serial end, or that which a list of operations is
  abbrev pub handed_in : code_step.Step Z → Option Item
  handed_in (steps.Enter session item) = Some (item_of item)
  handed_in (steps.SerialEnd session item) = Some (item_of item)
  handed_in (steps.RunAlone session number operations) = Some (Alone number (ops_of operations.items))
  handed_in step = None

  -- it is to be handed back where it is refused
  abbrev pub owed : code_step.Step Z → Reply → Option Item
  owed step (Refused fault) = handed_in step
  owed step reply = None

  -- A single write is put off where there is one left, nothing refuses it, and there is no memory to name its object in the reply. (Of a deletion the model says that it takes none; its name may.)
  abbrev pub IsPutOff : Seen → code_step.Step Z → code_reply.Reply Z → Seen → Type 0
  IsPutOff old (steps.WriteOne session) (replies.Refused fault) new = (refusal old.world (WriteOne session) ≡ None) × (has_writes_left old.world session ≡ true) × (fault ≡ Memory) × (new ≡ old)
  IsPutOff old step reply new = ⊥

  -- what a step is replied, and what it makes of the core
  abbrev pub Answers : Seen → code_step.Step Z → code_reply.Reply Z → Seen → Type 0
  Answers old step reply new = (Transition old (event_of step) (reply_of reply) new ⊎ IsPutOff old step reply new) × (handed_back reply ≡ owed step (reply_of reply))
      × (new.totals ≡ moved old.totals (reply_of reply))

  -- the steps, one after another, each with its reply
  abbrev pub Runs : Seen → List (code_step.Step Z) → List (code_reply.Reply Z) → Seen → Type 0
  Runs old [] [] new = new ≡ old
  Runs old (step ∷ others) (reply ∷ further) new = (next : Seen) × Answers old step reply next × Runs next others further new
  Runs old others further new = ⊥
