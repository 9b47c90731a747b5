-- A client of one session, and how its transactions end (our own choice).
use Rattle.std.specs.Prelude.{⊤, ◌≡◌, ◌⊎◌, ◌<◌, ◌+◌, ℕ, Bool, true, false, cond, not, List, [], ◌∷◌, Option, None, is_some, MatchOption, Result, Ok, Err}
use Rattle.occ_types.specs.declared.fault.Fault.{Fault}
use Rattle.occ_types.specs.declared.fault.Fault.TheVariants as faults
use Rattle.occ_types.specs.declared.fault.Refused as code_refused
use Rattle.occ_types.specs.declared.limits.TheConstants.{MAX_NUMBER}
use Rattle.occ_types.specs.Schema.{fault_if, first_fault}
use Rattle.occ_model.specs.State.{Write}
use Rattle.occ_model.specs.World.{World, has_session}
use Rattle.occ_model.specs.Event.{Item, Request, Alone, Close, Reply, Refused, Closed, Finished, EndedBack}
use Rattle.occ_sets.specs.Sets.{Copied}
use Rattle.occ_model.specs.Replies.{replied, replied_back}
use Rattle.occ_core.specs.AutoCheckpoints.{no_checkpoints, counted}
use Rattle.occ_core.specs.declared.auto_checkpoints.AutoCheckpoint.{AutoCheckpoint}
use Rattle.occ_core.specs.declared.outcomes.Outcome as code_outcome
use Rattle.occ_core.specs.declared.outcomes.Outcome.TheVariants as outcomes
use Rattle.occ_client.specs.Ends.{Ends, WritesOut, is_refusal}
use Rattle.occ_open.specs.Transactions.{begin_fault}
use Rattle.occ_client.specs.declared.ending.End.{End}
use Rattle.occ_client.specs.declared.ending.End.TheVariants as ends
use Rattle.occ_client.specs.declared.ending.Handed.{Handed}
use Rattle.occ_client.specs.declared.ending.Handed.TheVariants as handed

pub record Client : Type 0 where
  pub session : ℕ
  -- the number that its next transaction takes, or the one that is open
  pub next : ℕ
  -- its closing mark has entered
  pub closed : Bool
  -- the transaction that is open, if one is
  pub current : Option Copied
  -- it came back from an end that was refused, and others may share its writes
  pub returned : Bool
  -- the transaction before it was decided to commit, and stopped before all of its single writes were done
  pub writing : Bool
  -- after how many of its commits it makes a checkpoint, and how many it counted
  pub checkpoints : AutoCheckpoint

-- of a session that has done nothing yet
abbrev pub fresh_client : ℕ → Client
fresh_client session = record { session = session; next = 1; closed = false; current = None; returned = false; writing = false; checkpoints = no_checkpoints }

-- the transaction that is open has the next number, and the closing mark one behind it; the one before it is not in its write phase
abbrev pub HasNext : ℕ → Bool → Option Copied → Type 0
HasNext next writing current = MatchOption current ⊤ (λ copy. (copy.number ≡ next) × (next < MAX_NUMBER) × (writing ≡ false))

-- why no transaction begins
abbrev pub begin_refusal : World → Client → Option Fault
begin_refusal world client = first_fault (
    fault_if (not (has_session world client.session)) faults.NoSession
    ∷ fault_if client.closed faults.Closed
    ∷ fault_if client.writing faults.SessionBusy
    ∷ begin_fault client.current client.next
    ∷ [])

-- why the session isn't closed
abbrev pub close_refusal : Client → Option Fault
close_refusal client = first_fault (
    fault_if client.closed faults.Closed
    ∷ fault_if (is_some client.current) faults.ReadOpen
    ∷ [])

-- how a transaction ended, as the reply of the model
abbrev pub end_reply : End → Reply
end_reply (ends.Committed tn) = Finished tn
end_reply (ends.BackedUp cause) = EndedBack cause

abbrev pub ending : Result End Fault → Reply
ending = replied end_reply

-- and so where what was handed in comes back
abbrev pub ending_back : {X : Type 0} → Result End (code_refused.Refused X) → Reply
ending_back = replied_back end_reply

-- a closing mark entered
abbrev pub closing : {X : Type 0} → Result X Fault → Reply
closing = replied (λ done. Closed)

-- a transaction ended
abbrev pub IsEnd : {Z : Type 0} → code_outcome.Outcome Z → Type 0
IsEnd (outcomes.Committed tn) = ⊤
IsEnd (outcomes.BackedUp cause) = ⊤
IsEnd outcome = ⊥

abbrev pub IsRequest : Item → Type 0
IsRequest (Request number start writes) = ⊤
IsRequest (Alone number operations) = ⊥
IsRequest (Close number) = ⊥

abbrev pub writes_in : Item → List Write
writes_in (Request number start writes) = writes
writes_in item = []

-- what came of a request that was handed in, as the reply of the model
abbrev pub handed_reply : Handed → Reply
handed_reply (handed.Ended end) = end_reply end
handed_reply (handed.Stopped fault) = Refused fault

abbrev pub is_stopped : Handed → Bool
is_stopped (handed.Ended end) = false
is_stopped (handed.Stopped fault) = true

abbrev pub stopped_in : {X : Type 0} → Result Handed X → Bool
stopped_in (Ok came) = is_stopped came
stopped_in (Err refusal) = false

-- `commit`: the open transaction ends, or the one before it goes on in its write phase
abbrev pub CommitsNext : Bool → Client → World → Bool → Reply → World → Type 0
CommitsNext true client old stopped reply new = WritesOut client.session old reply new × (stopped ≡ is_refusal reply)
CommitsNext false client old stopped reply new = MatchOption client.current
    ((reply ≡ Refused faults.NoReadOpen) × (new ≡ old) × (stopped ≡ false))
    (λ copy. Ends client.session copy old stopped reply new)

abbrev pub Commits : Client → World → Bool → Reply → World → Type 0
Commits client old stopped reply new = CommitsNext client.writing client old stopped reply new

-- the number of the open transaction is spent
abbrev pub spent : Client → Client
spent client = record client { next = client.next + 1; current = None; returned = false }

-- a commit is counted, and a back-up is not
abbrev pub count_end : End → Client → Client
count_end (ends.Committed tn) client = record client { checkpoints = counted client.checkpoints }
count_end (ends.BackedUp cause) client = client

-- the client after operations ran alone, which is a commit
abbrev pub after_alone : Client → Client
after_alone client = record client { next = client.next + 1; checkpoints = counted client.checkpoints }

-- the client after a transaction ended so
abbrev pub after_end : End → Client → Client
after_end end client = count_end end (cond client.writing (record client { current = None; writing = false }) (spent client))

-- and after an end that was refused: the transaction is open as it was, or its write phase has begun and stopped
abbrev pub StaysOrStops : Client → Client → Type 0
StaysOrStops old new = (new ≡ record old { returned = new.returned }) ⊎ ((old.writing ≡ false) × (new ≡ record (spent old) { writing = true }))

-- a world is that after the end of a transaction, which had this reply
pub record IsLastEnd (reply : Reply) (world : World) : Type 0 where
  pub before : World
  pub client : Client
  pub stopped : Bool
  pub ends : Commits client before stopped reply world
