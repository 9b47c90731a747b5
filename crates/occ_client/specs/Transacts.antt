-- Whole transactions of a client, which are tried again after a back-up (our own choice).
use denote.Ref.{MutBor}
use denote.Param.Members.{Called, Mut}
use Rattle.std.specs.Prelude.{⊤, ◌≡◌, ◌⊎◌, ℕ, zero, suc, ◌+◌, ◌<◌, false, Option, None, Some, is_some, MatchOption, Result, Ok, Err}
use Rattle.occ_types.specs.declared.fault.Fault.{Fault}
use Rattle.occ_model.specs.Event.{Reply, Refused, Checkpoint, Folded}
use Rattle.occ_model.specs.World.{has_session}
use Rattle.occ_model.specs.Replies.{replied}
use Rattle.occ_model.specs.Step.{Step}
use Rattle.occ_model.specs.declared.verdict.Cause.{Cause}
use Rattle.occ_open.specs.Transactions.{begun, Abandons, open_after}
use Rattle.occ_core.specs.Core.{Seen}
use Rattle.occ_core.specs.AutoCheckpoints.{is_due, checked_point}
use Rattle.occ_client.specs.Clients.{Client, begin_refusal, Commits, StaysOrStops, after_end, end_reply}
use Rattle.occ_client.specs.declared.ending.End.{End}
use Rattle.occ_client.specs.declared.ending.End.TheVariants as ends
use Rattle.occ_case.specs.declared.ended.Ended.{Ended}
use Rattle.occ_case.specs.declared.ended.Ended.TheVariants as tried

-- a client and its store at one moment
pub record Moment : Type 0 where
  pub client : Client
  pub store : Seen

abbrev pub moment : Client → Seen → Moment
moment client store = record { client = client; store = store }

-- how a try ended, without its value
abbrev pub end_of : {T : Type 0} → Ended T → End
end_of (tried.Committed tn value) = ends.Committed tn
end_of (tried.BackedUp cause) = ends.BackedUp cause

-- a call of f at a `&mut` to x and one to y may give r, and leave f', x' and y'
pub record CalledAtBoth {F A B R : Type 0} (g : Mut F (MutBor A × (MutBor B × Unit {0})) (R × (MutBor A × (MutBor B × Unit {0})))) (f : F) (x : A) (y : B) (r : R) (f' : F) (x' : A) (y' : B) : Type 0 where
  pub first : MutBor A
  pub second : MutBor B
  pub shows : (first.now ≡ x) × (second.now ≡ y)
  pub left : MutBor A × (MutBor B × Unit {0})
  pub called : Called g f (first, (second, tt)) (r, left) f'
  pub leaves : (left.0.now ≡ x') × (left.1.0.now ≡ y')

-- a checkpoint comes first, where one is due
pub record Prepares (before after : Moment) : Type 0 where
  pub folded : Option (Result ℕ Fault)
  pub due : is_some folded ≡ is_due before.client.checkpoints
  pub step : MatchOption folded (after.store ≡ before.store) (λ folded. Step before.store.world Checkpoint (replied Folded folded) after.store.world)
  pub left : after.client ≡ record before.client { checkpoints = checked_point folded before.client.checkpoints }

-- the client's next transaction begins, and the store stays
pub record Begins (before after : Moment) : Type 0 where
  pub may : begin_refusal before.store.world before.client ≡ None
  pub begun : after.client ≡ record before.client { current = Some (begun before.client.next before.store.world.counter); returned = after.client.returned }
  pub same : after.store ≡ before.store

-- what is open is abandoned
pub record GivesUp (before after : Moment) : Type 0 where
  pub reply : Reply
  pub step : Abandons before.store.world before.client.session before.client.current reply after.store.world
  pub left : after.client ≡ record before.client { current = open_after before.client.current reply; returned = after.client.returned }

-- none is open, unless the store has no such session
abbrev pub NoneOpen : Moment → Type 0
NoneOpen now = (now.client.current ≡ None) ⊎ (has_session now.store.world now.client.session ≡ false)

-- what is open is ended
pub record EndsSo (end : End) (before after : Moment) : Type 0 where
  pub ends : Commits before.client before.store.world after.client.writing (end_reply end) after.store.world
  pub left : after.client ≡ after_end end before.client

-- its end is refused, and so it is abandoned
pub record EndFails (fault : Fault) (before after : Moment) : Type 0 where
  pub refused : Moment
  pub ends : Commits before.client before.store.world refused.client.writing (Refused fault) refused.store.world
  pub stays : StaysOrStops before.client refused.client
  pub gives_up : GivesUp refused after

-- the try whose body answered this value is ended
abbrev pub IsTried : {T : Type 0} → T → Moment → Result (Ended T) Fault → Moment → Type 0
IsTried value before (Ok (tried.Committed tn given)) after = (given ≡ value) × EndsSo (ends.Committed tn) before after
IsTried value before (Ok (tried.BackedUp cause)) after = EndsSo (ends.BackedUp cause) before after
IsTried value before (Err fault) after = EndFails fault before after

-- so many tries are all that there may be, if the last one was backed up
abbrev pub AreAll : {T E : Type 0} → Result (Ended T) E → ℕ → ℕ → Type 0
AreAll (Ok (tried.Committed tn value)) count most = ⊤
AreAll (Ok (tried.BackedUp cause)) count most = count ≡ most
AreAll (Err error) count most = ⊤

-- The tries of a body, by what a call of it may give and leave, and by the errors that faults become.
module _ {F T E : Type 0} (Calls : F → Client → Seen → Result T E → F → Client → Seen → Type 0) (Gives : Fault → E → Type 0) where
  -- a transaction begins, and the body runs in it
  pub record Runs (f : F) (before : Moment) (ran : Result T E) (f' : F) (after : Moment) : Type 0 where
    pub begun : Moment
    pub begins : Begins before begun
    pub calls : Calls f begun.client begun.store ran f' after.client after.store

  -- the body answers this value, and what it left is ended so
  pub record IsEnded (f : F) (before : Moment) (value : T) (end : End) (f' : F) (after : Moment) : Type 0 where
    pub left : Moment
    pub runs : Runs f before (Ok value) f' left
    pub ends : EndsSo end left after

  -- no transaction begins, and nothing moves
  pub record NotBegun (f : F) (before : Moment) (error : E) (f' : F) (after : Moment) : Type 0 where
    pub fault : Fault
    pub refused : begin_refusal before.store.world before.client ≡ Some fault
    pub gives : Gives fault error
    pub same : (f' ≡ f) × (after ≡ before)

  -- the body answers this error, and what it left is abandoned
  pub record BodyFails (f : F) (before : Moment) (error : E) (f' : F) (after : Moment) : Type 0 where
    pub left : Moment
    pub runs : Runs f before (Err error) f' left
    pub gives_up : GivesUp left after

  -- the body answers a value, and the end of what it left is refused
  pub record NotEnded (f : F) (before : Moment) (error : E) (f' : F) (after : Moment) : Type 0 where
    pub left : Moment
    pub value : T
    pub fault : Fault
    pub runs : Runs f before (Ok value) f' left
    pub fails : EndFails fault left after
    pub gives : Gives fault error

  -- one try
  abbrev pub TriesOnce : F → Moment → Result (Ended T) E → F → Moment → Type 0
  TriesOnce f before (Ok (tried.Committed tn value)) f' after = IsEnded f before value (ends.Committed tn) f' after
  TriesOnce f before (Ok (tried.BackedUp cause)) f' after = (value : T) × IsEnded f before value (ends.BackedUp cause) f' after
  TriesOnce f before (Err error) f' after = NotBegun f before error f' after ⊎ (BodyFails f before error f' after ⊎ NotEnded f before error f' after)

  -- so many tries, each of which was backed up
  abbrev pub BackedUpEach : ℕ → F → Moment → F → Moment → Type 0
  BackedUpEach zero f before f' after = (f' ≡ f) × (after ≡ before)
  BackedUpEach (suc count) f before f' after = (between : F) × (meanwhile : Moment) × (cause : Cause)
      × BackedUpEach count f before between meanwhile × TriesOnce between meanwhile (Ok (tried.BackedUp cause)) f' after

  -- tries, at most so many: each but the last one was backed up, and the last one came to this
  pub record Tries (most : ℕ) (f : F) (before : Moment) (result : Result (Ended T) E) (f' : F) (after : Moment) : Type 0 where
    pub earlier : ℕ
    pub few : earlier < most
    pub all : AreAll result (earlier + 1) most
    pub between : F
    pub meanwhile : Moment
    pub backed_up : BackedUpEach earlier f before between meanwhile
    pub last : TriesOnce between meanwhile result f' after

  -- a whole transaction
  pub record Transacts (most : ℕ) (f : F) (before : Moment) (result : Result (Ended T) E) (after : Moment) : Type 0 where
    pub prepared : Moment
    pub prepares : Prepares before prepared
    pub kept : F
    pub tries : Tries most f prepared result kept after
