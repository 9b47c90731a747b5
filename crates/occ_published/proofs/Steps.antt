-- What the steps of a store say of its sessions and of what its polls show.
use Rattle.std.proofs.Common.{◌≡◌, ℕ, ◌+◌, ◌-◌, ◌≤◌, Bool, true, false, ◌&&◌, not, List, ◌∷◌, Option, None, Some, refl, sym, ap, subst, ◌∙◌, arith}
use Rattle.std.specs.Prelude.{MatchOption, slice_get, if◌then◌else◌}
use Rattle.occ_types.specs.Schema.{first_fault}
use Rattle.occ_types.specs.declared.fault.Fault.{Fault}
use Rattle.occ_types.specs.declared.fault.Fault.TheVariants as faults
use Rattle.occ_model.specs.State.{Write, put}
use Rattle.occ_model.specs.Log.{Writing}
use Rattle.occ_model.specs.World.{World, turn, has_session, last_entered, is_held}
use Rattle.occ_model.specs.Event.{Request, Alone, Close, Event, Read, Forget, Enter, Decide, WriteOne, Finish, BackUp, SerialEnd, RunAlone, Checkpoint, Reply, Refused, Answered, Forgotten, Entered, Closed, Decided, Wrote, NoMore, Finished, BackedUp, EndedBack, RanAlone, Folded}
use Rattle.occ_model.specs.Refusal as refusals
use Rattle.occ_model.specs.Refusal.{refusal}
use Rattle.occ_model.specs.Step.{Step, refused, starved, taken, Taken}
use Rattle.occ_model.specs.Poll.{Poll, poll, settled_number}
use Rattle.occ_model.specs.EndLaws.{session_of, Commits, Fades, PollsStay, Shows}
use Rattle.occ_model.proofs.Tests.{not_false, clash}
use Rattle.occ_model.proofs.Phases.{not_refused}
use Rattle.occ_model.proofs.Admitted.{passed}
use Rattle.occ_published.specs.Published.{may_end, tells_end, ends, number_told}

pub some_is : {A : Type 0} (a b : A) → Some a ≡ Some b → a ≡ b
some_is a b e = cc

-- ---- a step that is not refused has its session

guarded : (old : World) (session : ℕ) (others : List (Option Fault)) → first_fault (refusals.no_session old session ∷ others) ≡ None → has_session old session ≡ true
guarded old session others none =
    not_false (has_session old session) (not_refused (not (has_session old session)) faults.NoSession (passed (refusals.no_session old session) others none).0)

known : (old : World) (event : Event) (session : ℕ) → refusal old event ≡ None → session_of event ≡ Some session → has_session old session ≡ true
known old (Read s number start question) session none of = subst (λ x. has_session old x ≡ true) (some_is s session of) (guarded old s _ none)
known old (Forget s number) session none of = subst (λ x. has_session old x ≡ true) (some_is s session of) (not_false (has_session old s) (not_refused (not (has_session old s)) faults.NoSession none))
known old (Enter s (Request number start writes)) session none of = subst (λ x. has_session old x ≡ true) (some_is s session of) (guarded old s _ none)
known old (Enter s (Alone number operations)) session none of = subst (λ x. has_session old x ≡ true) (some_is s session of) (guarded old s _ none)
known old (Enter s (Close number)) session none of = subst (λ x. has_session old x ≡ true) (some_is s session of) (guarded old s _ none)
known old (Decide s) session none of = subst (λ x. has_session old x ≡ true) (some_is s session of) (guarded old s _ none)
known old (WriteOne s) session none of = subst (λ x. has_session old x ≡ true) (some_is s session of) (guarded old s _ none)
known old (Finish s) session none of = subst (λ x. has_session old x ≡ true) (some_is s session of) (guarded old s _ none)
known old (BackUp s) session none of = subst (λ x. has_session old x ≡ true) (some_is s session of) (guarded old s _ none)
known old (SerialEnd s (Request number start writes)) session none of = subst (λ x. has_session old x ≡ true) (some_is s session of) (guarded old s _ none)
known old (SerialEnd s (Alone number operations)) session none of = subst (λ x. has_session old x ≡ true) (some_is s session of) (guarded old s _ none)
known old (SerialEnd s (Close number)) session none of = subst (λ x. has_session old x ≡ true) (some_is s session of) (guarded old s _ none)
known old (RunAlone s number operations) session none of = subst (λ x. has_session old x ≡ true) (some_is s session of) (guarded old s _ none)
known old Checkpoint session none of = cc

pub exists : (old new : World) (event : Event) (reply : Reply) (session : ℕ) → Step old event reply new → session_of event ≡ Some session → tells_end reply ≡ true → has_session old session ≡ true
exists old new event reply session (refused fault is told same) of over = clash (tells_end reply) over (ap tells_end told)
exists old new event reply session (starved none takes told same) of over = clash (tells_end reply) over (ap tells_end told)
exists old new event reply session (taken none t) of over = known old event session none of

-- ---- a step that ends nothing

between : (old new : World) (event : Event) (reply : Reply) → Taken old event reply new → may_end event ≡ false → tells_end reply ≡ false
between old new (Read s number start question) reply t not_end = ap tells_end t.0
between old new (Forget s number) reply t not_end = ap tells_end t.0
between old new (Enter s item) reply t not_end = cc
between old new (Decide s) reply t not_end = ap tells_end t.5
between old new (WriteOne s) reply t not_end = written (slice_get t.0.writes t.1) t.4
  where
    written : (w : Option Write) → MatchOption w ((reply ≡ NoMore) × (new ≡ old)) (λ write. (reply ≡ Wrote write.0) × (new ≡ record old { table = put old.table write; log = turn s (Writing (t.1 + 1)) old.log }))
        → tells_end reply ≡ false
    written None m = ap tells_end m.0
    written (Some write) m = ap tells_end m.0
between old new (Finish s) reply t not_end = cc
between old new (BackUp s) reply t not_end = cc
between old new (SerialEnd s item) reply t not_end = cc
between old new (RunAlone s number operations) reply t not_end = cc
between old new Checkpoint reply t not_end = ap tells_end t.0

pub tells_none : (old new : World) (event : Event) (reply : Reply) → Step old event reply new → ends event reply ≡ false → tells_end reply ≡ false
tells_none old new event reply (refused fault is told same) none = ap tells_end told
tells_none old new event reply (starved free takes told same) none = ap tells_end told
tells_none old new event reply (taken free t) none = go (may_end event) refl none
  where
    go : (b : Bool) → may_end event ≡ b → (b && tells_end reply) ≡ false → tells_end reply ≡ false
    go true e none = none
    go false e none = between old new event reply t e

same_fades : (old new : Poll) → new ≡ old → Fades old new
same_fades old new same = subst (Fades old) (sym same) (record { counter = refl; settled = refl; ended = λ verdict is. is; finished = λ number is. is })

all_fade : (old new : World) → PollsStay old new → (session : ℕ) → Fades (poll old session) (poll new session)
all_fade old new stay session = same_fades (poll old session) (poll new session) (stay session)

pub fades : (old new : World) (event : Event) (reply : Reply) → Shows old event reply new → tells_end reply ≡ false → (session : ℕ) → Fades (poll old session) (poll new session)
fades old new event (Refused fault) shows none session = all_fade old new shows session
fades old new event (Answered answer) shows none session = all_fade old new shows session
fades old new event (Forgotten there) shows none session = all_fade old new shows session
fades old new event (Entered place index) shows none session = all_fade old new shows session
fades old new event Closed shows none session = all_fade old new shows session
fades old new event (Decided verdict) shows none session = all_fade old new shows session
fades old new event (Wrote object) shows none session = all_fade old new shows session
fades old new event NoMore shows none session = all_fade old new shows session
fades old new event (Finished number) shows none session = cc
fades old new event (BackedUp number) shows none session = cc
fades old new event (EndedBack cause) shows none session = cc
fades old new event (RanAlone number answers) shows none session = cc
fades old new event (Folded count) shows none session = shows session

-- ---- a step that commits

-- what the session of an event is said to show
pub at_session : (event : Event) (session : ℕ) (P : ℕ → Type 0) → session_of event ≡ Some session → MatchOption (session_of event) (Unit {0}) P → P session
at_session event session P of shows = subst (λ o. MatchOption o (Unit {0}) P) of shows

told_end : (reply : Reply) (tn : ℕ) → number_told reply ≡ Some tn → tells_end reply ≡ true
told_end (Refused fault) tn told = cc
told_end (Answered answer) tn told = cc
told_end (Forgotten there) tn told = cc
told_end (Entered place index) tn told = cc
told_end Closed tn told = cc
told_end (Decided verdict) tn told = cc
told_end (Wrote object) tn told = cc
told_end NoMore tn told = cc
told_end (Finished number) tn told = refl
told_end (BackedUp number) tn told = cc
told_end (EndedBack cause) tn told = cc
told_end (RanAlone number answers) tn told = refl
told_end (Folded count) tn told = cc

pub number_ends : (reply : Reply) (tn : ℕ) → number_told reply ≡ Some tn → tells_end reply ≡ true
number_ends = told_end

commit_of : (old new : World) (event : Event) (session number tn : ℕ) → session_of event ≡ Some session → number ≡ tn
    → MatchOption (session_of event) (Unit {0}) (λ s. (number ≡ old.counter + 1) × Commits s old new) → (tn ≡ old.counter + 1) × Commits session old new
commit_of old new event session number tn of is shows =
    let commit = at_session event session (λ s. (number ≡ old.counter + 1) × Commits s old new) of shows in
    (sym is ∙ commit.0, commit.1)

pub commits : (old new : World) (event : Event) (reply : Reply) (session tn : ℕ) → session_of event ≡ Some session → Shows old event reply new → number_told reply ≡ Some tn
    → (tn ≡ old.counter + 1) × Commits session old new
commits old new event (Refused fault) session tn of shows told = cc
commits old new event (Answered answer) session tn of shows told = cc
commits old new event (Forgotten there) session tn of shows told = cc
commits old new event (Entered place index) session tn of shows told = cc
commits old new event Closed session tn of shows told = cc
commits old new event (Decided verdict) session tn of shows told = cc
commits old new event (Wrote object) session tn of shows told = cc
commits old new event NoMore session tn of shows told = cc
commits old new event (Finished number) session tn of shows told = commit_of old new event session number tn of (some_is number tn told) shows
commits old new event (BackedUp number) session tn of shows told = cc
commits old new event (EndedBack cause) session tn of shows told = cc
commits old new event (RanAlone number answers) session tn of shows told = commit_of old new event session number tn of (some_is number tn told) shows
commits old new event (Folded count) session tn of shows told = cc

-- ---- numbers

-- no more is settled than entered
pub settled_most : (world : World) (session : ℕ) → settled_number world session ≤ last_entered world session
settled_most world session = go (is_held world session)
  where
    go : (b : Bool) → (if b then last_entered world session - 1 else last_entered world session) ≤ last_entered world session
    go true = omega arith
    go false = omega arith
