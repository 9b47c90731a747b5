-- What an event of a lane leaves.
use Rattle.std.proofs.Common.{◌≡◌, inl, inr, ℕ, ◌+◌, Bool, true, false, Option, None, Some, Result, Ok, Err, refl, sym, ap, subst, ◌∙◌}
use Rattle.std.specs.Prelude.{MatchOption, IfSome, IfNone, is_some, if◌then◌else◌, slice_get, ◌&&◌}
use Rattle.std.specs.List.{list_any}
use Rattle.boxcar.specs.Table.{Where}
use Rattle.occ_types.specs.declared.fault.Fault.{Fault}
use Rattle.occ_types.specs.declared.fault.Fault.TheVariants.{StoreBusy}
use Rattle.occ_model.specs.Log.{Case, Writing}
use Rattle.occ_model.specs.State.{Write, put}
use Rattle.occ_model.specs.World.{World, turn}
use Rattle.occ_model.specs.Event.{Item, WriteOne, Finish, BackUp, Reply, Refused, Entered, Wrote, NoMore, Finished, BackedUp}
use Rattle.occ_model.specs.Step.{Step, refused, starved, taken}
use Rattle.occ_model.specs.declared.verdict.Verdict.{Verdict}
use Rattle.occ_model.specs.declared.verdict.Verdict.TheVariants as verdicts
use Rattle.occ_model.specs.declared.verdict.Cause.{Cause}
use Rattle.occ_core.specs.Replies.{next_object}
use Rattle.occ_queue.specs.Items.{number_of, is_mark}
use Rattle.occ_store.specs.declared.serving.Point.{Point}
use Rattle.occ_history.specs.History.{FrontView}
use Rattle.occ_store.specs.Names.{Named}
use Rattle.occ_store.specs.Standing.{GoesOnTo}
use Rattle.occ_store.specs.Locked.{Locked, world_of}
use Rattle.occ_store.specs.Lanes.{LaneView, Left, Nothing, Kept, Open, Decided, number_left, is_open, is_closed, is_nothing, reached, left_entering, left_ending, AfterDecision, GoesOn, Advances, next_of}
use Rattle.occ_store.specs.declared.serving.Point.TheVariants as points
use Rattle.occ_store.specs.declared.serving.Served.{Served}
use Rattle.occ_store.specs.declared.serving.Served.TheVariants as served
use Rattle.occ_store.specs.Serving.{Stops, StandsAt, IsAt, IsSame, IsBusy, Moves, Happened, HasMoved, MayHaveMoved, RestsOn, TellsOfMove, Heeds, HeedsAll, HeedsTurn, CameBy, ComesOf, CarriesOn, Turns, TakesUp, keeping}
use Rattle.occ_store.proofs.Histories.{on_self, on_same, on_trans}
use Rattle.occ_store.proofs.LaneSteps.{tells_on, takes_on, decides_on}

nothing_here : {X P : Type 0} {x : X} → None ≡ Some x → P
nothing_here e = cc e

pub untrue : {P : Type 0} → false ≡ true → P
untrue e = cc e

-- without a number nothing is left
pub nothing_left : (left : Left) → number_left left ≡ None → left ≡ Nothing
nothing_left Nothing e = refl
nothing_left (Kept item) e = nothing_here (sym e)
nothing_left (Open number token) e = nothing_here (sym e)
nothing_left (Decided number verdict) e = nothing_here (sym e)

-- a row that is not decided, with its number
pub open_left : (left : Left) (number : ℕ) → is_open left ≡ true → number_left left ≡ Some number → (token : Option (Where Case)) × (left ≡ Open number token)
open_left (Open other token) number is e = (token, ap (λ n. Open n token) (same_number other number e))
  where
    same_number : (other number : ℕ) → Some other ≡ Some number → other ≡ number
    same_number other number e = cc e
open_left left number is e = untrue is

-- where something is left, the lane stands at its point
pub stands : (point : Point) (number other : ℕ) (left : Left) → IsAt point number left → number_left left ≡ Some other → (number_left left ≡ Some number) × StandsAt point number left
stands point number other left (inl nothing) e = nothing_here (sym (ap number_left nothing) ∙ e)
stands point number other left (inr at) e = at

-- the replies to a single write and to a finish, and those to a back-up
writes_on : Reply → Bool
writes_on (Refused fault) = true
writes_on (Wrote object) = true
writes_on NoMore = true
writes_on (Finished tn) = true
writes_on reply = false

backs_up : Reply → Bool
backs_up (Refused fault) = true
backs_up (BackedUp number) = true
backs_up reply = false

one_write : (Q : Type 0) (P : Write → Type 0) (reply : Reply) (found : Option Write) → MatchOption found ((reply ≡ NoMore) × Q) (λ write. (reply ≡ Wrote write.0) × P write) → writes_on reply ≡ true
unfolding writes_on
one_write Q P reply None w = ap writes_on w.0
one_write Q P reply (Some write) w = ap writes_on w.0

written : (old new : World) (session : ℕ) (reply : Reply) → Step old (WriteOne session) reply new → writes_on reply ≡ true
unfolding writes_on
written old new session reply (refused fault r is same) = ap writes_on is
written old new session reply (starved r t is same) = ap writes_on is
written old new session reply (taken r (row, done, last, stood, writes)) = one_write (new ≡ old) (λ write. new ≡ record old { table = put old.table write; log = turn session (Writing (done + 1)) old.log }) reply (slice_get row.writes done) writes

finishes : (old new : World) (session : ℕ) (reply : Reply) → Step old (Finish session) reply new → writes_on reply ≡ true
unfolding writes_on
finishes old new session reply (refused fault r is same) = ap writes_on is
finishes old new session reply (starved r t is same) = ap writes_on is
finishes old new session reply (taken r (row, done, last, stood, is, same)) = ap writes_on is

goes_on : (old new : World) (session : ℕ) (reply : Reply) → Step old (next_of old session) reply new → writes_on reply ≡ true
goes_on old new session reply step = go (is_some (next_object old session)) step
  where
    go : (b : Bool) → Step old (if b then WriteOne session else Finish session) reply new → writes_on reply ≡ true
    go true step = written old new session reply step
    go false step = finishes old new session reply step

backs : (old new : World) (session : ℕ) (reply : Reply) → Step old (BackUp session) reply new → backs_up reply ≡ true
unfolding backs_up
backs old new session reply (refused fault r is same) = ap backs_up is
backs old new session reply (starved r t is same) = ap backs_up is
backs old new session reply (taken r t) = ap backs_up t.0

at : (lane a b : LaneView) (number : ℕ) (r s : Result Point Fault) → r ≡ s → a ≡ b → Moves lane number s b → Moves lane number r a
at lane a b number r s er ea moves = subst (λ result. Moves lane number result a) (sym er) (subst (Moves lane number s) (sym ea) moves)

-- an item enters
kept : (lane : LaneView) (front : FrontView) (item : Item) (token : Option (Where Case)) (number entered : ℕ) (reply : Reply) → lane.left ≡ Kept item → number_of item ≡ number
    → Moves lane number (reached reply) (record lane { left = left_entering item token reply; entered = entered; front = front })
kept lane front item token number entered (Refused fault) is n = ((refl, refl, refl, refl), sym is)
kept lane front item token number entered (Entered place index) is n = ((refl, refl, refl, refl), inr (ap Some n, (token, ap (λ k. Open k token) n)))
kept lane front item token number entered reply is n = ((refl, refl, refl, refl), inl refl)

-- a row is decided
decides : (lane after : LaneView) (other number : ℕ) (token judged : Option (Where Case)) (decided : Result Verdict Fault) (result : Result Point Fault)
    → lane.left ≡ Open other token → other ≡ number → AfterDecision lane other token judged decided result after → Moves lane number result after
decides lane after other number token judged (Err fault) result is n (r, a) = at lane after _ number result _ r a ((refl, refl, refl, refl), sym is)
decides lane after other number token judged (Ok verdict) result is n (r, a) = at lane after _ number result _ r a
    ((refl, refl, refl, refl), inr (ap Some n, (verdict, ap (λ k. Decided k verdict) n)))

-- a row does its next write, or finishes
ends : (lane : LaneView) (front : FrontView) (other number : ℕ) (reply : Reply) → lane.left ≡ Decided other verdicts.Commit → other ≡ number → writes_on reply ≡ true
    → Moves lane number (reached reply) (record lane { left = left_ending other verdicts.Commit reply; front = front })
unfolding writes_on
ends lane front other number (Refused fault) is n on = ((refl, refl, refl, refl), sym is)
ends lane front other number (Wrote object) is n on = ((refl, refl, refl, refl), inr (ap Some n, ap (λ k. Decided k verdicts.Commit) n))
ends lane front other number NoMore is n on = ((refl, refl, refl, refl), inr (ap Some n, ap (λ k. Decided k verdicts.Commit) n))
ends lane front other number (Finished tn) is n on = ((refl, refl, refl, refl), inl refl)
ends lane front other number reply is n on = untrue on

-- a row is backed up
backed : (lane : LaneView) (front : FrontView) (other number : ℕ) (cause : Cause) (reply : Reply) → lane.left ≡ Decided other (verdicts.BackUp cause) → backs_up reply ≡ true
    → Moves lane number (reached reply) (record lane { left = left_ending other (verdicts.BackUp cause) reply; front = front })
unfolding backs_up
backed lane front other number cause (Refused fault) is back = ((refl, refl, refl, refl), sym is)
backed lane front other number cause (BackedUp told) is back = ((refl, refl, refl, refl), inl refl)
backed lane front other number cause reply is back = untrue back

-- one event of what is left
pub moves : (lane after : LaneView) (judged : Option (Where Case)) (old new : Locked) (result : Result Point Fault) (number : ℕ)
    → Advances lane judged old result after new → number_left lane.left ≡ Some number → Moves lane number result after
moves lane after judged old new result number goes n = go lane.left refl goes n
  where
    same : (other : ℕ) → Some other ≡ Some number → other ≡ number
    same other e = cc e

    go : (left : Left) → lane.left ≡ left → GoesOn left lane judged old result after new → number_left left ≡ Some number → Moves lane number result after
    go Nothing is goes n = nothing_here n
    go (Kept item) is (reply, takes, r, a) n = at lane after _ number result _ r a (kept lane after.front item _ number _ reply is (same (number_of item) n))
    go (Open other token) is (decided, decides_as, becomes) n = decides lane after other number token judged decided result is (same other n) becomes
    go (Decided other verdicts.Commit) is (reply, happens, r, a) n =
        at lane after _ number result _ r a (ends lane after.front other number reply is (same other n) (goes_on (world_of old) (world_of new) lane.session reply happens.0.0))
    go (Decided other (verdicts.BackUp cause)) is (reply, backs_it, r, a) n =
        at lane after _ number result _ r a (backed lane after.front other number cause reply is (backs (world_of old) (world_of new) lane.session reply backs_it.0.0))

-- what a lane has seen goes on by its event
pub advances_on : (lane after : LaneView) (judged : Option (Where Case)) (old new : Locked) (result : Result Point Fault) → Advances lane judged old result after new → GoesOnTo lane.front after.front
advances_on lane after judged old new result goes = go lane.left goes
  where
    go : (left : Left) → GoesOn left lane judged old result after new → GoesOnTo lane.front after.front
    go Nothing (r, a, n) = on_same lane.front after.front (ap (λ (l : LaneView). l.front) a)
    go (Kept item) (reply, takes, r, a) = takes_on lane.session lane.files lane.serial item old new reply lane.front after.front takes
    go (Open number token) (decided, decides_as, becomes) = decides_on lane.session judged old new decided lane.front after.front decides_as
    go (Decided number verdicts.Commit) (reply, happens, r, a) = tells_on lane.front after.front old new (next_of (world_of old) lane.session) reply happens.2
    go (Decided number (verdicts.BackUp cause)) (reply, backs_it, r, a) = tells_on lane.front after.front old new (BackUp lane.session) reply backs_it.2

happened_on : (named : Named) (old new : LaneView) (result : Result Point Fault) → Happened named old result new → GoesOnTo old.front new.front
happened_on named old new result happened = advances_on old new happened.0 happened.1 happened.2 result happened.6

came_on : (named : Named) (old new : LaneView) (number : ℕ) (result : Result Point Fault) → CameBy named old number result new → GoesOnTo old.front new.front
came_on named old new number result (before, goes, left, happened) = on_trans old.front before.front new.front goes (happened_on named before new result happened)

may_on : (named : Named) (old new : LaneView) (number : ℕ) → MayHaveMoved named old number new → GoesOnTo old.front new.front
may_on named old new number (inl same) = on_same old.front new.front (ap (λ (l : LaneView). l.front) same)
may_on named old new number (inr (point, came)) = came_on named old new number (Ok point) came

-- a lane is closed where the mark was taken and nothing is left
pub was_closed : (lane : LaneView) → is_closed lane ≡ true → list_any is_mark lane.receiver.taken ≡ true
was_closed lane closed = go (list_any is_mark lane.receiver.taken) (is_nothing lane.left) closed
  where
    go : (a b : Bool) → (a && b) ≡ true → a ≡ true
    go true b e = refl
    go false b e = e

pub was_open : (lane : LaneView) → lane.left ≡ Nothing → is_closed lane ≡ false → list_any is_mark lane.receiver.taken ≡ false
was_open lane nothing still = go (list_any is_mark lane.receiver.taken) (ap (λ left. list_any is_mark lane.receiver.taken && is_nothing left) (sym nothing) ∙ still)
  where
    go : (a : Bool) → (a && true) ≡ false → a ≡ false
    go true e = e
    go false e = refl

-- what is served after an item was taken
pub takes_up : (named : Named) (stops : Stops) (old having new : LaneView) (number : ℕ) (result : Result Served Fault) (item : Item) → old.left ≡ Nothing → having ≡ keeping old item
    → number ≡ number_of item → CarriesOn named stops having number result new → TakesUp named stops old result new
takes_up named stops old having new number result item nothing is n carries =
    (item, nothing, subst (λ m. CarriesOn named stops (keeping old item) m result new) n (subst (λ lane. CarriesOn named stops lane number result new) is carries))

-- a lane that is stopped where it took its item
pub stops_there : (named : Named) (stops : Stops) (lane : LaneView) (item : Item) (number session : ℕ) → lane.left ≡ Kept item → number ≡ number_of item → session ≡ lane.session
    → stops points.Took session number → CarriesOn named stops lane number (Ok (served.Stopped points.Took)) lane
stops_there named stops lane item number session is n s may = (((refl, refl, refl, refl), inl refl), ((item, is, sym n), subst (λ at. stops points.Took at number) s may))

-- a lane that is stopped before a decision
pub stops_before : (named : Named) (stops : Stops) (lane : LaneView) (number : ℕ) → StandsAt points.Judged number lane.left → stops points.Judged lane.session number
    → CarriesOn named stops lane number (Ok (served.Stopped points.Judged)) lane
stops_before named stops lane number at may = (((refl, refl, refl, refl), inl refl), (at, may))

-- what comes of an event that was not refused rests on it
rests : (named : Named) (old new : LaneView) (number : ℕ) (answer : Served) → TellsOfMove answer → HasMoved named old number new → RestsOn named old number (Ok answer) new
rests named old new number (served.Settled settled) told moved = moved
rests named old new number served.Idle told moved = told
rests named old new number served.Busy told moved = absurd told
rests named old new number (served.Stopped points.Took) told moved = inr moved
rests named old new number (served.Stopped points.Entered) told moved = moved
rests named old new number (served.Stopped points.Judged) told moved = inr moved
rests named old new number (served.Stopped points.Decided) told moved = moved
rests named old new number (served.Stopped points.Wrote) told moved = moved
rests named old new number (served.Stopped points.Settled) told moved = moved
rests named old new number served.LaneClosed told moved = moved

-- what comes of an event and the gate after it
pub turned : (named : Named) (stops : Stops) (old new : LaneView) (number : ℕ) (point : Point) (answer : Option Served) → number_left old.left ≡ Some number → Happened named old (Ok point) new
    → Moves old number (Ok point) new → IfSome answer (λ served. ComesOf stops number (Ok served) new) → IfSome answer TellsOfMove → IfNone answer (number_left new.left ≡ Some number)
    → Turns named stops old number (Ok answer) new
turned named stops old new number point None left happened moves some told none = ((moves.0, (point, (old, on_self old.front, left, happened))), none)
turned named stops old new number point (Some served) left happened moves some told none =
    ((moves.0, rests named old new number served told (point, (old, on_self old.front, left, happened))), some)

-- what is refused waits until no row is active, or is told
pub waits : (named : Named) (stops : Stops) (old new : LaneView) (number : ℕ) (fault : Fault) → number_left old.left ≡ Some number → Happened named old (Err fault) new → Moves old number (Err fault) new
    → IsBusy fault new.left → Turns named stops old number (Ok (Some served.Busy)) new
waits named stops old new number fault left happened moves busy =
    ((moves.0, (old, on_self old.front, left, subst (λ f. Happened named old (Err f) new) busy.0 happened)), (ap number_left moves.1 ∙ left, busy.1))

pub refuses : (named : Named) (stops : Stops) (old new : LaneView) (number : ℕ) (fault : Fault) → number_left old.left ≡ Some number → Happened named old (Err fault) new → Moves old number (Err fault) new
    → (IsBusy fault new.left → ⊥) → Turns named stops old number (Err fault) new
refuses named stops old new number fault left happened moves free = ((moves.0, ((old, on_self old.front, left, happened), free)), ap number_left moves.1 ∙ left)

-- what a lane came by after it came so far
came_since : (named : Named) (old now new : LaneView) (number : ℕ) (result : Result Point Fault) → MayHaveMoved named old number now → CameBy named now number result new → CameBy named old number result new
came_since named old now new number result moved (before, goes, left, happened) =
    (before, on_trans old.front now.front before.front (may_on named old now number moved) goes, left, happened)

moved_since : (named : Named) (old now new : LaneView) (number : ℕ) → MayHaveMoved named old number now → HasMoved named now number new → HasMoved named old number new
moved_since named old now new number moved (point, came) = (point, came_since named old now new number (Ok point) moved came)

since : (named : Named) (old now new : LaneView) (number : ℕ) → MayHaveMoved named old number now → MayHaveMoved named now number new → MayHaveMoved named old number new
since named old now new number before (inl same) = subst (MayHaveMoved named old number) (sym same) before
since named old now new number before (inr moved) = inr (moved_since named old now new number before moved)

since_rests : (named : Named) (old now new : LaneView) (number : ℕ) (result : Result Served Fault) → MayHaveMoved named old number now → RestsOn named now number result new → RestsOn named old number result new
since_rests named old now new number (Ok (served.Settled settled)) before rests_on = moved_since named old now new number before rests_on
since_rests named old now new number (Ok served.Idle) before rests_on = rests_on
since_rests named old now new number (Ok served.Busy) before rests_on = came_since named old now new number (Err StoreBusy) before rests_on
since_rests named old now new number (Ok (served.Stopped points.Took)) before rests_on = since named old now new number before rests_on
since_rests named old now new number (Ok (served.Stopped points.Entered)) before rests_on = moved_since named old now new number before rests_on
since_rests named old now new number (Ok (served.Stopped points.Judged)) before rests_on = since named old now new number before rests_on
since_rests named old now new number (Ok (served.Stopped points.Decided)) before rests_on = moved_since named old now new number before rests_on
since_rests named old now new number (Ok (served.Stopped points.Wrote)) before rests_on = moved_since named old now new number before rests_on
since_rests named old now new number (Ok (served.Stopped points.Settled)) before rests_on = moved_since named old now new number before rests_on
since_rests named old now new number (Ok served.LaneClosed) before rests_on = moved_since named old now new number before rests_on
since_rests named old now new number (Err fault) before (came, free) = (came_since named old now new number (Err fault) before came, free)

-- what a lane has seen goes on by what an answer rests on
pub rests_go_on : (named : Named) (old new : LaneView) (number : ℕ) (result : Result Served Fault) → RestsOn named old number result new → GoesOnTo old.front new.front
rests_go_on named old new number (Ok (served.Settled settled)) (point, came) = came_on named old new number (Ok point) came
rests_go_on named old new number (Ok served.Idle) none = absurd none
rests_go_on named old new number (Ok served.Busy) came = came_on named old new number (Err StoreBusy) came
rests_go_on named old new number (Ok (served.Stopped points.Took)) may = may_on named old new number may
rests_go_on named old new number (Ok (served.Stopped points.Entered)) (point, came) = came_on named old new number (Ok point) came
rests_go_on named old new number (Ok (served.Stopped points.Judged)) may = may_on named old new number may
rests_go_on named old new number (Ok (served.Stopped points.Decided)) (point, came) = came_on named old new number (Ok point) came
rests_go_on named old new number (Ok (served.Stopped points.Wrote)) (point, came) = came_on named old new number (Ok point) came
rests_go_on named old new number (Ok (served.Stopped points.Settled)) (point, came) = came_on named old new number (Ok point) came
rests_go_on named old new number (Ok served.LaneClosed) (point, came) = came_on named old new number (Ok point) came
rests_go_on named old new number (Err fault) (came, free) = came_on named old new number (Err fault) came

-- the same lane as one that was the same
same_since : (old now new : LaneView) → IsSame old now → IsSame now new → IsSame old new
same_since old now new first next = (next.0 ∙ first.0, next.1 ∙ first.1, next.2 ∙ first.2, next.3 ∙ first.3)

-- a turn after others that went on
pub carried : (named : Named) (stops : Stops) (old now new : LaneView) (number : ℕ) (result : Result Served Fault) → IsSame old now → MayHaveMoved named old number now
    → CarriesOn named stops now number result new → CarriesOn named stops old number result new
carried named stops old now new number result same before ((still, rests_on), comes) =
    ((same_since old now new same still, since_rests named old now new number result before rests_on), comes)

-- a turn that goes on came by an event
pub goes_on_so : (named : Named) (stops : Stops) (old now new : LaneView) (number : ℕ) (answer : Option Served) → answer ≡ None → IsSame old now → MayHaveMoved named old number now
    → Turns named stops now number (Ok answer) new → IsSame old new × (number_left new.left ≡ Some number) × MayHaveMoved named old number new
goes_on_so named stops old now new number answer is same before turn =
    let went : Turns named stops now number (Ok None) new = subst (λ (a : Option Served). Turns named stops now number (Ok a) new) is turn in
    (same_since old now new same went.0.0, went.1, inr (moved_since named old now new number before went.0.1))

-- a turn that ends it, after others that went on
pub ends_so : (named : Named) (stops : Stops) (old now new : LaneView) (number : ℕ) (answer : Option Served) (told : Served) → answer ≡ Some told → IsSame old now → MayHaveMoved named old number now
    → Turns named stops now number (Ok answer) new → CarriesOn named stops old number (Ok told) new
ends_so named stops old now new number answer told is same before turn =
    carried named stops old now new number (Ok told) same before (subst (λ (a : Option Served). Turns named stops now number (Ok a) new) is turn)

-- where a gate has to stop a lane it is heeded
pub heeds_turn : (named : Named) (must : Stops) (old new : LaneView) (number : ℕ) (point : Point) (answer : Option Served) → number_left old.left ≡ Some number → Happened named old (Ok point) new
    → (is_open old.left ≡ true → must points.Judged old.session number → ⊥) → IfNone answer (must point new.session number → ⊥) → IfSome answer (Heeds must new.session)
    → HeedsTurn named must old number (Ok answer) new
heeds_turn named must old new number point None left happened before none some = (before, (point, (old, on_self old.front, left, happened), none))
heeds_turn named must old new number point (Some served) left happened before none some = some

pub heeds_so : (named : Named) (must : Stops) (old new : LaneView) (number : ℕ) (answer : Option Served) (told : Served) → answer ≡ Some told
    → HeedsTurn named must old number (Ok answer) new → HeedsAll must new.session (Ok told)
heeds_so named must old new number answer told is heeds = subst (λ (a : Option Served). HeedsTurn named must old number (Ok a) new) is heeds
