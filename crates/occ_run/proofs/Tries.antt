-- What the tries of a client come to, and what its session handed in.
use Rattle.std.proofs.Common.{◌≡◌, ℕ, ◌+◌, ◌<◌, ◌≤◌, Bool, true, false, List, [], ◌∷◌, ◌++◌, length, Option, None, Some, Result, Ok, Err, IfOk, inl, inr, refl, sym, ap, subst, ◌∙◌, append_assoc, arith, length-append}
use Rattle.occ_types.specs.declared.fault.Fault.{Fault}
use Rattle.occ_model.specs.Event.{Item, Request, Alone, Close, Forget}
use Rattle.occ_model.specs.Operations.{Operation}
use Rattle.occ_history.specs.History.{FrontView}
use Rattle.occ_model.specs.declared.verdict.Verdict.TheVariants.{Commit, BackUp}
use Rattle.occ_sets.specs.Sets.{Copied}
use Rattle.occ_open.specs.Transactions.{AbandonsBy, begun}
use Rattle.occ_store.specs.Names.{Named}
use Rattle.occ_store.specs.Standing.{StandsIn, GoesOnTo}
use Rattle.occ_store.proofs.Histories.{on_same, on_stands}
use Rattle.occ_store.specs.Sessions.{SessionView, due, last_number, handed_in}
use Rattle.occ_store.specs.Bodies.{Making, Goes, Performing}
use Rattle.occ_store.specs.Tries as store
use Rattle.occ_store.specs.Tries.{AllMade, IsMade, HandsInFewer, NotHandedIn, GivesUp}
use Rattle.occ_store.specs.Ended.{IsTold}
use Rattle.occ_store.specs.Clients.{Awaits, IsAwaited}
use Rattle.occ_case.specs.declared.ended.Ended.TheVariants as ended
use Rattle.occ_store.specs.declared.awaited.Pending.{Pending}
use Rattle.occ_store.specs.declared.awaited.Awaited.{Awaited}
use Rattle.occ_store.specs.declared.awaited.Awaited.TheVariants as awaited
use Rattle.occ_run.specs.declared.ends.Try.{Try}
use Rattle.occ_run.specs.declared.ends.Try.TheVariants as outcome
use Rattle.occ_run.specs.declared.ends.Failure.{Failure}
use Rattle.occ_run.specs.declared.ends.Failure.TheVariants as failures
use Rattle.occ_run.specs.declared.ends.Stop.{Stop}
use Rattle.occ_run.specs.Clients.{Attempting, failing, Requests, HasRefused, Pushes, Told, CameTo, handed_by, Ended, not_handed_in, try_of, ComesTo, Tries, LastTry, RunsAlone, PlanGives}

-- ---- what a try handed in

is_performed : (named : Named) (operations : List Operation) (session : ℕ) (value : Unit {0}) (item : Item) (from to : FrontView) → IsMade (Attempting named operations) session value item from to → IsMade (Performing named operations) session value item from to
is_performed named operations session value (Request number start writes) from to made = made
is_performed named operations session value (Alone number list) from to made = absurd made
is_performed named operations session value (Close number) from to made = absurd made

all_performed : (named : Named) (operations : List Operation) (session : ℕ) (items : List Item) (from to : FrontView) → AllMade (Attempting named operations) session items from to → AllMade (Performing named operations) session items from to
all_performed named operations session [] from to all = all
all_performed named operations session (item ∷ items) from to all =
    (all.0, (all.1.0, is_performed named operations session all.1.0 item from all.0 all.1.1), all_performed named operations session items all.0 to all.2)

pushes_of : {Value Error : Type 0} (Made : Making Value Error) (count : ℕ) (old : SessionView) (asked : FrontView) (new : SessionView) (handed : store.Requests Made count old asked new) → Pushes handed.items old new
pushes_of Made count old asked new handed = record {
  before = ap (λ (v : SessionView). v.sender.before) handed.pushed;
  pushed = ap (λ (v : SessionView). v.sender.pushed) handed.pushed;
  session = ap (λ (v : SessionView). v.session) handed.pushed;
}

seated_pushes : (old sub new : SessionView) (items : List Item) → Pushes items old sub → new ≡ record sub { seat = new.seat } → Pushes items old new
seated_pushes old sub new items pushes seated = record {
  before = ap (λ (v : SessionView). v.sender.before) seated ∙ pushes.before;
  pushed = ap (λ (v : SessionView). v.sender.pushed) seated ∙ pushes.pushed;
  session = ap (λ (v : SessionView). v.session) seated ∙ pushes.session;
}

-- what a later run of the body may make an earlier one may
pub attempting_goes : (named : Named) (later earlier : List Operation) → Goes (Performing named later) (Performing named earlier) → Goes (Attempting named later) (Attempting named earlier)
attempting_goes named later earlier goes before (Ok none) after made = goes before (Ok none) after made
attempting_goes named later earlier goes before (Err failure) after made = (made.0, made.1, goes before (Err made.0) after made.2)

-- ---- a try whose operations were refused

-- what is seen goes on where a transaction is given up
given_up_on : (named : Named) (old new : SessionView) → GivesUp named old new → GoesOnTo old.front new.front
given_up_on named old new ((reply, abandons), is) = by old.draft abandons
  where
    by : (draft : Option Copied) → AbandonsBy (new.front ≡ old.front) (λ event given. StandsIn named old.front event given new.front) old.session draft reply → GoesOnTo old.front new.front
    by None abandons = on_same old.front new.front abandons.1
    by (Some copy) abandons = on_stands named old.front new.front (Forget old.session copy.number) reply abandons

has_refused : (named : Named) (operations : List Operation) (asked : FrontView) (session : SessionView) (fault : Fault) → NotHandedIn (Attempting named operations) failing named asked session (failures.Refused fault) → HasRefused named session.session operations asked session.front
has_refused named operations asked session fault (inl (same, begun)) = absurd begun.2
has_refused named operations asked session fault (inr (before, gives_up, (start, inl (ran, draft, (after, is, same, made), inl error)))) =
    refuse ran error made
  where
    on : GoesOnTo after.front session.front
    on = subst (λ (f : FrontView). GoesOnTo f session.front) same (given_up_on named before session gives_up)

    refuse : (ran : Result (Unit {0}) Failure) → ran ≡ Err (failures.Refused fault) → Attempting named operations (record { session = before.session; draft = Some (begun (due before) start); front = asked }) ran after → HasRefused named session.session operations asked session.front
    refuse ran error made =
        let told = subst (λ (r : Result (Unit {0}) Failure). Attempting named operations (record { session = before.session; draft = Some (begun (due before) start); front = asked }) r after) error made in
        subst (λ (n : ℕ). HasRefused named n operations asked session.front) (sym (ap (λ (v : SessionView). v.session) gives_up.1)) (told.0, told.1.1, due before, start, after, told.2, on)
has_refused named operations asked session fault (inr (before, gives_up, (start, inl (ran, draft, runs, inr out_of_turn)))) = absurd out_of_turn
has_refused named operations asked session fault (inr (before, gives_up, (start, inr submitted))) = absurd submitted.2.2

-- nothing was handed in, since an operation was refused
try_refused : (named : Named) (operations : List Operation) (fault : Fault) (old new : SessionView) → HandsInFewer (Attempting named operations) failing named 1 old (failures.Refused fault) new → Tries named operations 0 outcome.Refused old new
try_refused named operations fault old new (count, asked, below, handed, refused) =
    let many : length handed.items ≡ count = handed.many in
    record {
      items = handed.items;
      asked = asked;
      pushes = pushes_of (Attempting named operations) count old asked new handed;
      requests = record { many = omega arith; made = all_performed named operations old.session handed.items old.front asked handed.made };
      came = has_refused named operations asked new fault refused;
    }

-- nothing was handed in, for that or since the client gives up
pub try_not_handed : (named : Named) (operations : List Operation) (failure : Failure) (result : Result Try Stop) (old new : SessionView) → result ≡ not_handed_in failure → HandsInFewer (Attempting named operations) failing named 1 old failure new
    → IfOk result (λ tried. Tries named operations 0 tried old new)
try_not_handed named operations failure result old new is fewer = subst (λ (r : Result Try Stop). IfOk r (λ tried. Tries named operations 0 tried old new)) (sym is) (by failure fewer)
  where
    by : (failure : Failure) → HandsInFewer (Attempting named operations) failing named 1 old failure new → IfOk (not_handed_in failure) (λ tried. Tries named operations 0 tried old new)
    by (failures.Refused fault) fewer = try_refused named operations fault old new fewer
    by (failures.Stopped stop) fewer = tt

-- ---- a try that is over

one_try : (how : Ended) → handed_by (try_of how) ≡ 1
one_try (ended.Committed tn none) = refl
one_try (ended.BackedUp cause) = refl

came_to : (named : Named) (operations : List Operation) (asked : FrontView) (how : Ended) (value : Unit {0}) (new : SessionView) → new.front ≡ asked → IsTold new.seat.last (last_number new) value how → CameTo named operations asked (try_of how) new
came_to named operations asked (ended.Committed tn none) value new seen (number, (Commit, status, is)) = (seen, record { number = number; status = status })
came_to named operations asked (ended.Committed tn none) value new seen (number, (BackUp cause, status, is)) = absurd (cc is)
came_to named operations asked (ended.BackedUp cause) value new seen (number, (Commit, status, is)) = absurd (cc is)
came_to named operations asked (ended.BackedUp cause) value new seen (number, (BackUp other, status, is)) = (seen, (other, record { number = number; status = status }))

over_now : (named : Named) (operations : List Operation) (count : ℕ) (old mid new : SessionView) (how : Ended) (value : Unit {0}) → 0 < count → count ≤ 1 → store.Requests (Attempting named operations) count old mid.front mid
    → new ≡ record mid { seat = new.seat } → IsTold new.seat.last (last_number new) value how → Tries named operations 0 (try_of how) old new
over_now named operations count old mid new how value some few handed seated told =
    let many : length handed.items ≡ count = handed.many in
    let one : handed_by (try_of how) ≡ 1 = one_try how in
    record {
      items = handed.items;
      asked = mid.front;
      pushes = seated_pushes old mid new handed.items (pushes_of (Attempting named operations) count old mid.front mid handed) seated;
      requests = record { many = omega arith; made = all_performed named operations old.session handed.items old.front mid.front handed.made };
      came = came_to named operations mid.front how value new (ap (λ (v : SessionView). v.front) seated) told;
    }

-- what came of waiting is how the transaction ended, at once or behind the turns
pub comes_now : (was : Awaited (Unit {0})) (how : Ended) (session : SessionView) → was ≡ awaited.Settled how → ComesTo session was how session
comes_now was how session is = subst (λ (w : Awaited (Unit {0})). ComesTo session w how session) (sym is) (refl, refl)

pub comes_behind : (was : Awaited (Unit {0})) (pending : Pending (Unit {0})) (result : Result Ended Stop) (old new : SessionView) → was ≡ awaited.Pending pending → IfOk result (λ how. IsTold new.seat.last pending.number pending.value how)
    → IfOk result (λ how. ComesTo old was how new)
comes_behind was pending result old new is told = subst (λ (w : Awaited (Unit {0})). IfOk result (λ how. ComesTo old w how new)) (sym is) told

-- the transaction was handed in, and is over
pub try_over : (named : Named) (operations : List Operation) (old mid new : SessionView) (was : Awaited (Unit {0})) (how : Ended) → Awaits (Attempting named operations) 1 old was mid → ComesTo mid was how new → new ≡ record mid { seat = new.seat }
    → Tries named operations 0 (try_of how) old new
try_over named operations old mid new (awaited.Settled before) how (count, some, few, last, tried) (same, still) seated =
    over_now named operations count old mid new how tried.value some few tried.requests seated
    (subst (λ (e : Ended). IsTold new.seat.last (last_number new) tried.value e) (sym same) (subst (λ (v : SessionView). IsTold v.seat.last (last_number v) tried.value before) (sym still) tried.told))
try_over named operations old mid new (awaited.Pending pending) how (count, some, few, waits) told seated =
    over_now named operations count old mid new how pending.value some few waits.requests seated
    (subst (λ (n : ℕ). IsTold new.seat.last n pending.value how) (waits.number ∙ sym (ap last_number seated)) told)

-- the seat alone moved, twice
pub seated_twice : (a b c : SessionView) → b ≡ record a { seat = b.seat } → c ≡ record b { seat = c.seat } → c ≡ record a { seat = c.seat }
seated_twice a b c first second = second ∙ ap (λ (v : SessionView). record v { seat = c.seat }) first

-- ---- operations that run alone

alone_told : (sub new : SessionView) (pending : Pending (Unit {0})) (was : Awaited (Unit {0})) (how : Ended) → IsAwaited sub.seat.last pending was → ComesTo sub was how new → IsTold new.seat.last pending.number pending.value how
alone_told sub new pending (awaited.Settled before) how told (same, still) =
    subst (λ (e : Ended). IsTold new.seat.last pending.number pending.value e) (sym same) (subst (λ (v : SessionView). IsTold v.seat.last pending.number pending.value before) (sym still) told)
alone_told sub new pending (awaited.Pending again) how (same, untold) told = subst (λ (p : Pending (Unit {0})). IsTold new.seat.last p.number p.value how) same told

committed_told : (how : Ended) (tn : ℕ) (none value : Unit {0}) (number : ℕ) (new : SessionView) → how ≡ ended.Committed tn none → number ≡ last_number new → IsTold new.seat.last number value how → Told Commit new
committed_told how tn none value number new is last told = by (subst (λ (e : Ended). IsTold new.seat.last number value e) is told)
  where
    by : IsTold new.seat.last number value (ended.Committed tn none) → Told Commit new
    by (same, (Commit, status, told)) = record { number = same ∙ last; status = status }
    by (same, (BackUp cause, status, told)) = absurd (cc told)

-- operations that were handed in to run alone are over
pub ran_alone : (operations : List Operation) (old sub mid new : SessionView) (number : ℕ) (pending : Pending (Unit {0})) (was : Awaited (Unit {0})) (how : Ended) (tn : ℕ) (none : Unit {0}) → (number ≡ due old) × (sub ≡ handed_in old (Alone number operations))
    → pending.number ≡ number → mid ≡ record sub { seat = mid.seat } → IsAwaited mid.seat.last pending was → ComesTo mid was how new → new ≡ record mid { seat = new.seat } → how ≡ ended.Committed tn none → RunsAlone operations old new
ran_alone operations old sub mid new number pending was how tn none (due_now, handed) same seated waited came later is =
    let all : new ≡ record sub { seat = new.seat } = seated_twice sub mid new seated later in
    let pushes : Pushes (Alone number operations ∷ []) old sub = record { before = ap (λ (v : SessionView). v.sender.before) handed; pushed = ap (λ (v : SessionView). v.sender.pushed) handed; session = ap (λ (v : SessionView). v.session) handed } in
    let before : sub.sender.before ≡ old.sender.before = pushes.before in
    let long : length sub.sender.pushed ≡ length old.sender.pushed + 1 = ap length pushes.pushed ∙ length-append old.sender.pushed (Alone number operations ∷ []) in
    let next : due old ≡ sub.sender.before + length sub.sender.pushed = omega arith in
    record {
      number = number;
      pushes = seated_pushes old sub new (Alone number operations ∷ []) pushes all;
      told = committed_told how tn none pending.value pending.number new is (same ∙ due_now ∙ next ∙ sym (ap last_number all)) (alone_told mid new pending was how waited came);
      same = ap (λ (v : SessionView). v.front) all ∙ ap (λ (v : SessionView). v.front) handed;
    }

-- ---- all tries of a transaction

pub pushes_then : {xs ys : List Item} (a b c : SessionView) → Pushes xs a b → Pushes ys b c → Pushes (xs ++ ys) a c
pushes_then {xs} {ys} a b c first second = record {
  before = second.before ∙ first.before;
  pushed = second.pushed ∙ ap (λ (items : List Item). items ++ ys) first.pushed ∙ append_assoc a.sender.pushed xs ys;
  session = second.session ∙ first.session;
}

all_made_more : {Value Error : Type 0} (Made : Making Value Error) (session : ℕ) (xs ys : List Item) (from between to : FrontView) → AllMade Made session xs from between → AllMade Made session ys between to → AllMade Made session (xs ++ ys) from to
all_made_more Made session [] ys from between to first second = subst (λ (f : FrontView). AllMade Made session ys f to) first second
all_made_more Made session (x ∷ xs) ys from between to first second = (first.0, first.1, all_made_more Made session xs ys first.0 between to first.2 second)

-- one try more, behind one that was backed up
pub next_try : (named : Named) (operations : List Operation) (count : ℕ) (last tried : Try) (old mid new : SessionView) → last ≡ outcome.BackedUp → Tries named operations count last old mid → Tries named operations 0 tried mid new → Tries named operations (count + 1) tried old new
next_try named operations count last tried old mid new is first second =
    let before : Tries named operations count outcome.BackedUp old mid = subst (λ (t : Try). Tries named operations count t old mid) is first in
    let some : length before.items ≡ count + 1 = before.requests.many in
    let more : length second.items ≡ 0 + handed_by tried = second.requests.many in
    let on : AllMade (Performing named operations) mid.session second.items before.asked second.asked =
    subst (λ (f : FrontView). AllMade (Performing named operations) mid.session second.items f second.asked) before.came.0 second.requests.made in
    record {
      items = before.items ++ second.items;
      asked = second.asked;
      pushes = pushes_then old mid new before.pushes second.pushes;
      requests = record {
        many = omega (arith, length-append before.items second.items);
        made = all_made_more (Performing named operations) old.session before.items second.items old.front before.asked second.asked before.requests.made
            (subst (λ (n : ℕ). AllMade (Performing named operations) n second.items before.asked second.asked) before.pushes.session on);
      };
      came = second.came;
    }

-- a try before the last that there may be, which was not backed up
pub last_before : (named : Named) (operations : List Operation) (count retries : ℕ) (tried : Try) (test : Bool) (old new : SessionView) → count < retries → (tried ≡ outcome.BackedUp → test ≡ true) → test ≡ false → Tries named operations count tried old new → LastTry named operations retries tried old new
last_before named operations count retries tried test old new below holds fails tries = record {
  count = count;
  within = omega arith;
  tries = tries;
  all = λ is. let f : false ≡ true = sym fails ∙ holds is in absurd (cc f);
}

-- the last try that there may be
pub last_of_all : (named : Named) (operations : List Operation) (count retries : ℕ) (tried : Try) (old new : SessionView) → count ≤ retries → retries ≤ count → Tries named operations count tried old new → LastTry named operations retries tried old new
last_of_all named operations count retries tried old new within past tries = record { count = count; within = within; tries = tries; all = λ is. omega arith }

-- what was asked is what is seen
seen_until : (named : Named) (session : ℕ) (operations : List Operation) (count : ℕ) (items : List Item) (from asked to : FrontView) → to ≡ asked → Requests named session operations count items from asked → Requests named session operations count items from to
seen_until named session operations count items from asked to same = subst (Requests named session operations count items from) (sym same)

pub refused_plan : (named : Named) (retries : ℕ) (operations : List Operation) (tried : Try) (old new : SessionView) → tried ≡ outcome.Refused → LastTry named operations retries tried old new → PlanGives named retries operations true old new
refused_plan named retries operations tried old new is last =
    let h : LastTry named operations retries outcome.Refused old new = subst (λ (t : Try). LastTry named operations retries t old new) is last in
    let many : length h.tries.items ≡ h.count + 0 = h.tries.requests.many in
    record {
      items = h.tries.items;
      pushes = h.tries.pushes;
      hands_in = (h.count, h.tries.asked, h.within, record { many = omega arith; made = h.tries.requests.made }, subst (λ (n : ℕ). HasRefused named n operations h.tries.asked new.front) h.tries.pushes.session h.tries.came);
      told = λ (e : true ≡ false). absurd (cc e);
    }

pub committed_plan : (named : Named) (retries : ℕ) (operations : List Operation) (tried : Try) (old new : SessionView) → tried ≡ outcome.Committed → LastTry named operations retries tried old new → PlanGives named retries operations false old new
committed_plan named retries operations tried old new is last =
    let h : LastTry named operations retries outcome.Committed old new = subst (λ (t : Try). LastTry named operations retries t old new) is last in
    record {
      items = h.tries.items;
      pushes = h.tries.pushes;
      hands_in = inl (h.count, h.within, seen_until named old.session operations (h.count + 1) h.tries.items old.front h.tries.asked new.front h.tries.came.0 h.tries.requests);
      told = λ e. h.tries.came.1;
    }

pub alone_plan : (named : Named) (retries : ℕ) (operations : List Operation) (tried : Try) (old mid new : SessionView) → tried ≡ outcome.BackedUp → LastTry named operations retries tried old mid → RunsAlone operations mid new → PlanGives named retries operations false old new
alone_plan named retries operations tried old mid new is last alone =
    let h : LastTry named operations retries outcome.BackedUp old mid = subst (λ (t : Try). LastTry named operations retries t old mid) is last in
    let many : length h.tries.items ≡ h.count + 1 = h.tries.requests.many in
    let all : h.count ≡ retries = h.all refl in
    let seen : new.front ≡ h.tries.asked = alone.same ∙ h.tries.came.0 in
    let requests : Requests named old.session operations (retries + 1) h.tries.items old.front h.tries.asked = record { many = omega arith; made = h.tries.requests.made } in
    record {
      items = h.tries.items ++ Alone alone.number operations ∷ [];
      pushes = pushes_then old mid new h.tries.pushes alone.pushes;
      hands_in = inr (h.tries.items, alone.number, seen_until named old.session operations (retries + 1) h.tries.items old.front h.tries.asked new.front seen requests, refl);
      told = λ e. alone.told;
    }
