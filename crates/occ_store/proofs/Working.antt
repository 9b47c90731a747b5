-- What the tries of a session come to.
use Rattle.std.proofs.Common.{◌≡◌, inl, inr, ◌⊎◌, ℕ, ◌+◌, ◌<◌, ◌≤◌, true, false, List, [], ◌∷◌, ◌++◌, length, Option, None, Some, Result, Ok, Err, OnErr, IfOk, IfErr, refl, sym, ap, subst, ◌∙◌, append_assoc, arith, length-append}
use Rattle.std.specs.Prelude.{IsSomeAnd, IsErrAnd, IsOk}
use Rattle.occ_types.specs.declared.fault.Fault.{Fault}
use Rattle.occ_types.specs.declared.fault.Fault.TheVariants.{OutOfTurn}
use Rattle.occ_model.specs.Event.{Item, Request, Alone, Close}
use Rattle.occ_sets.specs.Sets.{Copied}
use Rattle.occ_open.specs.Transactions.{begun as no_writes}
use Rattle.occ_queue.specs.Lanes.{pushing}
use Rattle.occ_board.specs.declared.rule.Seen.{Seen}
use Rattle.occ_case.specs.declared.ended.Ended.{Ended}
use Rattle.occ_case.specs.declared.ended.Ended.TheVariants.{Committed, BackedUp}
use Rattle.occ_history.specs.History.{FrontView}
use Rattle.occ_store.specs.Names.{Named}
use Rattle.occ_store.specs.Transactions.{TransactionView}
use Rattle.occ_store.specs.Bodies.{Making, Goes, Becoming, ComesOf}
use Rattle.occ_store.specs.Sessions.{SessionView, due, last_number, begun, begin_fault, submit_fault, request, handed_in, Submits, IsRefusedBy}
use Rattle.occ_store.specs.Ended.{IsTold}
use Rattle.occ_store.specs.Tries.{IsMade, AllMade, LastMade, Requests, IsLastTry, Tried, Ends, HandsInFewer, HandsInOne, lent, RunsIn, RunFails, Reopens, GivesUp, begun_from, IsGivenUpFor, NotHandedIn}

made_so : {V E : Type 0} (Made Other : Making V E) (session : ℕ) (value : V) (item : Item) (from to : FrontView) → Goes Made Other → IsMade Made session value item from to → IsMade Other session value item from to
made_so Made Other session value (Request number start writes) from to goes made = (made.0, made.1, made.2, made.3, goes _ _ _ made.4)
made_so Made Other session value (Alone number operations) from to goes made = made
made_so Made Other session value (Close number) from to goes made = made

pub all_so : {V E : Type 0} (Made Other : Making V E) (session : ℕ) (items : List Item) (from to : FrontView) → Goes Made Other → AllMade Made session items from to → AllMade Other session items from to
all_so Made Other session [] from to goes made = made
all_so Made Other session (item ∷ items) from to goes made =
    (made.0, (made.1.0, made_so Made Other session made.1.0 item from made.0 goes made.1.1), all_so Made Other session items made.0 to goes made.2)

-- some requests, and then some more, which were asked from where the first ones led
pub all_more : {V E : Type 0} (Made : Making V E) (session : ℕ) (xs ys : List Item) (from between to : FrontView) → AllMade Made session xs from between → AllMade Made session ys between to → AllMade Made session (xs ++ ys) from to
all_more Made session [] ys from between to first second = subst (λ (f : FrontView). AllMade Made session ys f to) first second
all_more Made session (x ∷ xs) ys from between to first second = (first.0, first.1, all_more Made session xs ys first.0 between to first.2 second)

-- the last of some more requests is the last of all
pub last_more : {V E : Type 0} (Made Later : Making V E) (session other : ℕ) (xs ys : List Item) (value : V) (to : FrontView) → Goes Later Made → session ≡ other → LastMade Later session ys value to → LastMade Made other (xs ++ ys) value to
last_more Made Later session other xs ys value to goes same made = (
  xs ++ made.0,
  made.1,
  ap (λ (items : List Item). xs ++ items) made.2 ∙ sym (append_assoc xs made.0 (made.1 ∷ [])),
  (made.3.0, subst (λ (n : ℕ). IsMade Made n value made.1 made.3.0 to) same (made_so Later Made session value made.1 made.3.0 to goes made.3.1)),
)

unfoldable pub requests_so : {V E : Type 0} (Made Other : Making V E) (count : ℕ) (old new : SessionView) (asked : FrontView) → Goes Made Other → Requests Made count old asked new → Requests Other count old asked new
requests_so Made Other count old new asked goes handed = record {
  items = handed.items;
  pushed = handed.pushed;
  many = handed.many;
  made = all_so Made Other old.session handed.items old.front asked goes handed.made;
  none_open = handed.none_open;
}

unfoldable pub requests_more : {V E : Type 0} (Made : Making V E) (m n : ℕ) (a b c : SessionView) (asked : FrontView) → Requests Made m a b.front b → Requests Made n b asked c → Requests Made (m + n) a asked c
requests_more Made m n a b c asked first second =
    let xs = first.items in
    let ys = second.items in
    let both = length-append xs ys in
    let of_first = first.many in
    let of_second = second.many in record {
      items = xs ++ ys;
      pushed = second.pushed
          ∙ ap (λ (v : SessionView). record v { seat = c.seat; sender = record v.sender { pushed = v.sender.pushed ++ ys }; draft = c.draft; front = c.front }) first.pushed
          ∙ ap (λ (items : List Item). record a { seat = c.seat; sender = record a.sender { pushed = items }; draft = c.draft; front = c.front }) (append_assoc a.sender.pushed xs ys);
      many = omega arith;
      made = all_more Made a.session xs ys a.front b.front asked first.made (subst (λ (n : ℕ). AllMade Made n ys b.front asked) (ap (λ (v : SessionView). v.session) first.pushed) second.made);
      none_open = λ none. second.none_open (first.none_open none);
    }

-- one more try, by a body that keeps to what it may make
pub tried_more : {V E : Type 0} (Made Later : Making V E) (count : ℕ) (old between new : SessionView) (before ended : Ended V) → Goes Later Made → Tried Made count old before between → Tried Later 1 between ended new → Tried Made (count + 1) old ended new
unfolding requests_more requests_so
tried_more Made Later count old between new before ended goes first second = record {
  requests = requests_more Made count 1 old between new new.front first.requests (requests_so Later Made 1 between new new.front goes second.requests);
  value = second.value;
  answered = last_more Made Later between.session old.session first.requests.items second.requests.items second.value new.front goes
      (ap (λ (v : SessionView). v.session) first.requests.pushed) second.answered;
  told = second.told;
  none_open = second.none_open;
}

nothing_more : (items : List Item) → items ≡ items ++ []
nothing_more [] = refl
nothing_more (item ∷ items) = ap (λ (rest : List Item). item ∷ rest) (nothing_more items)

-- none was handed in
none_handed : {V E : Type 0} (Made : Making V E) (old new : SessionView) → new ≡ record old { seat = new.seat; draft = new.draft; front = new.front } → (old.draft ≡ None → new.draft ≡ None) → Requests Made 0 old old.front new
none_handed Made old new same none = record {
  items = [];
  pushed = same ∙ ap (λ (items : List Item). record old { seat = new.seat; sender = record old.sender { pushed = items }; draft = new.draft; front = new.front }) (nothing_more old.sender.pushed);
  many = refl;
  made = refl;
  none_open = none;
}

-- one request was handed in
unfoldable pub one_handed : {V E : Type 0} (Made : Making V E) (old new : SessionView) (number : ℕ) (value : V) → HandsInOne Made old number value new → Requests Made 1 old new.front new
one_handed Made old new number value hands =
    let none : new.draft ≡ None = ap (λ (v : SessionView). v.draft) hands.1.2 in record {
      items = request hands.1.0 ∷ [];
      pushed = hands.1.2 ∙ ap (λ (d : Option Copied). record old { seat = new.seat; sender = pushing old.sender (request hands.1.0); draft = d; front = new.front }) (sym none);
      many = refl;
      made = (new.front, (value, hands.1.3), refl);
      none_open = λ _. none;
    }

-- a request that was handed in, where the seat alone saw more since
pub still_handed : {V E : Type 0} (Made : Making V E) (old between new : SessionView) (number : ℕ) (value : V) → HandsInOne Made old number value between → new ≡ record between { seat = new.seat } → HandsInOne Made old number value new
still_handed Made old between new number value hands same =
    let item = request hands.1.0 in
    let front : between.front ≡ new.front = sym (ap (λ (v : SessionView). v.front) same) in (
      hands.0,
      (
        hands.1.0,
        hands.1.1,
        same ∙ ap (λ (v : SessionView). record v { seat = new.seat }) hands.1.2 ∙ ap (λ (f : FrontView). record old { seat = new.seat; sender = pushing old.sender item; draft = None; front = f }) front,
        subst (λ (f : FrontView). IsMade Made old.session value item old.front f) front hands.1.3,
      ),
    )

-- the last number is that of the request
pub handed_last : {V E : Type 0} (Made : Making V E) (old new : SessionView) (number : ℕ) (value : V) → HandsInOne Made old number value new → number ≡ last_number new
handed_last Made old new number value hands =
    let item = request hands.1.0 in
    let long = length-append old.sender.pushed (item ∷ []) in
    let next : due old ≡ old.sender.before + length (old.sender.pushed ++ item ∷ []) = omega arith in
    hands.0 ∙ next ∙ sym (ap last_number hands.1.2)

-- one try, whose end the board tells
pub tried_one : {V E : Type 0} (Made : Making V E) (old between new : SessionView) (number : ℕ) (value : V) (ended : Ended V) → HandsInOne Made old number value between → new ≡ record between { seat = new.seat } → IsTold new.seat.last number value ended → Tried Made 1 old ended new
unfolding one_handed
tried_one Made old between new number value ended hands same told =
    let handed = still_handed Made old between new number value hands same in record {
      requests = one_handed Made old new number value handed;
      value = value;
      answered = ([], request handed.1.0, refl, (old.front, handed.1.3));
      told = subst (λ (n : ℕ). IsTold new.seat.last n value ended) (handed_last Made old new number value handed) told;
      none_open = ap (λ (v : SessionView). v.draft) handed.1.2;
    }

-- what a body makes of the transaction that is lent to it, which comes back
pub body_made : {V E : Type 0} (Made : Making V E) (old lends new : SessionView) (back : Option Copied) (front : FrontView) (body : Result V E) (value : V)
    → lends ≡ old → RunsIn Made lends body back front → body ≡ Ok value → new.draft ≡ back → new.front ≡ front → RunsIn Made old (Ok value) new.draft new.front
body_made {V} {E} Made old lends new back front body value lends_is runs ran came seen =
    subst (λ (v : SessionView). RunsIn Made v (Ok value) new.draft new.front) lends_is
    (subst (λ (r : Result V E). RunsIn Made lends r new.draft new.front) ran (runs.0, came ∙ runs.1, seen ∙ runs.2, runs.3))

pub body_refused : {V E : Type 0} (Made : Making V E) (Becomes : Becoming E) (old lends new : SessionView) (back : Option Copied) (front : FrontView) (body : Result V E) (error : E)
    → lends ≡ old → RunsIn Made lends body back front → body ≡ Err error → new.front ≡ front → RunFails Made Becomes old error new.front
body_refused {V} {E} Made Becomes old lends new back front body error lends_is runs ran seen =
    subst (λ (v : SessionView). RunFails Made Becomes v error new.front) lends_is (body, back, (runs.0, runs.1, seen ∙ runs.2, runs.3), inl ran)

-- what is so of an error that a fault became
pub at_fault : {X E : Type 0} (Becomes : Becoming E) (Is : E → Type 0) (result : Result X E) (fault : Fault) → IsErrAnd result (Becomes fault) → ((error : E) → Becomes fault error → Is error) → IfErr result Is
at_fault Becomes Is (Ok x) fault same is = tt
at_fault Becomes Is (Err error) fault same is = is error same

-- and of one that is handed on
pub at_error : {X E : Type 0} (Is : E → Type 0) (result : Result X E) (error : E) → IsErrAnd result (λ e. e ≡ error) → Is error → IfErr result Is
at_error Is (Ok x) error same is = tt
at_error Is (Err e) error same is = subst Is (sym same) is

-- a run left another transaction
pub came_back : {X V E : Type 0} (Made : Making V E) (Becomes : Becoming E) (old lends new : SessionView) (back : Option Copied) (front : FrontView) (body : Result V E) (result : Result X E) (fault : Fault)
    → lends ≡ old → RunsIn Made lends body back front → new.front ≡ front → IsErrAnd result (Becomes fault) → fault ≡ OutOfTurn → IfErr result (λ error. RunFails Made Becomes old error new.front)
came_back {E = E} Made Becomes old lends new back front body result fault lends_is runs seen same is =
    at_fault Becomes (λ error. RunFails Made Becomes old error new.front) result fault same (λ (error : E) becomes.
    subst (λ (v : SessionView). RunFails Made Becomes v error new.front) lends_is
    (body, back, (runs.0, runs.1, seen ∙ runs.2, runs.3), inr (subst (λ (f : Fault). Becomes f error) is becomes)))

-- the transaction that was begun, with what is open after the run of its body
reopened : (old begins ran : SessionView) (start number : ℕ) → begins ≡ begun old start → (again : Reopens (record begins { front = ran.front }) number ran) → ran ≡ record (begun old start) { draft = Some again.0; front = ran.front }
reopened old begins ran start number begins_is again = again.2 ∙ ap (λ (v : SessionView). record v { draft = Some again.0; front = ran.front }) begins_is

-- what was made of the transaction that was begun is handed in
pub made_handed : {V E : Type 0} (Made : Making V E) (old begins ran new : SessionView) (start number n : ℕ) (value : V) → number ≡ due old → begins ≡ begun old start → RunsIn Made begins (Ok value) ran.draft ran.front
    → Reopens (record begins { front = ran.front }) number ran → Submits ran n new → HandsInOne Made old n value new
made_handed Made old begins ran new start number n value due_is begins_is runs again submits =
    let copy = again.0 in
    let draft_is : ran.draft ≡ Some copy = ap (λ (v : SessionView). v.draft) again.2 in
    let submitted : (n ≡ copy.number) × (new ≡ handed_in ran (request copy)) =
    subst (λ (d : Option Copied). IsSomeAnd d (λ copy. (n ≡ copy.number) × (new ≡ handed_in ran (request copy)))) draft_is submits in
    let number_is : copy.number ≡ due old = again.1 ∙ due_is in
    let front_is : new.front ≡ ran.front = ap (λ (v : SessionView). v.front) submitted.1 in
    let new_is : new ≡ handed_in (record (begun old start) { draft = Some copy; front = ran.front }) (request copy) =
    submitted.1 ∙ ap (λ (v : SessionView). handed_in v (request copy)) (reopened old begins ran start number begins_is again) in
    let began : Made (record { session = old.session; draft = Some (no_writes (due old) start); front = old.front }) (Ok value) runs.0 =
    subst (λ (v : SessionView). Made (lent v) (Ok value) runs.0) begins_is runs.3 in (
      submitted.0 ∙ number_is,
      (
        copy,
        submitted.0,
        new_is ∙ ap (λ (s : Seen). record old { seat = s; sender = pushing old.sender (request copy); draft = None; front = ran.front }) (sym (ap (λ (v : SessionView). v.seat) new_is))
            ∙ ap (λ (f : FrontView). record old { seat = new.seat; sender = pushing old.sender (request copy); draft = None; front = f }) (sym front_is),
        (
          start,
          runs.0,
          sym runs.1 ∙ draft_is,
          front_is ∙ runs.2,
          subst (λ (m : ℕ). Made (record { session = old.session; draft = Some (no_writes m start); front = old.front }) (Ok value) runs.0) (sym number_is) began,
        ),
      ),
    )

absurd_ok : {P : Type 0} → false ≡ true → P
absurd_ok e = cc e

-- a run that answered a value is refused as it is handed in
refused_after : {V E : Type 0} (Made : Making V E) (Becomes : Becoming E) (begins ran : SessionView) (start : ℕ) (from : FrontView) (body : Result V E) (error : E)
    → begins ≡ begun_from ran start from → IfOk body (λ value. RunsIn Made begins (Ok value) ran.draft ran.front) → IsOk body → ComesOf Becomes (IsRefusedBy (submit_fault ran) ran) error
    → IsGivenUpFor Made Becomes from ran error
refused_after Made Becomes begins ran start from (Ok value) error is runs ok refused =
    (start, inr (value, subst (λ (v : SessionView). RunsIn Made v (Ok value) ran.draft ran.front) is runs, refused))
refused_after Made Becomes begins ran start from (Err e) error is runs ok refused = absurd_ok ok

given_up_for : {V E : Type 0} (Made : Making V E) (Becomes : Becoming E) (old begins ran : SessionView) (start number : ℕ) (body : Result V E) (error : E)
    → begins ≡ begun old start → IfOk body (λ value. RunsIn Made begins (Ok value) ran.draft ran.front) → IfErr body (λ error. RunFails Made Becomes begins error ran.front)
    → Reopens (record begins { front = ran.front }) number ran
    → (body ≡ Err error) ⊎ (IsOk body × ComesOf Becomes (IsRefusedBy (submit_fault ran) ran) error) → IsGivenUpFor Made Becomes old.front ran error
given_up_for {V} {E} Made Becomes old begins ran start number body error begins_is runs fails again why = by why where
  is : begins ≡ begun_from ran start old.front
  is = begins_is ∙ sym (ap (λ (v : SessionView). begun_from v start old.front) (reopened old begins ran start number begins_is again))

  by : (body ≡ Err error) ⊎ (IsOk body × ComesOf Becomes (IsRefusedBy (submit_fault ran) ran) error) → IsGivenUpFor Made Becomes old.front ran error
  by (inl failed) = (start, inl (subst (λ (v : SessionView). RunFails Made Becomes v error ran.front) is (subst (λ (r : Result V E). IfErr r (λ error. RunFails Made Becomes begins error ran.front)) failed fails)))
  by (inr refused) = refused_after Made Becomes begins ran start old.front body error is runs refused.0 refused.1

-- where it is given up none is handed in, and it is as if the session had only seen its start, and what its body asked
pub none_handed_in : {X V E : Type 0} (Made : Making V E) (Becomes : Becoming E) (named : Named) (old begins ran new : SessionView) (start number : ℕ) (body : Result V E) (went : Result X E)
    → begins ≡ begun old start → IfOk body (λ value. RunsIn Made begins (Ok value) ran.draft ran.front) → IfErr body (λ error. RunFails Made Becomes begins error ran.front)
    → Reopens (record begins { front = ran.front }) number ran → OnErr went (GivesUp named ran new)
    → IfErr went (λ error. (body ≡ Err error) ⊎ (IsOk body × ComesOf Becomes (IsRefusedBy (submit_fault ran) ran) error))
    → IfErr went (λ error. HandsInFewer Made Becomes named 1 old error new)
none_handed_in Made Becomes named old begins ran new start number body (Ok handed) begins_is runs fails again given why = tt
none_handed_in Made Becomes named old begins ran new start number body (Err error) begins_is runs fails again given why =
    let is : new ≡ record (begun old start) { draft = None; front = new.front } =
    given.1 ∙ ap (λ (v : SessionView). record v { draft = None; front = new.front }) (reopened old begins ran start number begins_is again) in
    let none : new.draft ≡ None = ap (λ (v : SessionView). v.draft) is in
    let same : new ≡ record old { seat = new.seat; draft = new.draft; front = new.front } = is
    ∙ ap (λ (s : Seen). record old { seat = s; draft = None; front = new.front }) (sym (ap (λ (v : SessionView). v.seat) is))
    ∙ ap (λ (d : Option Copied). record old { seat = new.seat; draft = d; front = new.front }) (sym none) in
    (0, old.front, omega arith, none_handed Made old new same (λ _. none), inr (ran, given, given_up_for Made Becomes old begins ran start number body error begins_is runs fails again why))

-- none may begin
pub not_begun : {V E : Type 0} (Made : Making V E) (Becomes : Becoming E) (named : Named) (old new : SessionView) (fault : Fault) (error : E) → new ≡ old → Some fault ≡ begin_fault old → Becomes fault error → HandsInFewer Made Becomes named 1 old error new
not_begun Made Becomes named old new fault error same is becomes =
    subst (HandsInFewer Made Becomes named 1 old error) (sym same) (0, old.front, omega arith, none_handed Made old old refl (λ none. none), inl (refl, (fault, sym is, becomes)))

-- ---- a body that keeps to what it may make

runs_so : {V E : Type 0} (Made Other : Making V E) (session : SessionView) (ran : Result V E) (draft : Option Copied) (front : FrontView) → Goes Made Other → RunsIn Made session ran draft front → RunsIn Other session ran draft front
runs_so Made Other session ran draft front goes runs = (runs.0, runs.1, runs.2, goes _ _ _ runs.3)

fails_so : {V E : Type 0} (Made Other : Making V E) (Becomes : Becoming E) (session : SessionView) (error : E) (front : FrontView) → Goes Made Other → RunFails Made Becomes session error front → RunFails Other Becomes session error front
fails_so Made Other Becomes session error front goes fails = (fails.0, fails.1, runs_so Made Other session fails.0 fails.1 front goes fails.2, fails.3)

given_up_so : {V E : Type 0} (Made Other : Making V E) (Becomes : Becoming E) (from : FrontView) (session : SessionView) (error : E) → Goes Made Other → IsGivenUpFor Made Becomes from session error → IsGivenUpFor Other Becomes from session error
given_up_so {V} {E} Made Other Becomes from session error goes why = (why.0, why_so (begun_from session why.0 from) why.1) where
  why_so : (begins : SessionView) → RunFails Made Becomes begins error session.front ⊎ ((value : V) × RunsIn Made begins (Ok value) session.draft session.front × ComesOf Becomes (IsRefusedBy (submit_fault session) session) error)
      → RunFails Other Becomes begins error session.front ⊎ ((value : V) × RunsIn Other begins (Ok value) session.draft session.front × ComesOf Becomes (IsRefusedBy (submit_fault session) session) error)
  why_so begins (inl fails) = inl (fails_so Made Other Becomes begins error session.front goes fails)
  why_so begins (inr refused) = inr (refused.0, runs_so Made Other begins (Ok refused.0) session.draft session.front goes refused.1, refused.2)

not_handed_in_so : {V E : Type 0} (Made Other : Making V E) (Becomes : Becoming E) (named : Named) (from : FrontView) (session : SessionView) (error : E) → Goes Made Other → NotHandedIn Made Becomes named from session error → NotHandedIn Other Becomes named from session error
not_handed_in_so Made Other Becomes named from session error goes (inl refused) = inl refused
not_handed_in_so Made Other Becomes named from session error goes (inr given) = inr (given.0, given.1, given_up_so Made Other Becomes from given.0 error goes given.2)

-- fewer were handed in
pub hands_in_fewer : {V E : Type 0} (Made Later : Making V E) (Becomes : Becoming E) (named : Named) (count most : ℕ) (old between new : SessionView) (before : Ended V) (error : E)
    → count < most → Goes Later Made → Tried Made count old before between → HandsInFewer Later Becomes named 1 between error new → HandsInFewer Made Becomes named most old error new
hands_in_fewer Made Later Becomes named count most old between new before error below goes first second =
    let few = second.2 in (
      count + second.0,
      second.1,
      omega arith,
      requests_more Made count second.0 old between new second.1 first.requests (requests_so Later Made second.0 between new second.1 goes second.3),
      not_handed_in_so Later Made Becomes named second.1 new error goes second.4,
    )

-- so it is where there may be more tries
pub fewer_of_more : {V E : Type 0} (Made : Making V E) (Becomes : Becoming E) (named : Named) (few most : ℕ) (old new : SessionView) (error : E)
    → few ≤ most → HandsInFewer Made Becomes named few old error new → HandsInFewer Made Becomes named most old error new
fewer_of_more Made Becomes named few most old new error more hands =
    let below = hands.2 in (hands.0, hands.1, omega arith, hands.3, hands.4)

last_is : {V : Type 0} (count most : ℕ) (ended : Ended V) → count ≡ most → IsLastTry count most ended
last_is count most (Committed tn value) is = tt
last_is count most (BackedUp cause) is = is

pub ends_last : {V E : Type 0} (Made : Making V E) (count most : ℕ) (old new : SessionView) (ended : Ended V) → 0 < count → count ≡ most → Tried Made count old ended new → Ends Made most old ended new
ends_last Made count most old new ended some is tried = (count, some, omega arith, last_is count most ended is, tried)
