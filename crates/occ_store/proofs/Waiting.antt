-- What the tries of a client come to that waits for them.
use Rattle.std.proofs.Common.{◌≡◌, ℕ, ◌+◌, ◌<◌, ◌≤◌, List, [], ◌∷◌, ◌++◌, true, false, Option, None, Some, Result, Ok, Err, OnErr, IfOk, IfErr, refl, sym, ap, subst, ◌∙◌, arith}
use Rattle.std.specs.Prelude.{IsErrAnd, MatchResult, is_some}
use Rattle.occ_types.specs.declared.fault.Fault.{Fault}
use Rattle.occ_types.specs.Schema.{first_fault}
use Rattle.occ_sets.specs.Sets.{Copied}
use Rattle.occ_model.specs.Event.{Close, Reply}
use Rattle.occ_board.specs.declared.rule.Seen.{Seen}
use Rattle.occ_board.specs.Rule.{polled}
use Rattle.occ_history.specs.History.{FrontView}
use Rattle.occ_store.specs.declared.awaited.Pending as pendings
use Rattle.occ_store.specs.declared.awaited.Awaited.{Awaited}
use Rattle.occ_store.specs.declared.awaited.Awaited.TheVariants.{Settled, Pending}
use Rattle.occ_store.specs.Names.{Named}
use Rattle.occ_store.specs.Transactions.{AbandonsIn}
use Rattle.occ_store.specs.Bodies.{Making, Goes, Becoming}
use Rattle.occ_store.specs.Sessions.{SessionView, due, begun, request, Submits, handed_in, closed, no_number, close_fault, IsRefusedBy}
use Rattle.occ_store.specs.Tries.{Requests, HandsInFewer, HandsInOne, lent, RunsIn, Reopens}
use Rattle.occ_store.specs.Clients.{IsPolled, was_backed_up, IsUntold, IsAwaited, Waits, TriedSo, Awaits, without_draft, give_up_fault, LetsGo}
use Rattle.occ_store.proofs.Working.{requests_more, requests_so, last_more, tried_more, one_handed, still_handed, handed_last, tried_one, made_handed, ends_last, hands_in_fewer, fewer_of_more}

absurd : {P : Type 0} → false ≡ true → P
absurd e = cc e

-- one more try, which is pending
waits_more : {V E : Type 0} (Made Later : Making V E) (count : ℕ) (old between new : SessionView) (first : Requests Made count old between.front between) (pending : pendings.Pending V) → Goes Later Made → Waits Later 1 between pending new → Waits Made (count + 1) old pending new
unfolding requests_more requests_so
waits_more Made Later count old between new first pending goes second = record {
  requests = requests_more Made count 1 old between new new.front first (requests_so Later Made 1 between new new.front goes second.requests);
  answered = last_more Made Later between.session old.session first.items second.requests.items pending.value new.front goes
      (ap (λ (v : SessionView). v.session) first.pushed) second.answered;
  number = second.number;
  untold = second.untold;
  none_open = second.none_open;
}

-- one more try, after one that was backed up
pub tried_so_more : {V E : Type 0} (Made Later : Making V E) (count : ℕ) (old between new : SessionView) (before awaited : Awaited V) → was_backed_up before ≡ true → Goes Later Made → TriedSo Made count old before between → TriedSo Later 1 between awaited new → TriedSo Made (count + 1) old awaited new
tried_so_more Made Later count old between new (Settled before) (Settled ended) backed goes first second =
    tried_more Made Later count old between new before ended goes first second
tried_so_more Made Later count old between new (Settled before) (Pending pending) backed goes first second =
    waits_more Made Later count old between new first.requests pending goes second
tried_so_more Made Later count old between new (Pending before) awaited backed goes first second = absurd backed

-- the request that was handed in is pending
waits_one : {V E : Type 0} (Made : Making V E) (old between new : SessionView) (pending : pendings.Pending V) → HandsInOne Made old pending.number pending.value between → new ≡ record between { seat = new.seat } → IsUntold new.seat.last pending.number → Waits Made 1 old pending new
unfolding one_handed
waits_one Made old between new pending hands same untold =
    let handed = still_handed Made old between new pending.number pending.value hands same in record {
      requests = one_handed Made old new pending.number pending.value handed;
      answered = ([], request handed.1.0, refl, (old.front, handed.1.3));
      number = handed_last Made old new pending.number pending.value handed;
      untold = untold;
      none_open = ap (λ (v : SessionView). v.draft) handed.1.2;
    }

-- what came of waiting for the request that was handed in
pub awaited_one : {V E : Type 0} (Made : Making V E) (old between new : SessionView) (pending : pendings.Pending V) (awaited : Awaited V) → HandsInOne Made old pending.number pending.value between → new ≡ record between { seat = new.seat } → IsAwaited new.seat.last pending awaited → TriedSo Made 1 old awaited new
awaited_one Made old between new pending (Settled ended) hands same told = tried_one Made old between new pending.number pending.value ended hands same told
awaited_one {V} Made old between new pending (Pending again) hands same told =
    subst (λ (p : pendings.Pending V). Waits Made 1 old p new) (sym told.0) (waits_one Made old between new pending hands same told.1)

-- the tries end with the last one
pub awaits_last : {V E : Type 0} (Made : Making V E) (count most : ℕ) (old new : SessionView) (awaited : Awaited V) → 0 < count → count ≡ most → TriedSo Made count old awaited new → Awaits Made most old awaited new
awaits_last Made count most old new (Settled ended) some is tried = ends_last Made count most old new ended some is tried
awaits_last Made count most old new (Pending pending) some is tried = (count, some, omega arith, tried)

-- an error that is handed on
on_error : {X E : Type 0} (Is : E → Type 0) (result : Result X E) (error : E) → IsErrAnd result (λ e. e ≡ error) → Is error → IfErr result Is
on_error Is (Ok x) error same is = tt
on_error Is (Err e) error same is = subst Is (sym same) is

-- a first try that hands none in, and a later one
pub fewer_at_first : {X V E : Type 0} (Made : Making V E) (Becomes : Becoming E) (named : Named) (most : ℕ) (old new : SessionView) (result : Result X E) (error : E)
    → 0 < most → IsErrAnd result (λ e. e ≡ error) → HandsInFewer Made Becomes named 1 old error new → IfErr result (λ error. HandsInFewer Made Becomes named most old error new)
fewer_at_first {E = E} Made Becomes named most old new result error some same none =
    on_error (λ (e : E). HandsInFewer Made Becomes named most old e new) result error same (fewer_of_more Made Becomes named 1 most old new error (omega arith) none)

fewer_after : {V E : Type 0} (Made Later : Making V E) (Becomes : Becoming E) (named : Named) (count most : ℕ) (old between new : SessionView) (before : Awaited V) (error : E)
    → count < most → was_backed_up before ≡ true → Goes Later Made → TriedSo Made count old before between → HandsInFewer Later Becomes named 1 between error new → HandsInFewer Made Becomes named most old error new
fewer_after Made Later Becomes named count most old between new (Settled before) error below backed goes first none =
    hands_in_fewer Made Later Becomes named count most old between new before error below goes first none
fewer_after Made Later Becomes named count most old between new (Pending before) error below backed goes first none = absurd backed

pub fewer_at_later : {X V E : Type 0} (Made Later : Making V E) (Becomes : Becoming E) (named : Named) (count most : ℕ) (old between new : SessionView) (before : Awaited V) (result : Result X E) (error : E)
    → count < most → was_backed_up before ≡ true → Goes Later Made → TriedSo Made count old before between → IsErrAnd result (λ e. e ≡ error) → HandsInFewer Later Becomes named 1 between error new
    → IfErr result (λ error. HandsInFewer Made Becomes named most old error new)
fewer_at_later {E = E} Made Later Becomes named count most old between new before result error below backed goes first same none =
    on_error (λ (e : E). HandsInFewer Made Becomes named most old e new) result error same (fewer_after Made Later Becomes named count most old between new before error below backed goes first none)

-- what was made of the transaction that was begun is handed in, and waited for
pub hands_in_pending : {V E : Type 0} (Made : Making V E) (old begins ran new : SessionView) (start number : ℕ) (body : Result V E) (went : Result (pendings.Pending V) E)
    → number ≡ due old → begins ≡ begun old start → IfOk body (λ value. RunsIn Made begins (Ok value) ran.draft ran.front) → Reopens (record begins { front = ran.front }) number ran
    → IfOk went (λ pending. (body ≡ Ok pending.value) × Submits ran pending.number new) → IfOk went (λ pending. HandsInOne Made old pending.number pending.value new)
hands_in_pending {V} {E} Made old begins ran new start number body (Ok pending) due_is begins_is runs again went =
    made_handed Made old begins ran new start number pending.number pending.value due_is begins_is
    (subst (λ (r : Result V E). IfOk r (λ value. RunsIn Made begins (Ok value) ran.draft ran.front)) went.0 runs) again went.1
hands_in_pending Made old begins ran new start number body (Err error) due_is begins_is runs again went = tt

-- one more poll
pub polls_more : (first old new : Seen) (count : ℕ) → old ≡ record first { last = old.last; polls = first.polls + count } → new ≡ polled old new.last → new ≡ record first { last = new.last; polls = first.polls + (count + 1) }
polls_more first old new count before poll =
    let more : (first.polls + count) + 1 ≡ first.polls + (count + 1) = omega arith in
    poll ∙ ap (λ (s : Seen). polled s new.last) before ∙ ap (λ (n : ℕ). record first { last = new.last; polls = n }) more

pub polls_at_last : (most count : ℕ) (first old new : Seen) → count < most → old ≡ record first { last = old.last; polls = first.polls + count } → new ≡ polled old new.last → IsPolled most first new
polls_at_last most count first old new few before poll = (count + 1, omega arith, omega arith, polls_more first old new count before poll)

-- ---- giving up

-- what is open is forgotten, where something is
pub lets_go : (named : Named) (old : SessionView) (draft : Option Copied) (front : FrontView) → old.draft ≡ draft → is_some draft ≡ true → ((reply : Reply) × AbandonsIn named (lent old) reply front) → LetsGo named old front
lets_go named old None front is some forgets = absurd some
lets_go named old (Some copy) front is some forgets =
    let same : old ≡ record old { draft = Some copy } = ap (λ (d : Option Copied). record old { draft = d }) is in
    subst (λ (v : SessionView). LetsGo named v front) (sym same) (subst (λ (v : SessionView). (reply : Reply) × AbandonsIn named (lent v) reply front) same forgets)

pub gave_up : (old between new : SessionView) (result : Result ℕ Fault) → between ≡ record (without_draft old) { front = between.front }
    → IfOk result (λ number. (number ≡ due between) × (new ≡ handed_in between (Close number)))
    → IfOk result (λ number. (number ≡ due old) × (new ≡ record (handed_in old (Close number)) { front = new.front }))
gave_up old between new (Ok number) is closes =
    let front : new.front ≡ between.front = ap (λ (v : SessionView). v.front) closes.1 in (
      closes.0 ∙ ap due is,
      closes.1 ∙ ap (λ (v : SessionView). handed_in v (Close number)) is ∙ ap (λ (f : FrontView). record (handed_in old (Close number)) { front = f }) (sym front),
    )
gave_up old between new (Err fault) is closes = tt

pub gave_up_unclosed : (old between new : SessionView) (result : Result ℕ Fault) → between ≡ record (without_draft old) { front = between.front } → OnErr result (new ≡ between) → OnErr result (new ≡ record (without_draft old) { front = new.front })
gave_up_unclosed old between new (Ok number) is same = tt
gave_up_unclosed old between new (Err fault) is same = subst (λ (v : SessionView). v ≡ record (without_draft old) { front = v.front }) (sym same) is

-- closing sees nothing of the history
pub gave_up_front : (named : Named) (old between new : SessionView) (result : Result ℕ Fault) → IfOk result (λ number. (number ≡ due between) × (new ≡ handed_in between (Close number))) → OnErr result (new ≡ between)
    → LetsGo named old between.front → LetsGo named old new.front
gave_up_front named old between new (Ok number) closes same lets = subst (LetsGo named old) (sym (ap (λ (v : SessionView). v.front) closes.1)) lets
gave_up_front named old between new (Err fault) closes same lets = subst (LetsGo named old) (sym (ap (λ (v : SessionView). v.front) same)) lets

none_between : (first : Option Fault) (rest : List (Option Fault)) → first_fault (first ∷ None ∷ rest) ≡ first_fault (first ∷ rest)
none_between None rest = refl
none_between (Some fault) rest = refl

pub gave_up_refused : (old between : SessionView) (result : Result ℕ Fault) → between ≡ record (without_draft old) { front = between.front }
    → MatchResult result (λ _. close_fault between ≡ None) (IsRefusedBy (close_fault between) between) → MatchResult result (λ _. give_up_fault old ≡ None) (IsRefusedBy (give_up_fault old) old)
gave_up_refused old between result is why =
    subst (λ (f : Option Fault). MatchResult result (λ _. f ≡ None) (IsRefusedBy f old)) (none_between (closed old) (no_number old ∷ []))
    (subst (λ (v : SessionView). MatchResult result (λ _. close_fault v ≡ None) (IsRefusedBy (close_fault v) v)) is why)
