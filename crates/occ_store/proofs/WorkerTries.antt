-- What the tries of a worker come to.
use Rattle.std.proofs.Common.{◌≡◌, inl, inr, ◌⊎◌, ℕ, suc, ◌+◌, ◌<◌, List, Option, None, Some, Result, Ok, Err, OnErr, IfOk, IfErr, refl, sym, ap, subst, ◌∙◌, arith, false}
use Rattle.std.specs.Prelude.{IsErrAnd, is_some}
use Rattle.occ_types.specs.declared.fault.Fault.{Fault}
use Rattle.occ_types.specs.declared.fault.Fault.TheVariants as faults
use Rattle.occ_model.specs.Event.{Item, Request, Alone, Close, Enter, Entered, BackedUp}
use Rattle.occ_model.specs.Step.{Step, refused, starved, taken}
use Rattle.occ_model.specs.World.{World}
use Rattle.occ_model.specs.Operations.{Operation}
use Rattle.occ_model.specs.declared.verdict.Cause.{Cause}
use Rattle.occ_open.specs.Transactions.{begun as no_writes}
use Rattle.occ_queue.specs.Items.{is_mark}
use Rattle.occ_core.specs.AutoCheckpoints.{is_due, checked_point}
use Rattle.occ_core.specs.declared.auto_checkpoints.AutoCheckpoint.{AutoCheckpoint}
use Rattle.occ_case.specs.declared.ended.Ended as code_ended
use Rattle.occ_case.specs.declared.ended.Ended.TheVariants as ends
use Rattle.occ_case.specs.Ended.{answering, tn_of}
use Rattle.occ_history.specs.History.{Party, Session, FrontView}
use Rattle.occ_store.specs.Names.{Named}
use Rattle.occ_store.specs.Standing.{GoesOnTo}
use Rattle.occ_store.specs.Transactions.{TransactionView, IsReader}
use Rattle.occ_store.specs.Bodies.{Making, Goes, Becoming, Performing}
use Rattle.occ_store.specs.Lanes.{Left, Nothing, Kept, Open, Decided, number_left}
use Rattle.occ_store.specs.Tries.{IsMade, IsLastTry}
use Rattle.occ_store.specs.Workers.{WorkerView, IsKept, holding, End, Over, LeftIsOver, LeftOver, IsEnded, EndsLeft, HasEntered, LeftOf, StaysLeft, Makes, HandsInOne, TriesOnce, LeavesOne, RefusesTry, BackedUpTries, Tried, Ends, HandsInUpTo, HandsInFewer, lent, Forgets, NotMade, TriesList, RunsAlone, HandsInAlone, Runs, RunsOut, AloneStops, RunStops, PointStands, AfterPoint}
use Rattle.occ_store.proofs.Histories.{on_self, on_trans}

-- ---- what a later body makes

made_so : {V E : Type 0} (Made Other : Making V E) (session : ℕ) (value : V) (item : Item) (from to : FrontView) → Goes Made Other → IsMade Made session value item from to → IsMade Other session value item from to
made_so Made Other session value (Request number start writes) from to goes made = (made.0, made.1, made.2, made.3, goes _ _ _ made.4)
made_so Made Other session value (Alone number operations) from to goes made = made
made_so Made Other session value (Close number) from to goes made = made

hands_so : {V E : Type 0} (Made Other : Making V E) (old new : WorkerView) (item : Item) (value : V) (from made : FrontView) → Goes Made Other → HandsInOne Made old item value from made new → HandsInOne Other old item value from made new
hands_so Made Other old new item value from made goes hands = ((hands.0.0, made_so Made Other old.session value item from made goes hands.0.1), hands.1)

tries_so : {V E : Type 0} (named : Named) (Made Other : Making V E) (old new : WorkerView) (ended : code_ended.Ended V) → Goes Made Other → TriesOnce named Made old ended new → TriesOnce named Other old ended new
tries_so named Made Other old new ended goes tries = record {
  item = tries.item;
  value = tries.value;
  from = tries.from;
  made = tries.made;
  first = tries.first;
  handed_in = hands_so Made Other old new tries.item tries.value tries.from tries.made goes tries.handed_in;
  how = tries.how;
  over = tries.over;
  told = tries.told;
  nothing_left = tries.nothing_left;
}

not_made_so : {V E : Type 0} (named : Named) (Made Other : Making V E) (Becomes : Becoming E) (worker : WorkerView) (from to : FrontView) (error : E) → Goes Made Other → NotMade Made Becomes named worker from error to → NotMade Other Becomes named worker from error to
not_made_so named Made Other Becomes worker from to error goes (inl known) = inl known
not_made_so named Made Other Becomes worker from to error goes (inr fails) = inr (fails.0, fails.1, fails.2, goes _ _ _ fails.3, fails.4, fails.5)

refused_so : {V E : Type 0} (named : Named) (Made Other : Making V E) (Becomes : Becoming E) (old new : WorkerView) (error : E) → Goes Made Other → RefusesTry named Made Becomes old error new → RefusesTry named Other Becomes old error new
refused_so named Made Other Becomes old new error goes (inl first) = inl first
refused_so named Made Other Becomes old new error goes (inr (inl unmade)) =
    inr (inl (unmade.0, unmade.1, (unmade.2.0, unmade.2.1, not_made_so named Made Other Becomes old unmade.2.0 new.front error goes unmade.2.2)))
refused_so named Made Other Becomes old new error goes (inr (inr leaves)) =
    let one = leaves.0 in
    inr (inr ((one.0, one.1, one.2, one.3, one.4, hands_so Made Other old new one.0 one.1 one.2 one.3 goes one.5, one.6), leaves.1))

-- ---- an error

pub on_err_any : {X Y : Type 0} {P : Type 0} (result : Result X Y) → P → OnErr result P
on_err_any (Ok x) p = tt
on_err_any (Err y) p = p

-- what is so of an error that a fault became
pub at_fault : {X E : Type 0} (Becomes : Becoming E) (Is : E → Type 0) (result : Result X E) (fault : Fault) → IsErrAnd result (Becomes fault) → ((error : E) → Becomes fault error → Is error) → IfErr result Is
at_fault Becomes Is (Ok x) fault same is = tt
at_fault Becomes Is (Err error) fault same is = is error same

-- and of one that is handed on
pub at_error : {X E : Type 0} (Is : E → Type 0) (result : Result X E) (error : E) → IsErrAnd result (λ e. e ≡ error) → Is error → IfErr result Is
at_error Is (Ok x) error same is = tt
at_error Is (Err e) error same is = subst Is (sym same) is

-- ---- a run of a body

-- a session's transaction is that of the session
same_reader : (session other : ℕ) → IsReader (Session session) other → other ≡ session
same_reader session other (inl is) = cc is
same_reader session other (inr is) = absurd (cc is)

-- A run had the transaction that the worker began, and failed, or left another one; and the state forgets what it read.
module _ {V E : Type 0} (named : Named) (Made : Making V E) (Becomes : Becoming E) (worker : WorkerView) (number start : ℕ) (before after left : TransactionView) (ran : Result V E)
    (next : number ≡ worker.last + 1) (begins : before ≡ record { session = worker.session; draft = Some (no_writes number start); front = worker.front }) (made : Made before ran after)
    (left_is : left ≡ record after { draft = left.draft }) where
  -- what it left is that of the worker's session
  same_left : worker.front.party ≡ Session worker.session → after.front.party ≡ before.front.party → IsReader after.front.party after.session → left.session ≡ worker.session
  same_left own kept reader =
      ap (λ (t : TransactionView). t.session) left_is
      ∙ same_reader worker.session after.session
      (subst (λ (p : Party). IsReader p after.session) (kept ∙ ap (λ (t : TransactionView). t.front.party) begins ∙ own) reader)

  pub run_fails : (to : FrontView) (error : E) → worker.front.party ≡ Session worker.session → after.front.party ≡ before.front.party → IsReader after.front.party after.session
      → (ran ≡ Err error) ⊎ Becomes faults.OutOfTurn error → Forgets named left.session number left.front to → NotMade Made Becomes named worker worker.front error to
  run_fails to error own kept reader why forgets =
      let lent_so : before ≡ lent worker start worker.front = begins ∙ ap (λ (n : ℕ). record { session = worker.session; draft = Some (no_writes n start); front = worker.front }) next in
      let seen : left.front ≡ after.front = ap (λ (t : TransactionView). t.front) left_is in
      inr (
        start,
        ran,
        after,
        subst (λ (b : TransactionView). Made b ran after) lent_so made,
        why,
        subst (λ (n : ℕ). Forgets named worker.session n after.front to) next
            (subst (λ (f : FrontView). Forgets named worker.session number f to) seen
            (subst (λ (s : ℕ). Forgets named s number left.front to) (same_left own kept reader) forgets)),
      )

-- ---- a try

-- what was left came to its end
is_ended : (named : Named) (session : ℕ) (left : Left) (ended : End) (from to : FrontView) → LeftIsOver named session left ended from to → IsEnded named session left from to
is_ended named session Nothing ended from to over = absurd over
is_ended named session (Kept item) ended from to over = (ended, over)
is_ended named session (Open number token) ended from to over = (ended, over)
is_ended named session (Decided number verdict) ended from to over = (ended, over)

pub left_ended : (named : Named) (worker : WorkerView) (ended : Option End) (to : FrontView) → LeftOver named worker ended to → EndsLeft named worker to
left_ended named worker None to over = subst (λ (l : Left). IsEnded named worker.session l worker.front to) (sym over.0) over.1
left_ended named worker (Some ended) to over = is_ended named worker.session worker.left ended worker.front to over

-- a try is refused: what was left is left still
pub stays_left : {X V E : Type 0} (named : Named) (Made : Making V E) (Becomes : Becoming E) (old new : WorkerView) (result : Result X E) (fault : Fault) → IsErrAnd result (Becomes fault) → IsKept new
    → new ≡ record old { left = new.left; entered = new.entered; front = new.front } → GoesOnTo old.front new.front → IfErr result (λ error. RefusesTry named Made Becomes old error new)
stays_left {E = E} named Made Becomes old new result fault same kept is seen =
    at_fault Becomes (λ (error : E). RefusesTry named Made Becomes old error new) result fault same
    (λ (error : E) becomes. inl (
      subst (λ (w : WorkerView). w ≡ record old { seat = w.seat; entered = w.entered; left = w.left; checkpoints = w.checkpoints; front = w.front }) (sym is) refl,
      seen,
      (fault, kept, becomes),
    ))

-- or it was ended, a transaction began then, and no request was made
pub makes_none : {X V E : Type 0} (named : Named) (Made : Making V E) (Becomes : Becoming E) (old between new : WorkerView) (result : Result X E) (error : E) → IsErrAnd result (λ e. e ≡ error)
    → between ≡ record old { left = Nothing; entered = between.entered; front = between.front } → new ≡ record between { seat = new.seat; front = new.front } → EndsLeft named old between.front
    → NotMade Made Becomes named between between.front error new.front → IfErr result (λ e. RefusesTry named Made Becomes old e new)
makes_none {E = E} named Made Becomes old between new result error same ended begins first why =
    let is : new ≡ record old { left = Nothing; entered = between.entered; seat = new.seat; front = new.front } = begins ∙ ap (λ (w : WorkerView). record w { seat = new.seat; front = new.front }) ended in
    at_error (λ (e : E). RefusesTry named Made Becomes old e new) result error same
    (inr (inl (
      subst (λ (w : WorkerView). w ≡ record old { seat = w.seat; entered = w.entered; left = w.left; checkpoints = w.checkpoints; front = w.front }) (sym is) refl,
      ap (λ (w : WorkerView). w.left) is,
      (between.front, first, subst (λ (w : WorkerView). NotMade Made Becomes named w between.front error new.front) ended why),
    )))

-- what was left was ended, a transaction began, and the request that was made is handed in
module _ {V E : Type 0} (named : Named) (Made : Making V E) (old between begins new : WorkerView) (item : Item) (value : V)
    (ended : between ≡ record old { left = Nothing; entered = between.entered; front = between.front }) (begins_is : begins ≡ record between { seat = begins.seat; front = begins.front })
    (first : EndsLeft named old between.front) (makes : Makes Made between item value between.front begins.front) where
  handed_one : (left : Left) → new ≡ record begins { last = begins.last + 1; entered = new.entered; left = left; front = new.front } → HandsInOne Made old item value between.front begins.front new
  handed_one left handed =
      let is : new ≡ record old { seat = begins.seat; last = old.last + 1; entered = new.entered; left = left; front = new.front } =
      handed
      ∙ ap (λ (w : WorkerView). record w { last = w.last + 1; entered = new.entered; left = left; front = new.front }) begins_is
      ∙ ap (λ (w : WorkerView). record w { seat = begins.seat; last = w.last + 1; entered = new.entered; left = left; front = new.front }) ended in
      subst (λ (w : WorkerView). HandsInOne Made old item value between.front begins.front w) (sym is)
      (subst (λ (w : WorkerView). Makes Made w item value between.front begins.front) ended makes, refl)

  -- a worker that begins has the number that it had before
  same_session : begins.session ≡ old.session
  same_session = ap (λ (w : WorkerView). w.session) begins_is ∙ ap (λ (w : WorkerView). w.session) ended

  leaves_one : new ≡ record begins { last = begins.last + 1; entered = new.entered; left = new.left; front = new.front } → LeftOf named begins.session item new.left begins.front new.front → LeavesOne named Made old new
  leaves_one handed left = (
    item,
    value,
    between.front,
    begins.front,
    first,
    handed_one new.left handed,
    subst (λ (n : ℕ). LeftOf named n item new.left begins.front new.front) same_session left,
  )

  pub stays_one : {X : Type 0} (Becomes : Becoming E) (result : Result X E) (fault : Fault) → IsErrAnd result (Becomes fault) → IsKept new
      → new ≡ record begins { last = begins.last + 1; entered = new.entered; left = new.left; front = new.front } → LeftOf named begins.session item new.left begins.front new.front
      → IfErr result (λ error. RefusesTry named Made Becomes old error new)
  stays_one Becomes result fault same kept handed left =
      at_fault Becomes (λ (error : E). RefusesTry named Made Becomes old error new) result fault same
      (λ (error : E) becomes. inr (inr (leaves_one handed left, (fault, kept, becomes))))

  pub tries_once : (how : End) (answer : code_ended.Ended V) → begins.left ≡ Nothing → new ≡ record begins { last = begins.last + 1; entered = begins.entered + 1; front = new.front }
      → Over named begins.session item how begins.front new.front → answer ≡ answering value how → TriesOnce named Made old answer new
  tries_once how answer nothing handed over told =
      let entered : new.entered ≡ begins.entered + 1 = ap (λ (w : WorkerView). w.entered) handed in
      let handed_so : new ≡ record begins { last = begins.last + 1; entered = new.entered; left = begins.left; front = new.front } =
      handed ∙ ap (λ (n : ℕ). record begins { last = begins.last + 1; entered = n; front = new.front }) (sym entered) in record {
        item = item;
        value = value;
        from = between.front;
        made = begins.front;
        first = first;
        handed_in = handed_one begins.left handed_so;
        how = how;
        over = subst (λ (n : ℕ). Over named n item how begins.front new.front) same_session over;
        told = told;
        nothing_left = ap (λ (w : WorkerView). w.left) handed ∙ nothing;
      }

-- what may be made is no closing mark
pub made_unmarked : {V E : Type 0} (Made : Making V E) (session : ℕ) (value : V) (item : Item) (from to : FrontView) → IsMade Made session value item from to → is_mark item ≡ false
made_unmarked Made session value (Request number start writes) from to made = refl
made_unmarked Made session value (Alone number operations) from to made = refl
made_unmarked Made session value (Close number) from to made = absurd made

-- ---- tries

-- the first one
pub tried_first : {V E : Type 0} (named : Named) (Made : Making V E) (old new : WorkerView) (ended : code_ended.Ended V) → TriesOnce named Made old ended new → Tried named Made 0 old ended new
tried_first named Made old new ended tries = (old, refl, tries)

pub refused_first : {V E : Type 0} (named : Named) (Made : Making V E) (Becomes : Becoming E) (most : ℕ) (old new : WorkerView) (error : E) → 0 < most → RefusesTry named Made Becomes old error new → HandsInUpTo named Made Becomes most old error new
refused_first named Made Becomes most old new error some known = (0, some, (old, refl, known))

-- one more, after one that was backed up
backed_up_more : {V E : Type 0} (named : Named) (Made : Making V E) (before : ℕ) (old between : WorkerView) (cause : Cause) → Tried named Made before old (ends.BackedUp cause) between → BackedUpTries named Made (suc before) old between
backed_up_more named Made before old between cause tried = (tried.0, tried.1, (cause, tried.2))

pub tried_more : {V E : Type 0} (named : Named) (Made Later : Making V E) (before : ℕ) (old between new : WorkerView) (cause : Cause) (first ended : code_ended.Ended V)
    → first ≡ ends.BackedUp cause → Goes Later Made → Tried named Made before old first between → TriesOnce named Later between ended new → Tried named Made (suc before) old ended new
tried_more {V} named Made Later before old between new cause first ended is goes tried tries = (
  between,
  backed_up_more named Made before old between cause (subst (λ (e : code_ended.Ended V). Tried named Made before old e between) is tried),
  tries_so named Later Made between new ended goes tries,
)

pub refused_more : {V E : Type 0} (named : Named) (Made Later : Making V E) (Becomes : Becoming E) (before most : ℕ) (old between new : WorkerView) (cause : Cause) (first : code_ended.Ended V) (error : E)
    → suc before < most → first ≡ ends.BackedUp cause → Goes Later Made → Tried named Made before old first between → RefusesTry named Later Becomes between error new → HandsInUpTo named Made Becomes most old error new
refused_more {V} named Made Later Becomes before most old between new cause first error below is goes tried known = (
  suc before,
  below,
  (
    between,
    backed_up_more named Made before old between cause (subst (λ (e : code_ended.Ended V). Tried named Made before old e between) is tried),
    refused_so named Later Made Becomes between new error goes known,
  ),
)

-- where nothing is left no request of the last one is made
not_kept : {P : Type 0} (worker : WorkerView) → IsKept worker → worker.left ≡ Nothing → P
not_kept worker kept nothing = let e : None ≡ Some worker.last = sym (ap number_left nothing) ∙ kept in cc e

pub fewer : {V E : Type 0} (named : Named) (Made : Making V E) (Becomes : Becoming E) (most : ℕ) (old new : WorkerView) (error : E) → HandsInUpTo named Made Becomes most old error new → new.left ≡ Nothing
    → HandsInFewer named Made Becomes most old error new
fewer named Made Becomes most old new error hands nothing = fewer_by hands.2.2
  where
    fewer_by : RefusesTry named Made Becomes hands.2.0 error new → HandsInFewer named Made Becomes most old error new
    fewer_by (inl first) = not_kept new first.2.1 nothing
    fewer_by (inr (inl unmade)) = (hands.0, hands.1, (hands.2.0, hands.2.1, unmade))
    fewer_by (inr (inr leaves)) = not_kept new leaves.1.1 nothing

-- they end with a commit, or with the last one
pub ends_now : {V E : Type 0} (named : Named) (Made : Making V E) (before most tn : ℕ) (value : V) (old new : WorkerView) (ended : code_ended.Ended V) → before < most → ended ≡ ends.Committed tn value → Tried named Made before old ended new → Ends named Made most old (ends.Committed tn value) new
ends_now {V} named Made before most tn value old new ended few is tried = (before, few, tt, subst (λ (e : code_ended.Ended V). Tried named Made before old e new) is tried)

last_is : {V : Type 0} (count most : ℕ) (ended : code_ended.Ended V) → count ≡ most → IsLastTry count most ended
last_is count most (ends.Committed tn value) is = tt
last_is count most (ends.BackedUp cause) is = is

pub ends_last : {V E : Type 0} (named : Named) (Made : Making V E) (before most : ℕ) (old new : WorkerView) (ended : code_ended.Ended V) → before + 1 ≡ most → Tried named Made before old ended new → Ends named Made most old ended new
ends_last named Made before most old new ended is tried = (before, omega arith, last_is (before + 1) most ended is, tried)

-- ---- after a checkpoint that is due

-- the same tries where commits are counted then
once_counted : {V E : Type 0} (named : Named) (Made : Making V E) (old new : WorkerView) (ended : code_ended.Ended V) (auto : AutoCheckpoint) → TriesOnce named Made old ended new → TriesOnce named Made old ended (record new { checkpoints = auto })
once_counted named Made old new ended auto tries = record {
  item = tries.item;
  value = tries.value;
  from = tries.from;
  made = tries.made;
  first = tries.first;
  handed_in = (tries.handed_in.0, ap (λ (w : WorkerView). record w { checkpoints = auto }) tries.handed_in.1);
  how = tries.how;
  over = tries.over;
  told = tries.told;
  nothing_left = tries.nothing_left;
}

pub ended_counted : {V E : Type 0} (named : Named) (Made : Making V E) (most : ℕ) (old between new : WorkerView) (auto : AutoCheckpoint) (ended : code_ended.Ended V) → new ≡ record between { checkpoints = auto } → Ends named Made most old ended between → Ends named Made most old ended new
ended_counted named Made most old between new auto ended is tries =
    subst (λ (w : WorkerView). Ends named Made most old ended w) (sym is)
    (tries.0, tries.1, tries.2, (tries.3.0, tries.3.1, once_counted named Made tries.3.0 between ended auto tries.3.2))

-- what came of a call that begins with one
module _ (named : Named) (old begun : WorkerView) (folded : Option (Result ℕ Fault)) (due : is_some folded ≡ is_due old.checkpoints)
    (stands : PointStands named folded old.front begun.front) (is : begun ≡ record old { checkpoints = checked_point folded old.checkpoints; front = begun.front }) where
  after_point : (Does : WorkerView → Type 0) → Does begun → AfterPoint named old Does
  after_point Does does = (begun, (folded, due, stands, is), does)

  pub ok_after : {X Y : Type 0} (Does : X → WorkerView → Type 0) (result : Result X Y) → IfOk result (λ x. Does x begun) → IfOk result (λ x. AfterPoint named old (Does x))
  ok_after Does (Ok x) does = after_point (Does x) does
  ok_after Does (Err y) does = tt

  err_after : {X Y : Type 0} (Does : Y → WorkerView → Type 0) (result : Result X Y) → IfErr result (λ y. Does y begun) → IfErr result (λ y. AfterPoint named old (Does y))
  err_after Does (Ok x) does = tt
  err_after Does (Err y) does = after_point (Does y) does

  err_after_where : {X Y : Type 0} (P : Type 0) (Does : Y → WorkerView → Type 0) (result : Result X Y) → IfErr result (λ y. P → Does y begun) → IfErr result (λ y. P → AfterPoint named old (Does y))
  err_after_where P Does (Ok x) does = tt
  err_after_where P Does (Err y) does = λ (p : P). after_point (Does y) (does p)

  -- as tries that may be made so often
  module _ {V E : Type 0} (Made : Making V E) (Becomes : Becoming E) (least most : ℕ) (same : least ≡ most) (new : WorkerView) (result : Result (code_ended.Ended V) E) where
    pub ended_after : IfOk result (λ ended. Ends named Made least begun ended new) → IfOk result (λ ended. AfterPoint named old (λ between. Ends named Made most between ended new))
    ended_after tries =
        ok_after (λ (ended : code_ended.Ended V) (between : WorkerView). Ends named Made most between ended new) result
        (subst (λ (n : ℕ). IfOk result (λ (ended : code_ended.Ended V). Ends named Made n begun ended new)) same tries)

    pub few_after : IfErr result (λ error. HandsInUpTo named Made Becomes least begun error new) → IfErr result (λ error. AfterPoint named old (λ between. HandsInUpTo named Made Becomes most between error new))
    few_after hands =
        err_after (λ (error : E) (between : WorkerView). HandsInUpTo named Made Becomes most between error new) result
        (subst (λ (n : ℕ). IfErr result (λ (error : E). HandsInUpTo named Made Becomes n begun error new)) same hands)

    pub fewer_after : IfErr result (λ error. new.left ≡ Nothing → HandsInFewer named Made Becomes least begun error new)
        → IfErr result (λ error. new.left ≡ Nothing → AfterPoint named old (λ between. HandsInFewer named Made Becomes most between error new))
    fewer_after hands =
        err_after_where (new.left ≡ Nothing) (λ (error : E) (between : WorkerView). HandsInFewer named Made Becomes most between error new) result
        (subst (λ (n : ℕ). IfErr result (λ (error : E). new.left ≡ Nothing → HandsInFewer named Made Becomes n begun error new)) same hands)

  -- and operations that don't commit
  pub run_stops : (most : ℕ) (operations : List Operation) (new : WorkerView) (result : Result ℕ Fault) → IfErr result (λ fault. RunsOut named most operations begun fault new)
      → IfErr result (λ fault. RunStops named most operations old fault new)
  run_stops most operations new (Ok tn) out = tt
  run_stops most operations new (Err fault) out = inr (after_point (λ (between : WorkerView). RunsOut named most operations between fault new) out)

-- ---- tries of operations

-- by the transaction number alone
pub tries_list : (named : Named) (most : ℕ) (operations : List Operation) (old new : WorkerView) (ended : code_ended.Ended (Unit {0})) (tn : Option ℕ) → tn ≡ tn_of ended → Ends named (Performing named operations) most old ended new → TriesList named most operations old tn new
tries_list named most operations old new (ends.Committed n value) tn is tries =
    subst (λ (t : Option ℕ). TriesList named most operations old t new) (sym is) tries
tries_list named most operations old new (ends.BackedUp cause) tn is tries =
    let many = tries.2 in
    let count : suc tries.0 ≡ most = omega arith in
    subst (λ (t : Option ℕ). TriesList named most operations old t new) (sym is)
    (subst (λ (n : ℕ). BackedUpTries named (Performing named operations) n old new) count (backed_up_more named (Performing named operations) tries.0 old new cause tries.3))

pub nothing_then : {V E : Type 0} (named : Named) (Made : Making V E) (most : ℕ) (old new : WorkerView) (ended : code_ended.Ended V) → Ends named Made most old ended new → new.left ≡ Nothing
nothing_then named Made most old new ended tries = let last = tries.3.2 in last.nothing_left

-- ---- operations that run alone

-- they don't enter for a decision
enters_alone : {P : Type 0} (old new : World) (session number place index : ℕ) (operations : List Operation) → Step old (Enter session (Alone number operations)) (Entered place index) new → P
enters_alone old new session number place index operations (refused fault is told same) = cc told
enters_alone old new session number place index operations (starved none takes told same) = cc told
enters_alone old new session number place index operations (taken none did) = let told = did.0 in cc told

entered_alone : {P : Type 0} (named : Named) (session number : ℕ) (operations : List Operation) (from to : FrontView) → HasEntered named session (Alone number operations) from to → P
entered_alone named session number operations from to entered =
    let stands = entered.2.3 in
    enters_alone stands.1 stands.2 session number entered.0 entered.1 operations stands.6

-- so they are what is left of them
left_alone : (named : Named) (session number : ℕ) (operations : List Operation) (left : Left) (from to : FrontView) → LeftOf named session (Alone number operations) left from to → left ≡ Kept (Alone number operations)
left_alone named session number operations Nothing from to is = absurd is
left_alone named session number operations (Kept kept) from to is = ap Kept is.0
left_alone named session number operations (Open n token) from to is = entered_alone named session number operations from to is.1
left_alone named session number operations (Decided n verdict) from to is = entered_alone named session number operations from to is.1

-- how operations that were held end
over_held : (named : Named) (old worker : WorkerView) (number : ℕ) (operations : List Operation) (ended : End) (to : FrontView) → worker ≡ holding old (Alone number operations) → LeftOver named worker (Some ended) to
    → Over named old.session (Alone number operations) ended old.front to
over_held named old worker number operations ended to is over = subst (λ (w : WorkerView). LeftIsOver named w.session w.left ended w.front to) is over

-- the worker that holds them, after what was left before was ended
module _ (named : Named) (old between held new : WorkerView) (number : ℕ) (operations : List Operation)
    (ended : between ≡ record old { left = Nothing; entered = between.entered; front = between.front }) (next : number ≡ between.last + 1) (is : held ≡ holding between (Alone number operations)) where
  number_so : number ≡ old.last + 1
  number_so = next ∙ ap (λ (w : WorkerView). w.last + 1) ended

  held_so : held ≡ record old { last = old.last + 1; entered = between.entered; left = Kept (Alone (old.last + 1) operations); front = between.front }
  held_so =
      is
      ∙ ap (λ (w : WorkerView). holding w (Alone number operations)) ended
      ∙ ap (λ (n : ℕ). record old { last = n; entered = between.entered; left = Kept (Alone n operations); front = between.front }) number_so

  same_front : held.front ≡ between.front
  same_front = ap (λ (w : WorkerView). w.front) is

  -- they are still left
  pub holds_alone : GoesOnTo old.front between.front → new ≡ record held { left = new.left; entered = new.entered; front = new.front } → GoesOnTo held.front new.front → StaysLeft named held new → HandsInAlone operations old new
  holds_alone first stays second still =
      let kept : held.left ≡ Kept (Alone (old.last + 1) operations) = ap (λ (w : WorkerView). w.left) held_so in
      let left : new.left ≡ Kept (Alone (old.last + 1) operations) =
      left_alone named held.session (old.last + 1) operations new.left held.front new.front
      (still (Alone (old.last + 1) operations) held.front
      (subst (λ (l : Left). LeftOf named held.session (Alone (old.last + 1) operations) l held.front held.front) (sym kept) (refl, on_self held.front))) in (
        inr (
            stays
            ∙ ap (λ (w : WorkerView). record w { left = new.left; entered = new.entered; front = new.front }) held_so
            ∙ ap (λ (l : Left). record old { last = old.last + 1; entered = new.entered; left = l; front = new.front }) left
            ),
        on_trans old.front between.front new.front first (subst (λ (f : FrontView). GoesOnTo f new.front) same_front second),
      )

  -- they ran, and committed
  pub ran_alone : (counted : WorkerView) (auto : AutoCheckpoint) (tn : ℕ) → EndsLeft named old between.front → new ≡ record held { left = Nothing; entered = new.entered; front = new.front }
      → LeftOver named held (Some (ends.Committed tn tt)) new.front → counted ≡ record new { checkpoints = auto } → RunsAlone named operations old tn counted
  ran_alone counted auto tn first done over count =
      let all : counted ≡ record old { last = old.last + 1; entered = new.entered; left = Nothing; checkpoints = auto; front = new.front } =
      count
      ∙ ap (λ (w : WorkerView). record w { checkpoints = auto }) done
      ∙ ap (λ (w : WorkerView). record w { left = Nothing; entered = new.entered; checkpoints = auto; front = new.front }) held_so in
      let session : between.session ≡ old.session = ap (λ (w : WorkerView). w.session) ended in
      let front : new.front ≡ counted.front = sym (ap (λ (w : WorkerView). w.front) count) in (
        subst (λ (w : WorkerView). w ≡ record old { last = old.last + 1; entered = w.entered; left = Nothing; checkpoints = w.checkpoints; front = w.front }) (sym all) refl,
        (
          between.front,
          first,
          subst (λ (f : FrontView). Over named old.session (Alone (old.last + 1) operations) (ends.Committed tn tt) between.front f) front
              (subst (λ (n : ℕ). Over named n (Alone (old.last + 1) operations) (ends.Committed tn tt) between.front new.front) session
              (subst (λ (n : ℕ). Over named between.session (Alone n operations) (ends.Committed tn tt) between.front new.front) number_so
              (over_held named between held number operations (ends.Committed tn tt) new.front is over))),
        ),
      )

-- nothing was handed in
pub holds_none : (operations : List Operation) (old new : WorkerView) → new ≡ record old { left = Nothing; entered = new.entered; front = new.front } → GoesOnTo old.front new.front → HandsInAlone operations old new
holds_none operations old new is seen = (inl (subst (λ (w : WorkerView). w ≡ record old { entered = w.entered; left = w.left; front = w.front }) (sym is) refl), seen)

pub holds_left : (operations : List Operation) (old new : WorkerView) → new ≡ record old { left = new.left; entered = new.entered; front = new.front } → GoesOnTo old.front new.front → HandsInAlone operations old new
holds_left operations old new is seen = (inl is, seen)

-- ---- operations, tried and run alone

module _ (named : Named) (most : ℕ) (operations : List Operation) (old between new : WorkerView) (tried : Option ℕ) (is : tried ≡ None) (list : TriesList named most operations old tried between) where
  backed_up_so : TriesList named most operations old None between
  backed_up_so = subst (λ (n : Option ℕ). TriesList named most operations old n between) is list

  pub runs_out_after : (result : Result ℕ Fault) → OnErr result (HandsInAlone operations between new) → IfErr result (AloneStops operations new) → IfErr result (λ fault. RunsOut named most operations old fault new)
  runs_out_after (Ok tn) alone why = tt
  runs_out_after (Err fault) alone why = inr (between, backed_up_so, alone, why)

  pub runs_after : (result : Result ℕ Fault) → IfOk result (λ tn. RunsAlone named operations between tn new) → IfOk result (λ tn. Runs named most operations old tn new)
  runs_after (Ok tn) alone = inr (between, backed_up_so, alone)
  runs_after (Err fault) alone = tt
