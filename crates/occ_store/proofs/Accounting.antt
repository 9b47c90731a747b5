-- What a lane took adds up, whatever happens to the lane.
use Rattle.std.proofs.Common.{◌≡◌, ℕ, ◌+◌, ◌-◌, ◌≤◌, Bool, true, false, List, [], ◌∷◌, ◌++◌, length, Option, is_some, Result, IfSome, inl, inr, refl, sym, ap, subst, ◌∙◌, arith}
use Rattle.std.specs.Prelude.{◌⊎◌, ◌&&◌, ◌||◌}
use Rattle.std.specs.List.{list_any}
use Rattle.std.proofs.lemmas.List.Folds.{list_any-append}
use Rattle.boxcar.specs.Table.{Shelves, Where, Shows}
use Rattle.occ_types.specs.declared.fault.Fault.{Fault}
use Rattle.occ_model.specs.Log.{Case}
use Rattle.occ_model.specs.Event.{Item, Request, Alone, Close, Reply}
use Rattle.occ_model.specs.declared.verdict.Verdict.{Verdict}
use Rattle.occ_core.specs.Replies.{outcome_of, CanEnter, CanEnd}
use Rattle.occ_core.specs.declared.outcomes.Outcome as code_outcome
use Rattle.occ_core.specs.declared.outcomes.Outcome.TheVariants as outcomes
use Rattle.occ_queue.specs.Items.{is_mark}
use Rattle.occ_filed.specs.Filed.{token_of}
use Rattle.occ_history.specs.History.{FrontView}
use Rattle.occ_store.specs.Locked.{Locked, rows_entered}
use Rattle.occ_store.specs.Lanes.{Left, Nothing, Kept, Open, Decided, LaneView, AddsUp, count_if, is_closed, is_nothing, open_rows, token_left, left_entering, TakesIn, reached, Advances, GoesOn}
use Rattle.occ_store.specs.Sessions.{SessionView}
use Rattle.occ_store.specs.Workers.{WorkerView, HandedIn, unentered}
use Rattle.occ_store.specs.Accounts.{kept_of, LineView, IsLine, IsWorkerLine}
use Rattle.occ_store.specs.declared.serving.Point.{Point}
use Rattle.occ_store.proofs.LaneSteps.{own_entering, room_entering}

-- the last item
marked : (taken : List Item) (item : Item) → list_any is_mark taken ≡ false → list_any is_mark (taken ++ item ∷ []) ≡ is_mark item
marked taken item none = list_any-append is_mark taken (item ∷ []) ∙ ap (λ b. b || list_any is_mark (item ∷ [])) none ∙ or_nil (is_mark item)
  where
    or_nil : (b : Bool) → (false || (b || false)) ≡ b
    or_nil true = refl
    or_nil false = refl

-- what was kept is over, and no mark was taken
over : (taken : List Item) (entered : ℕ) → (length taken ≡ entered + 1) × (list_any is_mark taken ≡ false) → length taken ≡ entered + 1 + count_if (list_any is_mark taken)
over taken entered is =
    let none : entered + 1 ≡ entered + 1 + 0 = omega arith in
    is.0 ∙ none ∙ ap (λ b. entered + 1 + count_if b) (sym is.1)

-- the mark entered
marked_over : (taken : List Item) (entered : ℕ) → (length taken ≡ entered + 1) × (list_any is_mark taken ≡ true) → length taken ≡ entered + 0 + count_if (list_any is_mark taken)
marked_over taken entered is =
    let one : entered + 1 ≡ entered + 0 + 1 = omega arith in
    is.0 ∙ one ∙ ap (λ b. entered + 0 + count_if b) (sym is.1)

module _ {Z : Type 0} where
  -- an item that was kept enters, or ends serially
  pub entered_adds_up : (item : Item) (token : Option (Where Case)) (outcome : code_outcome.Outcome Z) → (CanEnter item outcome ⊎ CanEnd item outcome) → (taken : List Item) (entered : ℕ) → AddsUp taken entered (Kept item)
      → AddsUp taken (entered + rows_entered (outcome_of outcome)) (left_entering item token (outcome_of outcome))
  entered_adds_up (Request number start writes) token (outcomes.Entered place) can taken entered is = is
  entered_adds_up (Request number start writes) token (outcomes.Committed tn) can taken entered is = over taken entered is
  entered_adds_up (Request number start writes) token (outcomes.BackedUp cause) can taken entered is = over taken entered is
  entered_adds_up (Request number start writes) token (outcomes.RanAlone tn answers) (inl can) taken entered is = absurd can
  entered_adds_up (Request number start writes) token (outcomes.RanAlone tn answers) (inr can) taken entered is = absurd can
  entered_adds_up (Request number start writes) token outcomes.MarkedClosed (inl can) taken entered is = absurd can
  entered_adds_up (Request number start writes) token outcomes.MarkedClosed (inr can) taken entered is = absurd can
  entered_adds_up (Alone number operations) token (outcomes.Entered place) (inl can) taken entered is = absurd can
  entered_adds_up (Alone number operations) token (outcomes.Entered place) (inr can) taken entered is = absurd can
  entered_adds_up (Alone number operations) token (outcomes.Committed tn) can taken entered is = over taken entered is
  entered_adds_up (Alone number operations) token (outcomes.BackedUp cause) can taken entered is = over taken entered is
  entered_adds_up (Alone number operations) token (outcomes.RanAlone tn answers) can taken entered is = over taken entered is
  entered_adds_up (Alone number operations) token outcomes.MarkedClosed (inl can) taken entered is = absurd can
  entered_adds_up (Alone number operations) token outcomes.MarkedClosed (inr can) taken entered is = absurd can
  entered_adds_up (Close number) token (outcomes.Entered place) (inl can) taken entered is = absurd can
  entered_adds_up (Close number) token (outcomes.Entered place) (inr can) taken entered is = absurd can
  entered_adds_up (Close number) token (outcomes.Committed tn) (inl can) taken entered is = absurd can
  entered_adds_up (Close number) token (outcomes.Committed tn) (inr can) taken entered is = absurd can
  entered_adds_up (Close number) token (outcomes.BackedUp cause) (inl can) taken entered is = absurd can
  entered_adds_up (Close number) token (outcomes.BackedUp cause) (inr can) taken entered is = absurd can
  entered_adds_up (Close number) token (outcomes.RanAlone tn answers) (inl can) taken entered is = absurd can
  entered_adds_up (Close number) token (outcomes.RanAlone tn answers) (inr can) taken entered is = absurd can
  entered_adds_up (Close number) token outcomes.MarkedClosed can taken entered is = marked_over taken entered is

  -- what is left of an item by what came of it, as far as the lane's invariant goes
  pub own_left : (file : Shelves) (item : Item) (token : Option (Where Case)) (outcome : code_outcome.Outcome Z) (left : Left) → left ≡ left_entering item token (outcome_of outcome) → IfSome token (Shows file)
      → IfSome (token_left left) (Shows file)
  own_left file item token outcome left is own = subst (λ (l : Left). IfSome (token_left l) (Shows file)) (sym is) (own_entering file item token outcome own)

  pub room_left : (item : Item) (token : Option (Where Case)) (outcome : code_outcome.Outcome Z) (left : Left) (entered rows : ℕ) → left ≡ left_entering item token (outcome_of outcome) → rows ≡ rows_entered (outcome_of outcome)
      → entered + open_rows left ≤ entered + rows
  room_left item token outcome left entered rows is count =
      subst (λ (p : Left × ℕ). entered + open_rows p.0 ≤ entered + p.1) (λ i. (sym is i, sym count i)) (room_entering item token outcome entered entered (omega arith))

  pub adds_up_left : (item : Item) (token : Option (Where Case)) (outcome : code_outcome.Outcome Z) (left : Left) (entered rows : ℕ) → left ≡ left_entering item token (outcome_of outcome) → rows ≡ rows_entered (outcome_of outcome)
      → (CanEnter item outcome ⊎ CanEnd item outcome) → (taken : List Item) → AddsUp taken entered (Kept item) → AddsUp taken (entered + rows) left
  adds_up_left item token outcome left entered rows is count can taken before =
      subst (λ (p : Left × ℕ). AddsUp taken (entered + p.1) p.0) (λ i. (sym is i, sym count i)) (entered_adds_up item token outcome can taken entered before)

and_yes : (b : Bool) → b ≡ (b && true)
and_yes true = refl
and_yes false = refl

and_no : (b : Bool) → false ≡ (b && false)
and_no true = refl
and_no false = refl

none_kept : (taken : List Item) (entered : ℕ) → length taken ≡ entered → length taken ≡ entered + count_if (list_any is_mark taken && false) + 0
none_kept taken entered is =
    let none : entered ≡ entered + 0 + 0 = omega arith in
    is ∙ none ∙ ap (λ b. entered + count_if b + 0) (and_no (list_any is_mark taken))

-- what was taken is the rows, the mark once it entered, and the item that is kept
pub all_taken : (taken : List Item) (entered : ℕ) (left : Left) → AddsUp taken entered left
    → length taken ≡ entered + count_if (list_any is_mark taken && is_nothing left) + count_if (is_some (kept_of left))
all_taken taken entered Nothing is =
    let all : length taken ≡ entered + count_if (list_any is_mark taken && true) = is ∙ ap (λ b. entered + count_if b) (and_yes (list_any is_mark taken)) in
    let none : entered + count_if (list_any is_mark taken && true) ≡ entered + count_if (list_any is_mark taken && true) + 0 = omega arith in
    all ∙ none
all_taken taken entered (Kept item) is =
    let one : entered + 1 ≡ entered + 0 + 1 = omega arith in
    is.0 ∙ one ∙ ap (λ b. entered + count_if b + 1) (and_no (list_any is_mark taken))
all_taken taken entered (Open number token) is = none_kept taken entered is.0
all_taken taken entered (Decided number verdict) is = none_kept taken entered is.0

-- the invariant of what was under way, under its name
module _ (taken : List Item) (entered : ℕ) (left : Left) (was : AddsUp taken entered left) where
  pub was_open : (number : ℕ) (token : Option (Where Case)) → left ≡ Open number token → AddsUp taken entered (Open number token)
  was_open number token at = subst (AddsUp taken entered) at was

  pub was_decided : (number : ℕ) (verdict : Verdict) → left ≡ Decided number verdict → AddsUp taken entered (Decided number verdict)
  was_decided number verdict at = subst (AddsUp taken entered) at was

  pub was_kept : (item : Item) → left ≡ Kept item → AddsUp taken entered (Kept item)
  was_kept item at = subst (AddsUp taken entered) at was

-- a kept item entered, though it was taken out of the lane before
module _ (seen old : LaneView) (judged : Option (Where Case)) (shared new : Locked) (result : Result Point Fault) (is : seen ≡ old) where
  pub went_in : (item : Item) → seen.left ≡ Kept item → (left : Left) (entered : ℕ) (front : FrontView) → (reply : Reply)
      × TakesIn seen.front seen.session seen.files seen.serial item shared reply front new
      × (result ≡ reached reply)
      × (left ≡ left_entering item (token_of new.filed.tokens seen.session) reply)
      × (entered ≡ seen.entered + rows_entered reply)
      → Advances old judged shared result (record seen { left = left; entered = entered; front = front }) new
  went_in item at left entered front step =
      let after : LaneView = record seen { left = left; entered = entered; front = front } in
      let goes : GoesOn (Kept item) seen judged shared result after new = (step.0, step.1, step.2, λ i. record seen { left = step.3 i; entered = step.4 i; front = front }) in
      subst (λ (l : LaneView). GoesOn l.left l judged shared result after new) is (subst (λ x. GoesOn x seen judged shared result after new) (sym at) goes)

-- the line that is made of a lane and its session
pub line_made : (seen lane : LaneView) (told session : SessionView) (line : LineView) → seen ≡ lane → told ≡ session → line.pushed ≡ length told.sender.pushed
    → line.taken ≡ length seen.receiver.taken → line.rows ≡ seen.entered → line.kept ≡ kept_of seen.left → AddsUp seen.receiver.taken seen.entered seen.left → told.sender.pushed ≡ seen.receiver.taken ++ line.left
    → IsLine lane session line
line_made seen lane told session line views shows pushed taken rows kept adds whole =
    subst (λ (l : LaneView × SessionView). IsLine l.0 l.1 line) (λ i. (views i, shows i)) (record {
      pushed = pushed;
      taken = taken;
      rows = rows;
      kept = kept;
      adds_up = taken
          ∙ all_taken seen.receiver.taken seen.entered seen.left adds
          ∙ (λ i. sym rows i + count_if (is_closed seen) + count_if (is_some (sym kept i)));
      whole = whole;
    })

unentered_kept : (left : Left) → unentered left ≡ count_if (is_some (kept_of left))
unentered_kept Nothing = refl
unentered_kept (Kept item) = refl
unentered_kept (Open number token) = refl
unentered_kept (Decided number verdict) = refl

-- the line that is made of a worker
pub worker_line_made : (seen worker : WorkerView) (line : LineView) → seen ≡ worker → line.pushed ≡ seen.last - seen.first → line.taken ≡ seen.last - seen.first → line.rows ≡ seen.entered → line.kept ≡ kept_of seen.left
    → HandedIn seen.first seen.last seen.entered seen.left → line.left ≡ [] → IsWorkerLine worker line
worker_line_made seen worker line views pushed taken rows kept handed none =
    subst (λ (w : WorkerView). IsWorkerLine w line) views (record {
      pushed = pushed;
      taken = taken ∙ sym pushed;
      rows = rows;
      kept = kept;
      adds_up =
          let is : seen.last ≡ seen.first + (seen.entered + unentered seen.left) = handed in
          let all : seen.last - seen.first ≡ seen.entered + unentered seen.left = omega arith in
          pushed ∙ all ∙ ap (λ n. seen.entered + n) (unentered_kept seen.left) ∙ (λ i. sym rows i + count_if (is_some (sym kept i)));
      whole = none;
    })
