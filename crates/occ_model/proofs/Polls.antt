-- No step lets fall what a poll shows.
use Rattle.std.proofs.Common.{◌≡◌, ℕ, ◌+◌, ◌-◌, ◌≤◌, ◌⊎◌, inl, inr, Bool, true, false, List, [], ◌∷◌, ◌++◌, length, drop, Option, None, Some, refl, sym, ap, subst, ◌∙◌, not, ◌||◌, arith}
use Rattle.std.specs.Prelude.{if◌then◌else◌, ◌==◌, slice_get, MatchOption}
use Rattle.std.proofs.lemmas.Bool.{eqb-true, eq-eqb}
use Rattle.std.specs.Cmp.{nat_cmp_total}
use Rattle.std.specs.FinSet as sets
use Rattle.std.specs.FinSet.{FinSet}
use Rattle.std.specs.FinMap as finite
use Rattle.std.specs.FinMap.{FinMap}
use Rattle.std.specs.Ordering.{nat_cmp, eq_by_cmp}
use Rattle.occ_model.specs.Log.{LogRow, Standing, Open, Writing, Done, Back, last_folded, numbers}
use Rattle.occ_model.specs.State.{State, Write, put, apply}
use Rattle.occ_model.specs.Operations.{Operation, perform_all, nothing_yet}
use Rattle.occ_model.specs.Validity.{verdict}
use Rattle.occ_model.specs.World.{World, ReadPhase, phase_cmp, last_entered, entered_count, is_held, latest, turn, low, reads_under}
use Rattle.occ_model.specs.declared.verdict.Verdict.{Verdict}
use Rattle.occ_model.specs.declared.verdict.Verdict.TheVariants as verdicts
use Rattle.occ_model.specs.Event.{Request, Alone, Close, Event, Read, Forget, Enter, Decide, WriteOne, Finish, BackUp, SerialEnd, RunAlone, Checkpoint, Reply, Wrote, NoMore}
use Rattle.occ_model.specs.Invariant.{Invariant, NumberIsBelow, NumbersAreBelow}
use Rattle.occ_model.specs.Poll.{settled_number, done_number, last_done, poll, Rises}
use Rattle.occ_model.specs.Step.{Step, refused, starved, taken, Taken, entering, validity_of, EndsSerially, RunsAlone, foldable_part, shortened}
use Rattle.occ_model.specs.Step as steps
use Rattle.occ_model.specs.Laws.{PollsRise}
use Rattle.occ_model.proofs.Orders.{numbers-own, numbers_pushed, latest_number, apart}
use Rattle.occ_model.proofs.Turns.{Around, around, entered_turned}
use Rattle.occ_model.proofs.Logs.{standing_at}
use Rattle.occ_model.proofs.Tests.{decided, clash, and_true}
use Rattle.occ_model.proofs.Folds as folds
use Rattle.occ_model.proofs.Steps.{keeps}

-- ---- numbers that entered

pub last_is : (world : World) (session : ℕ) → Invariant world → last_entered world session ≡ entered_count world session
last_is world session inv = latest_number session (last_folded world.base session) world.log (inv.in_order.numbered session)

-- where no fewer entered, and a session that is held was held before, no settled number falls
settled_up : (old new : ℕ) (was is : Bool) → old ≤ new → (is ≡ true → was ≡ true)
    → (if was then old - 1 else old) ≤ (if is then new - 1 else new)
settled_up old new true true up held = omega arith
settled_up old new true false up held = omega arith
settled_up old new false true up held = absurd (contradiction (held refl))
  where
    contradiction : false ≡ true → ⊥
    contradiction e = cc
settled_up old new false false up held = up

-- nor does it where one more entered
settled_more : (old new : ℕ) (was is : Bool) → old + 1 ≤ new → (if was then old - 1 else old) ≤ (if is then new - 1 else new)
settled_more old new true true up = omega arith
settled_more old new true false up = omega arith
settled_more old new false true up = omega arith
settled_more old new false false up = omega arith

-- ---- numbers of finished transactions

pub last_done-append : (session : ℕ) (xs ys : List LogRow) → last_done session (xs ++ ys) ≡ (elim (last_done session ys) as (λ _. Option ℕ) [ None ↦ last_done session xs | Some later ↦ Some later ])
last_done-append session [] ys = own (last_done session ys)
  where
    own : (o : Option ℕ) → o ≡ (elim o as (λ _. Option ℕ) [ None ↦ None | Some later ↦ Some later ])
    own None = refl
    own (Some n) = refl
last_done-append session (x ∷ xs) ys =
    ap (λ o. elim o as (λ _. Option ℕ) [ None ↦ if x.session == session then done_number x.standing else None | Some later ↦ Some later ]) (last_done-append session xs ys)
    ∙ nested (last_done session ys)
  where
    first : Option ℕ
    first = if x.session == session then done_number x.standing else None

    nested : (o : Option ℕ) → (elim (elim o as (λ _. Option ℕ) [ None ↦ last_done session xs | Some later ↦ Some later ]) as (λ _. Option ℕ) [ None ↦ if x.session == session then done_number x.standing else None | Some later ↦ Some later ])
        ≡ (elim o as (λ _. Option ℕ) [ None ↦ (elim (last_done session xs) as (λ _. Option ℕ) [ None ↦ if x.session == session then done_number x.standing else None | Some later ↦ Some later ]) | Some later ↦ Some later ])
    nested None = refl
    nested (Some n) = refl

done-below : (counter n : ℕ) (s : Standing) → NumberIsBelow counter s → done_number s ≡ Some n → n ≤ counter
done-below counter n (Open index case) below is = cc
done-below counter n (Writing done) below is = cc
done-below counter n (Done number) below is = let e : number ≡ n = cc in omega arith
done-below counter n (Back cause) below is = cc

last_done-below : (counter session : ℕ) (log : List LogRow) → NumbersAreBelow counter log → (n : ℕ) → last_done session log ≡ Some n → n ≤ counter
last_done-below counter session [] below n is = cc
last_done-below counter session (row ∷ rows) below n is = go (last_done session rows) (last_done-below counter session rows below.1) is
  where
    own : (b : Bool) → (if b then done_number row.standing else None) ≡ Some n → n ≤ counter
    own true is = done-below counter n row.standing below.0 is
    own false is = cc

    go : (o : Option ℕ) → ((m : ℕ) → o ≡ Some m → m ≤ counter)
        → (elim o as (λ _. Option ℕ) [ None ↦ if row.session == session then done_number row.standing else None | Some later ↦ Some later ]) ≡ Some n → n ≤ counter
    go None onward is = own (row.session == session) is
    go (Some later) onward is = onward n is

-- what the log says after a row changed its standing: this row's number, or what it said before
last_done-changed : (session n : ℕ) (row : LogRow) (standing : Standing) (later : List LogRow) → done_number row.standing ≡ None → (before : List LogRow)
    → last_done session (before ++ standing_at row standing ∷ later) ≡ Some n
    → (done_number standing ≡ Some n) ⊎ (last_done session (before ++ row ∷ later) ≡ Some n)
last_done-changed session n row standing later fresh before is =
    onward (last_done session later) (sym (last_done-append session before (standing_at row standing ∷ later)) ∙ is)
    (last_done-append session before (row ∷ later))
  where
    in_all : Option ℕ → Option ℕ
    in_all o = elim o as (λ _. Option ℕ) [ None ↦ last_done session before | Some later ↦ Some later ]

    at : Option ℕ → Option ℕ → Option ℕ
    at d o = elim o as (λ _. Option ℕ) [ None ↦ if row.session == session then d else None | Some later ↦ Some later ]

    own : (b : Bool) → in_all (if b then done_number standing else None) ≡ Some n
        → (done_number standing ≡ Some n) ⊎ (in_all (if b then None else None) ≡ Some n)
    own true e = told (done_number standing) e
      where
        told : (d : Option ℕ) → in_all d ≡ Some n → (d ≡ Some n) ⊎ (in_all None ≡ Some n)
        told None e = inr e
        told (Some m) e = inl e
    own false e = inr e

    onward : (o : Option ℕ) → in_all (at (done_number standing) o) ≡ Some n
        → last_done session (before ++ row ∷ later) ≡ in_all (at (done_number row.standing) o)
        → (done_number standing ≡ Some n) ⊎ (last_done session (before ++ row ∷ later) ≡ Some n)
    onward None e was = go (own (row.session == session) e)
      where
        go : (done_number standing ≡ Some n) ⊎ (in_all (if row.session == session then None else None) ≡ Some n) → (done_number standing ≡ Some n) ⊎ (last_done session (before ++ row ∷ later) ≡ Some n)
        go (inl d) = inl d
        go (inr e) = inr (was ∙ ap (λ d. in_all (at d None)) fresh ∙ e)
    onward (Some k) e was = inr (was ∙ e)

-- ---- what a step makes of the log

module _ (old : World) (inv : Invariant old) (session : ℕ) where
  -- a transaction number of the session is the next one, or was there before
  AreNumbered : List LogRow → Type 0
  AreNumbered log = (n : ℕ) → last_done session log ≡ Some n → (n ≡ old.counter + 1) ⊎ (last_done session old.log ≡ Some n)

  finished_rises : (log : List LogRow) → AreNumbered log → (before after : ℕ) → last_done session old.log ≡ Some before → last_done session log ≡ Some after → before ≤ after
  unfolding AreNumbered
  finished_rises log numbered before after was is = go (numbered after is)
    where
      go : (after ≡ old.counter + 1) ⊎ (last_done session old.log ≡ Some after) → before ≤ after
      go (inl e) = let below = last_done-below old.counter session old.log inv.below before was in omega arith
      go (inr e) = let same : before ≡ after = cc in omega arith

  same_numbered : AreNumbered old.log
  unfolding AreNumbered
  same_numbered n is = inr is

  pushed_numbered : (row : LogRow) → ((n : ℕ) → done_number row.standing ≡ Some n → n ≡ old.counter + 1) → AreNumbered (old.log ++ row ∷ [])
  unfolding AreNumbered
  pushed_numbered row next n is = own (row.session == session) (sym (last_done-append session old.log (row ∷ [])) ∙ is)
    where
      given : Option ℕ → Option ℕ
      given d = elim d as (λ _. Option ℕ) [ None ↦ last_done session old.log | Some later ↦ Some later ]

      told : (d : Option ℕ) → done_number row.standing ≡ d → given d ≡ Some n → (n ≡ old.counter + 1) ⊎ (last_done session old.log ≡ Some n)
      told None e is = inr is
      told (Some m) e is = let same : m ≡ n = cc in inl (sym same ∙ next m e)

      own : (b : Bool) → given (if b then done_number row.standing else None) ≡ Some n → (n ≡ old.counter + 1) ⊎ (last_done session old.log ≡ Some n)
      own true e = told (done_number row.standing) refl e
      own false e = inr e

  turned_numbered : (turning : ℕ) (row : LogRow) (standing : Standing) → latest turning old.log ≡ Some row → done_number row.standing ≡ None
      → ((n : ℕ) → done_number standing ≡ Some n → n ≡ old.counter + 1) → AreNumbered (turn turning standing old.log)
  unfolding AreNumbered
  turned_numbered turning row standing is fresh next n there = go (last_done-changed session n row standing a.later fresh a.before (ap (last_done session) (sym a.now) ∙ there))
    where
      a : Around turning row standing old.log
      a = around turning old.log row standing is

      go : (done_number standing ≡ Some n) ⊎ (last_done session (a.before ++ row ∷ a.later) ≡ Some n) → (n ≡ old.counter + 1) ⊎ (last_done session old.log ≡ Some n)
      go (inl e) = inl (next n e)
      go (inr e) = inr (ap (last_done session) a.was ∙ e)

  folded_numbered : (part rows : List LogRow) → old.log ≡ part ++ rows → AreNumbered rows
  unfolding AreNumbered
  folded_numbered part rows whole n is =
      inr (ap (last_done session) whole ∙ last_done-append session part rows ∙ ap (λ o. elim o as (λ _. Option ℕ) [ None ↦ last_done session part | Some later ↦ Some later ]) is)

-- ---- the steps

module _ (old : World) (inv : Invariant old) (session : ℕ) where
  rises : (new : World) → old.counter ≤ new.counter → settled_number old session ≤ settled_number new session → AreNumbered old inv session new.log → Rises (poll old session) (poll new session)
  rises new counter settled numbered = record {
    counter = counter;
    settled = settled;
    finished = finished_rises old inv session new.log numbered;
  }

  stays : Rises (poll old session) (poll old session)
  stays = rises old (omega arith) (omega arith) (same_numbered old inv session)

  -- no fewer entered, and no session is held that wasn't before
  freed : (new : World) → Invariant new → old.counter ≤ new.counter → entered_count old session ≤ entered_count new session
      → (is_held new session ≡ true → is_held old session ≡ true) → AreNumbered old inv session new.log → Rises (poll old session) (poll new session)
  freed new keeps counter entered held numbered =
      let was = last_is old session inv in
      let is = last_is new session keeps in
      let up : last_entered old session ≤ last_entered new session = omega arith in
      rises new counter (settled_up (last_entered old session) (last_entered new session) (is_held old session) (is_held new session) up held) numbered

  turns : (turning : ℕ) (row : LogRow) (standing : Standing) (table : State) (counter : ℕ) (held : FinSet nat_cmp) → latest turning old.log ≡ Some row → done_number row.standing ≡ None
      → ((n : ℕ) → done_number standing ≡ Some n → n ≡ old.counter + 1) → old.counter ≤ counter
      → (sets.contains held session ≡ true → is_held old session ≡ true)
      → Invariant (record old { log = turn turning standing old.log; table = table; counter = counter; held = held })
      → Rises (poll old session) (poll (record old { log = turn turning standing old.log; table = table; counter = counter; held = held }) session)
  turns turning row standing table counter held is fresh next up fewer keeps =
      let e = entered_turned turning row standing old.log is session in
      freed (record old { log = turn turning standing old.log; table = table; counter = counter; held = held }) keeps up
      (omega (arith, e)) fewer (turned_numbered old inv session turning row standing is fresh next)

  -- a row comes, and no session is held that wasn't before
  comes : (row : LogRow) (table : State) (counter : ℕ) (phases : FinMap phase_cmp ReadPhase) → ((n : ℕ) → done_number row.standing ≡ Some n → n ≡ old.counter + 1) → old.counter ≤ counter
      → Invariant (record old { log = old.log ++ row ∷ []; table = table; counter = counter; phases = phases })
      → Rises (poll old session) (poll (record old { log = old.log ++ row ∷ []; table = table; counter = counter; phases = phases }) session)
  comes row table counter phases next up keeps =
      let e = numbers_pushed session old.log row in
      freed (record old { log = old.log ++ row ∷ []; table = table; counter = counter; phases = phases }) keeps up
      (omega (arith, e)) (λ held. held) (pushed_numbered old inv session row next)

  -- a row enters, and holds its session
  enters : (row : LogRow) (phases : FinMap phase_cmp ReadPhase) → done_number row.standing ≡ None
      → Invariant (record old { log = old.log ++ row ∷ []; phases = phases; held = sets.insert old.held row.session })
      → Rises (poll old session) (poll (record old { log = old.log ++ row ∷ []; phases = phases; held = sets.insert old.held row.session }) session)
  enters row phases fresh keeps = decided (row.session == session)
      (λ own.
      let one : length (numbers session (row ∷ [])) ≡ 1 =
      ap (λ s. length (numbers s (row ∷ []))) (sym (eqb-true row.session session own)) ∙ ap length (numbers-own row) in
      let more : last_entered old session + 1 ≤ last_entered new session = omega (arith, entered, one, was, is) in
      rises new (omega arith) (settled_more (last_entered old session) (last_entered new session) (is_held old session) (is_held new session) more) numbered)
      (λ other.
      let ne : session ≡ row.session → ⊥ = λ e. clash (row.session == session) (eq-eqb row.session session (sym e)) other in
      freed new keeps (omega arith) (omega (arith, entered))
      (λ held. sym (sets.contains-insert nat_cmp_total old.held row.session session ∙ ap (λ b. b || sets.contains old.held session) (apart session row.session ne)) ∙ held)
      numbered)
    where
      new : World
      new = record old { log = old.log ++ row ∷ []; phases = phases; held = sets.insert old.held row.session }

      none : (n : ℕ) → done_number row.standing ≡ Some n → n ≡ old.counter + 1
      none n e = cc

      numbered : AreNumbered old inv session (old.log ++ row ∷ [])
      numbered = pushed_numbered old inv session row none

      entered : length (numbers session (old.log ++ row ∷ [])) ≡ length (numbers session old.log) + length (numbers session (row ∷ []))
      entered = numbers_pushed session old.log row

      was : last_entered old session ≡ entered_count old session
      was = last_is old session inv

      is : last_entered new session ≡ entered_count new session
      is = last_is new session keeps

  folds_up : Invariant (shortened old) → Rises (poll old session) (poll (shortened old) session)
  folds_up keeps =
      let part = foldable_part (low old) old.log in
      let rows = drop (length part) old.log in
      let whole = folds.part_rest (low old) old.log in
      let same = folds.entered_folded old.base old.marks part rows old.log whole inv.in_order session in
      freed (shortened old) keeps (omega arith) (omega (arith, same)) (λ held. held) (folded_numbered old inv session part rows whole)

no_some : {n : ℕ} → None ≡ Some n → ⊥
no_some e = cc

same_some : {m n : ℕ} → Some m ≡ Some n → n ≡ m
same_some e = cc

held_before : (held : FinSet nat_cmp) (s session : ℕ) → sets.contains (sets.remove held s) session ≡ true → sets.contains held session ≡ true
held_before held s session is =
    (and_true (not (eq_by_cmp nat_cmp session s)) (sets.contains held session) (sym (sets.contains-remove nat_cmp_total held s session) ∙ is)).1

rises_alone : (old : World) (s number : ℕ) (operations : List Operation) (reply : Reply) (new : World) → Invariant old → Invariant new → RunsAlone old s number operations reply new → (session : ℕ) → Rises (poll old session) (poll new session)
rises_alone old s number operations reply new inv keeps t session =
    let done = perform_all old.table operations nothing_yet in
    subst (λ w. Rises (poll old session) (poll w session)) (sym t.1)
    (comes old inv session (entering old s number old.counter done.reads done.writes (Done (old.counter + 1))) (apply old.table done.writes) (old.counter + 1) old.phases
    (λ n e. same_some e) (omega arith) (subst Invariant t.1 keeps))

no_number : (verdict : Verdict) → done_number (steps.decided verdict) ≡ None
no_number verdicts.Commit = refl
no_number (verdicts.BackUp cause) = refl

rises_taken : (old : World) (event : Event) (reply : Reply) (new : World) → Invariant old → Invariant new → Taken old event reply new → (session : ℕ) → Rises (poll old session) (poll new session)
rises_taken old (Read s number start question) reply new inv keeps t session = subst (λ w. Rises (poll old session) (poll w session)) (sym t.1) (stays old inv session)
rises_taken old (Forget s number) reply new inv keeps t session = subst (λ w. Rises (poll old session) (poll w session)) (sym t.1) (stays old inv session)
rises_taken old (Enter s (Request number start writes)) reply new inv keeps t session =
    subst (λ w. Rises (poll old session) (poll w session)) (sym t.4)
    (enters old inv session (entering old s number start (reads_under old s number) writes (Open t.0 t.1)) (finite.remove old.phases (s, number)) refl (subst Invariant t.4 keeps))
rises_taken old (Enter s (Alone number operations)) reply new inv keeps t session = rises_alone old s number operations reply new inv keeps t session
rises_taken old (Enter s (Close number)) reply new inv keeps t session = subst (λ w. Rises (poll old session) (poll w session)) (sym t.1) (stays old inv session)
rises_taken old (Decide s) reply new inv keeps t session =
    subst (λ w. Rises (poll old session) (poll w session)) (sym t.6)
    (turns old inv session s t.0 (steps.decided (verdict t.2)) old.table old.counter old.held t.3 (ap done_number t.4)
    (λ n e. absurd (no_some (sym (no_number (verdict t.2)) ∙ e))) (omega arith) (λ held. held) (subst Invariant t.6 keeps))
rises_taken old (WriteOne s) reply new inv keeps t session = written (slice_get t.0.writes t.1) t.4
  where
    written : (w : Option Write) → MatchOption w ((reply ≡ NoMore) × (new ≡ old)) (λ write. (reply ≡ Wrote write.0) × (new ≡ record old { table = put old.table write; log = turn s (Writing (t.1 + 1)) old.log }))
        → Rises (poll old session) (poll new session)
    written None m = subst (λ w. Rises (poll old session) (poll w session)) (sym m.1) (stays old inv session)
    written (Some write) m =
        subst (λ w. Rises (poll old session) (poll w session)) (sym m.1)
        (turns old inv session s t.0 (Writing (t.1 + 1)) (put old.table write) old.counter old.held t.2 (ap done_number t.3) (λ n e. absurd (no_some e)) (omega arith) (λ held. held) (subst Invariant m.1 keeps))
rises_taken old (Finish s) reply new inv keeps t session =
    subst (λ w. Rises (poll old session) (poll w session)) (sym t.5)
    (turns old inv session s t.0 (Done (old.counter + 1)) old.table (old.counter + 1) (sets.remove old.held s) t.2 (ap done_number t.3)
    (λ n e. same_some e) (omega arith) (held_before old.held s session) (subst Invariant t.5 keeps))
rises_taken old (BackUp s) reply new inv keeps t session =
    subst (λ w. Rises (poll old session) (poll w session)) (sym t.1)
    (freed old inv session (record old { held = sets.remove old.held s }) (subst Invariant t.1 keeps) (omega arith) (omega arith) (held_before old.held s session) (same_numbered old inv session))
rises_taken old (SerialEnd s (Request number start writes)) reply new inv keeps t session = ends (validity_of old s number start writes) t
  where
    ends : (v : Verdict) → EndsSerially old s number start writes v reply new → Rises (poll old session) (poll new session)
    ends verdicts.Commit t =
        subst (λ w. Rises (poll old session) (poll w session)) (sym t.1)
        (comes old inv session (entering old s number start (reads_under old s number) writes (Done (old.counter + 1))) (apply old.table writes) (old.counter + 1) (finite.remove old.phases (s, number))
        (λ n e. same_some e) (omega arith) (subst Invariant t.1 keeps))
    ends (verdicts.BackUp cause) t =
        subst (λ w. Rises (poll old session) (poll w session)) (sym t.1)
        (comes old inv session (entering old s number start (reads_under old s number) writes (Back cause)) old.table old.counter (finite.remove old.phases (s, number))
        (λ n e. absurd (no_some e)) (omega arith) (subst Invariant t.1 keeps))
rises_taken old (SerialEnd s (Alone number operations)) reply new inv keeps t session = rises_alone old s number operations reply new inv keeps t session
rises_taken old (SerialEnd s (Close number)) reply new inv keeps t session = subst (λ w. Rises (poll old session) (poll w session)) (sym t.1) (stays old inv session)
rises_taken old (RunAlone s number operations) reply new inv keeps t session = rises_alone old s number operations reply new inv keeps t session
rises_taken old Checkpoint reply new inv keeps t session = subst (λ w. Rises (poll old session) (poll w session)) (sym t.1) (folds_up old inv session (subst Invariant t.1 keeps))

pub polls_rise : PollsRise
polls_rise old new event reply inv (refused fault is told same) session = subst (λ w. Rises (poll old session) (poll w session)) (sym same) (stays old inv session)
polls_rise old new event reply inv (starved none takes told same) session = subst (λ w. Rises (poll old session) (poll w session)) (sym same) (stays old inv session)
polls_rise old new event reply inv (taken none t) session = rises_taken old event reply new inv (keeps old event reply new inv (taken none t)) t session
