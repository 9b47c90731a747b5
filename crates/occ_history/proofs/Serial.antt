-- Each history has a serial order.
use Rattle.std.proofs.Common.{◌≡◌, ℕ, ◌+◌, ◌⊎◌, inl, inr, true, false, List, [], ◌∷◌, ◌++◌, length, drop, Option, None, Some, refl, sym, ap, subst, subst₂, ◌∙◌, arith, append_assoc}
use Rattle.std.specs.Prelude.{slice_get, MatchOption}
use Rattle.std.specs.Ordering.{nat_cmp}
use Rattle.std.specs.FinSet as sets
use Rattle.std.specs.FinMap as finite
use Rattle.std.specs.FinMap.{FinMap}
use Rattle.std.proofs.lemmas.List.{append-nil}
use Rattle.occ_types.specs.declared.fault.Fault.{Fault}
use Rattle.occ_types.specs.declared.fault.Fault.TheVariants as faults
use Rattle.occ_model.specs.State.{State, Write, put, answer, apply}
use Rattle.occ_model.specs.State.{Observation}
use Rattle.occ_model.specs.Log.{LogRow, Standing, Open, Writing, Done, Back, Base, Explained, serial, numbers, last_folded}
use Rattle.occ_model.specs.Operations.{Operation, perform_all, nothing_yet}
use Rattle.occ_model.specs.Validity.{verdict}
use Rattle.occ_model.specs.World.{Settings, World, ReadPhase, phase_cmp, next_place, resumed, low, latest, turn, due, last_entered, entered_count, reads_under, has_mark}
use Rattle.occ_model.specs.Event.{Request, Alone, Close, Event, Read, Forget, Enter, Decide, WriteOne, Finish, BackUp, SerialEnd, RunAlone, Checkpoint, Reply, Refused, Answered, Forgotten, Entered, Closed, Decided, Wrote, NoMore, Finished, BackedUp, EndedBack, RanAlone, Folded}
use Rattle.occ_model.specs.Refusal as refusals
use Rattle.occ_model.specs.Refusal.{refusal, refusal_of_alone}
use Rattle.occ_model.specs.Step as steps
use Rattle.occ_model.specs.Step.{Step, refused, starved, taken, Taken, Run, EndsSerially, RunsAlone, entering, read_more, validity_of, foldable_part, shortened, folded}
use Rattle.occ_model.specs.Invariant.{Invariant}
use Rattle.occ_model.specs.declared.verdict.Verdict.{Verdict}
use Rattle.occ_model.specs.declared.verdict.Verdict.TheVariants as verdicts
use Rattle.occ_model.proofs.Logs.{standing_at, serial-append}
use Rattle.occ_model.proofs.Turns.{around, entered_turned}
use Rattle.occ_model.proofs.Orders.{numbers_pushed, numbers-own}
use Rattle.occ_model.proofs.Folds as folds
use Rattle.occ_model.proofs.Polls.{last_is}
use Rattle.occ_model.proofs.Admitted.{Admitted, admitted}
use Rattle.occ_model.proofs.EndsShown.{due_alone}
use Rattle.occ_model.proofs.Steps.{keeps, invariant_resumed, audited}
use Rattle.occ_history.specs.History.{Happened}
use Rattle.occ_history.specs.Orders.{noted, given, enters, EntersBy, AreEntries}
use Rattle.occ_history.specs.Laws.{HistoriesAreSerial}
use Rattle.occ_history.proofs.ReadsGiven.{AreGiven, noted-refused, enters-refused, due_up, given_still, given_read, given_forget, given_close, given_comes}
use Rattle.occ_history.proofs.EntryRows.{none_more, one_more, entries_turned, explained-append, explained-front}

-- what a history told of a world, whose folded rows are these
record Told (state : State) (log : List Happened) (world : World) (past : List LogRow) : Type 0 where
  invariant : Invariant world
  past_is : serial state past ≡ world.base.state
  explained : Explained state past
  entries : AreEntries [] log (past ++ world.log)
  are_given : AreGiven log world

module _ (state : State) (log : List Happened) (old : World) (past : List LogRow) (told : Told state log old past) where
  -- a step by which no row comes
  stays : (happened : Happened) (new : World) → Invariant new → new.base ≡ old.base → AreEntries [] log (past ++ new.log) → enters happened.0 happened.1 ≡ false → AreGiven (log ++ happened ∷ []) new
      → Told state (log ++ happened ∷ []) new past
  stays happened new inv base entries none given' = record {
    invariant = inv;
    past_is = told.past_is ∙ ap (λ (b : Base). b.state) (sym base);
    explained = told.explained;
    entries = none_more log happened (past ++ new.log) entries none;
    are_given = given';
  }

  -- one that moves neither log, nor base, nor read phases, nor marks
  idle : (happened : Happened) (new : World) → Invariant new → new.base ≡ old.base → new.log ≡ old.log → new.phases ≡ old.phases → new.marks ≡ old.marks
      → enters happened.0 happened.1 ≡ false → ((session number : ℕ) (so_far : List Observation) → noted session number so_far happened.0 happened.1 ≡ so_far)
      → Told state (log ++ happened ∷ []) new past
  idle happened new inv base rows phases marks none noted_same =
      stays happened new inv base (subst (λ l. AreEntries [] log (past ++ l)) (sym rows) told.entries) none
      (given_still log happened old new told.are_given told.invariant inv
      (λ session number. ap (λ (m : FinMap phase_cmp ReadPhase). elim (finite.get m (session, number)) as (λ _. List Observation) [ None ↦ [] | Some phase ↦ phase.reads ]) phases)
      (λ session. ap (λ (m : FinMap nat_cmp ℕ). finite.contains_key m session) marks)
      (λ session. let e : entered_count new session ≡ entered_count old session = λ i. last_folded (base i) session + length (numbers session (rows i)) in omega arith)
      noted_same)

  refused_told : (event : Event) (fault : Fault) → Told state (log ++ (event, Refused fault) ∷ []) old past
  refused_told event fault = idle (event, Refused fault) old told.invariant refl refl refl refl (enters-refused event fault) (λ session number so_far. noted-refused session number so_far event fault)

  -- the latest row of a session takes another standing
  entries_now : (session : ℕ) (row : LogRow) (standing : Standing) → latest session old.log ≡ Some row → AreEntries [] log (past ++ turn session standing old.log)
  entries_now session row standing is =
      let a = around session old.log row standing is in
      let was : AreEntries [] log ((past ++ a.before) ++ row ∷ a.later) = subst (AreEntries [] log) (ap (λ l. past ++ l) a.was ∙ sym (append_assoc past a.before (row ∷ a.later))) told.entries in
      subst (AreEntries [] log) (append_assoc past a.before (standing_at row standing ∷ a.later) ∙ ap (λ l. past ++ l) (sym a.now)) (entries_turned log [] (past ++ a.before) row a.later standing was)

  turned : (happened : Happened) (session : ℕ) (row : LogRow) (standing : Standing) (new : World) → latest session old.log ≡ Some row → Invariant new → new.base ≡ old.base
      → new.log ≡ turn session standing old.log → new.phases ≡ old.phases → new.marks ≡ old.marks
      → enters happened.0 happened.1 ≡ false → ((session number : ℕ) (so_far : List Observation) → noted session number so_far happened.0 happened.1 ≡ so_far)
      → Told state (log ++ happened ∷ []) new past
  turned happened session row standing new is inv base rows phases marks none noted_same =
      stays happened new inv base (subst (λ l. AreEntries [] log (past ++ l)) (sym rows) (entries_now session row standing is)) none
      (given_still log happened old new told.are_given told.invariant inv
      (λ s number. ap (λ (m : FinMap phase_cmp ReadPhase). elim (finite.get m (s, number)) as (λ _. List Observation) [ None ↦ [] | Some phase ↦ phase.reads ]) phases)
      (λ s. ap (λ (m : FinMap nat_cmp ℕ). finite.contains_key m s) marks)
      (λ s.
      let e : length (numbers s new.log) ≡ length (numbers s old.log) = ap (λ l. length (numbers s l)) rows ∙ entered_turned session row standing old.log is s in
      let b : last_folded new.base s ≡ last_folded old.base s = ap (λ b. last_folded b s) base in
      omega arith)
      noted_same)

  -- a row comes
  comes : (happened : Happened) (row : LogRow) (new : World) → Invariant new → new.base ≡ old.base → new.log ≡ old.log ++ row ∷ [] → row.number ≡ due old row.session
      → (new.phases ≡ finite.remove old.phases (row.session, row.number)) ⊎ (new.phases ≡ old.phases) → new.marks ≡ old.marks
      → enters happened.0 happened.1 ≡ true → EntersBy log happened.0 happened.1 row → ((session number : ℕ) (so_far : List Observation) → noted session number so_far happened.0 happened.1 ≡ so_far)
      → Told state (log ++ happened ∷ []) new past
  comes happened row new inv base rows is_due phases marks enters_is by noted_same =
      let count : (s : ℕ) → entered_count new s ≡ last_folded old.base s + (length (numbers s old.log) + length (numbers s (row ∷ []))) =
      λ s. (λ i. last_folded (base i) s + length (numbers s (rows i))) ∙ ap (λ n. last_folded old.base s + n) (numbers_pushed s old.log row) in
      record {
        invariant = inv;
        past_is = told.past_is ∙ ap (λ (b : Base). b.state) (sym base);
        explained = told.explained;
        entries = subst (AreEntries [] (log ++ happened ∷ [])) (append_assoc past old.log (row ∷ []) ∙ ap (λ l. past ++ l) (sym rows))
            (one_more log happened (past ++ old.log) row told.entries enters_is by);
        are_given = given_comes log happened old new row.session row.number told.are_given
            (λ s. ap (λ (m : FinMap nat_cmp ℕ). finite.contains_key m s) marks)
            (λ s. due_up old new told.invariant inv s (let c = count s in omega arith))
            (let c = count row.session in
            let own : length (numbers row.session (row ∷ [])) ≡ 1 = ap length (numbers-own row) in
            let was = last_is old row.session told.invariant in
            let is = last_is new row.session inv in
            omega arith)
            phases
            noted_same;
      }

  -- operations run alone
  alone : (event : Event) (session number : ℕ) (operations : List Operation) (reply : Reply) (new : World) → Invariant new → refusal_of_alone old session number operations ≡ None
      → RunsAlone old session number operations reply new → ((r : Reply) → enters event r ≡ enters (RunAlone session number operations) r)
      → ((r : Reply) (row : LogRow) → EntersBy log (RunAlone session number operations) r row → EntersBy log event r row)
      → ((session number : ℕ) (so_far : List Observation) (r : Reply) → noted session number so_far event r ≡ so_far)
      → Told state (log ++ (event, reply) ∷ []) new past
  alone event session number operations reply new inv none runs enters_same by noted_same =
      let done = perform_all old.table operations nothing_yet in
      let row : LogRow = entering old session number old.counter done.reads done.writes (Done (old.counter + 1)) in
      let next : World = record old { log = old.log ++ row ∷ []; table = apply old.table done.writes; counter = old.counter + 1 } in
      let inv' : Invariant next = subst Invariant runs.1 inv in
      subst₂ (λ r w. Told state (log ++ (event, r) ∷ []) w past) (sym runs.0) (sym runs.1)
      (comes (event, RanAlone (old.counter + 1) done.answers) row next inv' refl refl (due_alone old session number operations none).turn (inr refl) refl
      (enters_same (RanAlone (old.counter + 1) done.answers))
      (by (RanAlone (old.counter + 1) done.answers) row
      (record { session_is = refl; number_is = refl; state = old.table; tn = old.counter + 1; reads_are = refl; writes_are = refl; answers_are = refl }))
      (λ s n so_far. noted_same s n so_far (RanAlone (old.counter + 1) done.answers)))

  -- what an open session's due number has read is what was given
  due_given : (session number : ℕ) → has_mark old session ≡ false → number ≡ due old session → reads_under old session number ≡ given session number log
  due_given session number unmarked is_due = told.are_given session number unmarked (omega arith)

  folds_told : (happened : Happened) → Invariant (shortened old) → enters happened.0 happened.1 ≡ false → ((session number : ℕ) (so_far : List Observation) → noted session number so_far happened.0 happened.1 ≡ so_far)
      → Told state (log ++ happened ∷ []) (shortened old) (past ++ foldable_part (low old) old.log)
  folds_told happened inv none noted_same =
      let part = foldable_part (low old) old.log in
      let rows = drop (length part) old.log in
      let whole : old.log ≡ part ++ rows = folds.part_rest (low old) old.log in
      let all : past ++ old.log ≡ (past ++ part) ++ rows = ap (λ l. past ++ l) whole ∙ sym (append_assoc past part rows) in
      let audit = audited old told.invariant in
      record {
        invariant = inv;
        past_is = serial-append state past part ∙ ap (λ s. serial s part) told.past_is;
        explained = explained-append state past part told.explained
            (subst (λ s. Explained s part) (sym told.past_is) (explained-front old.base.state part rows (subst (Explained old.base.state) whole audit.explained)));
        entries = none_more log happened ((past ++ part) ++ rows) (subst (AreEntries [] log) all told.entries) none;
        are_given = given_still log happened old (shortened old) told.are_given told.invariant inv (λ _ _. refl) (λ _. refl)
            (λ s. let e = folds.entered_folded old.base old.marks part rows old.log whole told.invariant.in_order s in omega arith)
            noted_same;
      }

  abbrev Then : Event → Reply → World → Type 0
  Then event reply new = (past' : List LogRow) × Told state (log ++ (event, reply) ∷ []) new past'

  taken_told : (event : Event) (reply : Reply) (new : World) → refusal old event ≡ None → Taken old event reply new → Invariant new → Then event reply new
  taken_told (Read session number start question) reply new none t inv = (
    past,
    subst₂ (λ r w. Told state (log ++ (Read session number start question, r) ∷ []) w past) (sym t.0) (sym t.1)
        (stays (Read session number start question, Answered (answer question old.table)) (read_more old session number start question) (subst Invariant t.1 inv) refl told.entries refl
        (given_read log old session number start question told.are_given (read_more old session number start question) (λ _. refl) (λ _. refl) refl)),
  )
  taken_told (Forget session number) reply new none t inv = (
    past,
    subst₂ (λ r w. Told state (log ++ (Forget session number, r) ∷ []) w past) (sym t.0) (sym t.1)
        (stays (Forget session number, Forgotten (finite.contains_key old.phases (session, number))) (record old { phases = finite.remove old.phases (session, number) })
        (subst Invariant t.1 inv) refl told.entries refl (given_forget log old session number told.are_given)),
  )
  taken_told (Enter session (Request number start writes)) reply new none t inv =
      let may = (admitted old None session number start writes none).0 in
      let next = steps.entered old session number start writes t.0 t.1 in (
        past,
        subst₂ (λ r w. Told state (log ++ (Enter session (Request number start writes), r) ∷ []) w past) (sym t.3) (sym t.4)
            (comes (Enter session (Request number start writes), Entered (next_place old) t.0)
            (entering old session number start (reads_under old session number) writes (Open t.0 t.1)) next
            (subst Invariant t.4 inv) refl refl may.turn (inl refl) refl refl
            (record { session_is = refl; number_is = refl; start_is = refl; reads_are = due_given session number may.unmarked may.turn; writes_are = refl })
            (λ _ _ _. refl)),
      )
  taken_told (Enter session (Alone number operations)) reply new none t inv =
      (past, alone (Enter session (Alone number operations)) session number operations reply new inv none t (λ _. refl) (λ _ _ by. by) (λ _ _ _ _. refl))
  taken_told (Enter session (Close number)) reply new none t inv = (
    past,
    subst₂ (λ r w. Told state (log ++ (Enter session (Close number), r) ∷ []) w past) (sym t.0) (sym t.1)
        (stays (Enter session (Close number), Closed) (steps.closed old session number) (subst Invariant t.1 inv) refl told.entries refl
        (given_close log (Enter session (Close number), Closed) old session number told.are_given (λ _ _ _. refl))),
  )
  taken_told (Decide session) reply new none t inv = (
    past,
    subst₂ (λ r w. Told state (log ++ (Decide session, r) ∷ []) w past) (sym t.5) (sym t.6)
        (turned (Decide session, Decided (verdict t.2)) session t.0 (steps.decided (verdict t.2)) (record old { log = turn session (steps.decided (verdict t.2)) old.log }) t.3 (subst Invariant t.6 inv) refl refl refl refl refl (λ _ _ _. refl)),
  )
  taken_told (WriteOne session) reply new none t inv = go (slice_get t.0.writes t.1) t.4
    where
      go : (w : Option Write) → MatchOption w ((reply ≡ NoMore) × (new ≡ old)) (λ write. (reply ≡ Wrote write.0) × (new ≡ record old { table = put old.table write; log = turn session (Writing (t.1 + 1)) old.log }))
          → Then (WriteOne session) reply new
      go None m = (
        past,
        subst₂ (λ r w. Told state (log ++ (WriteOne session, r) ∷ []) w past) (sym m.0) (sym m.1)
            (idle (WriteOne session, NoMore) old told.invariant refl refl refl refl refl (λ _ _ _. refl)),
      )
      go (Some write) m = (
        past,
        subst₂ (λ r w. Told state (log ++ (WriteOne session, r) ∷ []) w past) (sym m.0) (sym m.1)
            (turned (WriteOne session, Wrote write.0) session t.0 (Writing (t.1 + 1)) (record old { table = put old.table write; log = turn session (Writing (t.1 + 1)) old.log }) t.2 (subst Invariant m.1 inv) refl refl refl refl refl (λ _ _ _. refl)),
      )
  taken_told (Finish session) reply new none t inv = (
    past,
    subst₂ (λ r w. Told state (log ++ (Finish session, r) ∷ []) w past) (sym t.4) (sym t.5)
        (turned (Finish session, Finished (old.counter + 1)) session t.0 (Done (old.counter + 1)) (steps.finished old session) t.2 (subst Invariant t.5 inv) refl refl refl refl refl (λ _ _ _. refl)),
  )
  taken_told (BackUp session) reply new none t inv = (
    past,
    subst₂ (λ r w. Told state (log ++ (BackUp session, r) ∷ []) w past) (sym t.0) (sym t.1)
        (idle (BackUp session, BackedUp (last_entered old session)) (record old { held = sets.remove old.held session }) (subst Invariant t.1 inv) refl refl refl refl refl (λ _ _ _. refl)),
  )
  taken_told (SerialEnd session (Request number start writes)) reply new none t inv = go (validity_of old session number start writes) t
    where
      may : Admitted old session number start
      may = (admitted old (refusals.store_busy old) session number start writes none).0

      go : (v : Verdict) → EndsSerially old session number start writes v reply new → Then (SerialEnd session (Request number start writes)) reply new
      go verdicts.Commit e = (
        past,
        subst₂ (λ r w. Told state (log ++ (SerialEnd session (Request number start writes), r) ∷ []) w past) (sym e.0) (sym e.1)
            (comes (SerialEnd session (Request number start writes), Finished (old.counter + 1))
            (entering old session number start (reads_under old session number) writes (Done (old.counter + 1)))
            (record (steps.appended old session number start writes (Done (old.counter + 1))) { table = apply old.table writes; counter = old.counter + 1 })
            (subst Invariant e.1 inv) refl refl may.turn (inl refl) refl refl
            (record { session_is = refl; number_is = refl; start_is = refl; reads_are = due_given session number may.unmarked may.turn; writes_are = refl })
            (λ _ _ _. refl)),
      )
      go (verdicts.BackUp cause) e = (
        past,
        subst₂ (λ r w. Told state (log ++ (SerialEnd session (Request number start writes), r) ∷ []) w past) (sym e.0) (sym e.1)
            (comes (SerialEnd session (Request number start writes), EndedBack cause)
            (entering old session number start (reads_under old session number) writes (Back cause))
            (steps.appended old session number start writes (Back cause))
            (subst Invariant e.1 inv) refl refl may.turn (inl refl) refl refl
            (record { session_is = refl; number_is = refl; start_is = refl; reads_are = due_given session number may.unmarked may.turn; writes_are = refl })
            (λ _ _ _. refl)),
      )
  taken_told (SerialEnd session (Alone number operations)) reply new none t inv =
      (past, alone (SerialEnd session (Alone number operations)) session number operations reply new inv none t (λ _. refl) (λ _ _ by. by) (λ _ _ _ _. refl))
  taken_told (SerialEnd session (Close number)) reply new none t inv = (
    past,
    subst₂ (λ r w. Told state (log ++ (SerialEnd session (Close number), r) ∷ []) w past) (sym t.0) (sym t.1)
        (stays (SerialEnd session (Close number), Closed) (steps.closed old session number) (subst Invariant t.1 inv) refl told.entries refl
        (given_close log (SerialEnd session (Close number), Closed) old session number told.are_given (λ _ _ _. refl))),
  )
  taken_told (RunAlone session number operations) reply new none t inv =
      (past, alone (RunAlone session number operations) session number operations reply new inv none t (λ _. refl) (λ _ _ by. by) (λ _ _ _ _. refl))
  taken_told Checkpoint reply new none t inv = (
    past ++ foldable_part (low old) old.log,
    subst₂ (λ r w. Told state (log ++ (Checkpoint, r) ∷ []) w (past ++ foldable_part (low old) old.log)) (sym t.0) (sym t.1)
        (folds_told (Checkpoint, Folded (length (foldable_part (low old) old.log))) (subst Invariant t.1 inv) refl (λ _ _ _. refl)),
  )

  step_told : (event : Event) (reply : Reply) (new : World) → Step old event reply new → Then event reply new
  step_told event reply new (refused fault is said stays) = (past, subst₂ (λ r w. Told state (log ++ (event, r) ∷ []) w past) (sym said) (sym stays) (refused_told event fault))
  step_told event reply new (starved none takes said stays) = (past, subst₂ (λ r w. Told state (log ++ (event, r) ∷ []) w past) (sym said) (sym stays) (refused_told event faults.Memory))
  step_told event reply new (taken none t) = taken_told event reply new none t (keeps old event reply new told.invariant (taken none t))

run_told : (state : State) (more log : List Happened) (old new : World) (past : List LogRow) → Told state log old past → Run old more new → (past' : List LogRow) × Told state (log ++ more) new past'
run_told state [] log old new past told run = (past, subst₂ (λ l w. Told state l w past) (sym (append-nil log)) (sym run) told)
run_told state (first ∷ others) log old new past told run =
    let next = step_told state log old past told first.0 first.1 run.0 run.1 in
    let last = run_told state others (log ++ first ∷ []) run.0 new next.0 next.1 run.2 in
    (last.0, subst (λ l. Told state l new last.0) (append_assoc log (first ∷ []) others) last.1)

begins_told : (settings : Settings) (base : Base) (counter : ℕ) → Told base.state [] (resumed settings base counter) []
begins_told settings base counter = record {
  invariant = invariant_resumed settings base counter;
  past_is = refl;
  explained = tt;
  entries = refl;
  are_given = none;
}
  where
    none : AreGiven [] (resumed settings base counter)
    none session number unmarked from = ap (λ (o : Option ReadPhase). elim o as (λ _. List Observation) [ None ↦ [] | Some phase ↦ phase.reads ]) (finite.get-empty phase_cmp (session, number))

pub histories_are_serial : HistoriesAreSerial
histories_are_serial settings base counter log world run =
    let all = run_told base.state log [] (resumed settings base counter) world [] (begins_told settings base counter) run in
    let past = all.0 in
    let told = all.1 in
    let audit = audited world told.invariant in (
      past ++ world.log,
      record {
        entries = told.entries;
        explained = explained-append base.state past world.log told.explained (subst (λ s. Explained s world.log) (sym told.past_is) audit.explained);
        replayed = told.invariant.replayed ∙ ap (λ s. serial s world.log) (sym told.past_is) ∙ sym (serial-append base.state past world.log);
      },
    )
