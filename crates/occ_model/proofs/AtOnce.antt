-- A serial end and operations that run alone keep the invariant.
use Rattle.std.proofs.Common.{◌≡◌, ℕ, ◌+◌, true, false, List, [], ◌∷◌, ◌++◌, Option, None, Some, refl, sym, ap, subst, ◌∙◌, inl, inr, arith}
use Rattle.std.specs.Prelude.{if◌then◌else◌, ◌==◌}
use Rattle.std.specs.List.{list_any}
use Rattle.std.proofs.lemmas.Bool.{lt-ltb, eqb-true}
use Rattle.std.specs.FinMap as finite
use Rattle.std.specs.FinMap.{FinMap}
use Rattle.occ_types.specs.declared.fault.Fault.TheVariants as faults
use Rattle.occ_types.specs.Question.{Question}
use Rattle.occ_model.specs.State.{State, Write, Observation, answer, apply, meets_question}
use Rattle.occ_model.specs.Log.{LogRow, Standing, Open, Writing, Done, Back, questions, remaining, serial, settled, is_done, is_active, AreAnswers}
use Rattle.occ_types.specs.Question.{One, Span}
use Rattle.occ_types.specs.Row.{Row}
use Rattle.occ_model.specs.Overlay.{own}
use Rattle.occ_model.specs.Operations.{Operation, Get, Scan, Put, Delete, Add, Progress, perform, perform_all, asked, nothing_yet}
use Rattle.occ_model.specs.World.{World, ReadPhase, low, latest, due, reads_under, is_held, has_mark, phase_cmp}
use Rattle.occ_model.specs.Event.{Reply}
use Rattle.occ_model.specs.Refusal as refusals
use Rattle.occ_model.specs.Refusal.{refusal_of_request, refusal_of_alone}
use Rattle.occ_model.specs.Step.{entering, validity_of, EndsSerially, RunsAlone}
use Rattle.occ_model.specs.Invariant.{commits, Invariant}
use Rattle.occ_model.specs.declared.verdict.Verdict.{Verdict}
use Rattle.occ_model.specs.declared.verdict.Verdict.TheVariants as verdicts
use Rattle.occ_model.specs.declared.verdict.Cause.{Cause}
use Rattle.occ_model.proofs.Tests as tests
use Rattle.occ_model.proofs.States.{answer-apply}
use Rattle.occ_model.proofs.Logs.{serial-append, settled-append, ActiveAreApart, Chained-push}
use Rattle.occ_model.proofs.AtEntry.{commit_means, valid_reads}
use Rattle.occ_model.proofs.Turns
use Rattle.occ_model.proofs.Turns.{latest-push}
use Rattle.occ_model.proofs.Orders.{numbers_pushed}
use Rattle.occ_model.proofs.Phases.{get-remove-from, IsFresh-step, not_refused, known_reads}
use Rattle.occ_model.proofs.Admitted.{passed, Admitted, admitted}
use Rattle.occ_model.proofs.Arrivals.{InOrder-push, no_mark, rise}
use Rattle.occ_model.proofs.WritePhases.{touched_own}

-- A row that comes in as Done, in one step, while no row is active.

idle_settled : (table : State) (log : List LogRow) → list_any (λ row. is_active row.standing) log ≡ false → settled table log ≡ table
idle_settled table [] none = refl
idle_settled table (row ∷ rows) none =
    let parts = tests.or_false (is_active row.standing) _ none in
    ap (λ w. settled (apply table w) rows) (quiet row.standing parts.0) ∙ idle_settled table rows parts.1
  where
    quiet : (s : Standing) → is_active s ≡ false → remaining row.writes s ≡ []
    quiet (Open index case) e = cc
    quiet (Writing done) e = cc
    quiet (Done number) e = refl
    quiet (Back cause) e = refl

idle_apart : (log : List LogRow) (row : LogRow) → list_any (λ x. is_active x.standing) log ≡ false → ActiveAreApart log row
idle_apart [] row none = tt
idle_apart (x ∷ xs) row none =
    let parts = tests.or_false (is_active x.standing) _ none in
    (λ active. tests.clash (is_active x.standing) active parts.0, idle_apart xs row parts.1)

-- What it read is the replay's answer; its writes go to the table. `phases` has no more read phases than before.
module _ (old : World) (inv : Invariant old) (session number start : ℕ) (reads : List Observation) (writes : List Write)
    (phases : FinMap phase_cmp ReadPhase) (fewer : (k : ℕ × ℕ) (phase : ReadPhase) → finite.get phases k ≡ Some phase → finite.get old.phases k ≡ Some phase)
    (idle : list_any (λ row. is_active row.standing) old.log ≡ false) (free : is_held old session ≡ false) (unmarked : has_mark old session ≡ false) (turn_is : number ≡ due old session) where
  abbrev done_row : Standing → LogRow
  done_row standing = entering old session number start reads writes standing

  under_way_pushed : (standing : Standing) (s : ℕ) → is_held old s ≡ true → (later : LogRow) → latest s (old.log ++ done_row standing ∷ []) ≡ Some later → is_done later.standing ≡ false
  under_way_pushed standing s held later is = tests.decided (session == s)
      (λ same. tests.clash (is_held old s) held (subst (λ t. is_held old t ≡ false) (eqb-true session s same) free))
      (λ other. inv.held_under_way s held later (sym (latest-push s (done_row standing) old.log ∙ ap (λ b. if b then Some (done_row standing) else latest s old.log) other) ∙ is))

  comes_done : AreAnswers old.table reads → Invariant (record old {
    log = old.log ++ done_row (Done (old.counter + 1)) ∷ [];
    phases = phases;
    table = apply old.table writes;
    counter = old.counter + 1;
  })
  comes_done answers =
      let row : LogRow = done_row (Done (old.counter + 1)) in
      let new : World = record old { log = old.log ++ row ∷ []; phases = phases; table = apply old.table writes; counter = old.counter + 1 } in
      let is_serial : old.table ≡ serial old.base.state old.log = sym (idle_settled old.table old.log idle) ∙ inv.replayed in
      record {
        replayed = settled-append (apply old.table writes) old.log (row ∷ []) ∙ idle_settled (apply old.table writes) old.log idle
            ∙ ap (λ s. apply s writes) is_serial ∙ sym (serial-append old.base.state old.log (row ∷ []));
        chained = Chained-push old.base.state old.log row inv.chained (λ sound. subst (λ s. AreAnswers s reads) is_serial answers) (λ sound. idle_apart old.log row idle);
        fresh = λ s n phase at. IsFresh-step old new (omega arith) (rise old.counter old.settings.keep)
            (λ from question begun inside touched. Turns.is_touched-push from question row old.log touched)
            (λ from question begun. tests.decided (meets_question writes question)
            (λ met. inr (touched_own from question old.log [] row (tests.or_left _ _ (lt-ltb from (old.counter + 1) (omega arith))) met))
            (λ unmet. inl (answer-apply question old.table writes unmet)))
            phase (inv.fresh s n phase (fewer (s, n) phase at));
        below = Turns.NumbersAreBelow-push (old.counter + 1) row old.log (Turns.NumbersAreBelow-up old.counter old.log inv.below) (omega arith);
        in_order = InOrder-push old row inv.in_order refl turn_is (no_mark old session unmarked);
        one_under_way = Turns.OneUnderWay-push row old.log old.held inv.one_under_way inv.active_held free;
        active_held = Turns.ActiveAreHeld-push row old.log old.held inv.active_held (λ (a : false ≡ true). cc a);
        held_under_way = under_way_pushed';
        held_entered = λ s held. let before = inv.held_entered s held in omega (arith, numbers_pushed s old.log row, before);
      }
    where
      under_way_pushed' : (s : ℕ) → is_held old s ≡ true → (later : LogRow) → latest s (old.log ++ done_row (Done (old.counter + 1)) ∷ []) ≡ Some later → is_done later.standing ≡ false
      under_way_pushed' = under_way_pushed (Done (old.counter + 1))

  comes_back : (cause : Cause) → Invariant (record old { log = old.log ++ done_row (Back cause) ∷ []; phases = phases })
  comes_back cause =
      let row : LogRow = done_row (Back cause) in
      record {
        replayed = settled-append old.table old.log (row ∷ []) ∙ inv.replayed ∙ sym (serial-append old.base.state old.log (row ∷ []));
        chained = Chained-push old.base.state old.log row inv.chained (λ (s : false ≡ true). cc s) (λ sound. idle_apart old.log row idle);
        fresh = λ s n phase at. IsFresh-step old (record old { log = old.log ++ row ∷ []; phases = phases }) (omega arith) (omega arith)
            (λ from question begun inside touched. Turns.is_touched-push from question row old.log touched) (λ from question begun. inl refl)
            phase (inv.fresh s n phase (fewer (s, n) phase at));
        below = Turns.NumbersAreBelow-push old.counter row old.log inv.below tt;
        in_order = InOrder-push old row inv.in_order refl turn_is (no_mark old session unmarked);
        one_under_way = Turns.OneUnderWay-push row old.log old.held inv.one_under_way inv.active_held free;
        active_held = Turns.ActiveAreHeld-push row old.log old.held inv.active_held (λ (a : false ≡ true). cc a);
        held_under_way = under_way_pushed (Back cause);
        held_entered = λ s held. let before = inv.held_entered s held in omega (arith, numbers_pushed s old.log row, before);
      }

pub keeps_serial : (old : World) (session number start : ℕ) (writes : List Write) (reply : Reply) (new : World) → Invariant old
    → refusal_of_request old (refusals.store_busy old) session number start writes ≡ None
    → EndsSerially old session number start writes (validity_of old session number start writes) reply new → Invariant new
keeps_serial old session number start writes reply new inv none ends =
    go valid refl ends
  where
    valid : Verdict
    valid = validity_of old session number start writes

    reads : List Observation
    reads = reads_under old session number

    may : Admitted old session number start × (refusals.store_busy old ≡ None)
    may = admitted old (refusals.store_busy old) session number start writes none

    idle : list_any (λ row. is_active row.standing) old.log ≡ false
    idle = not_refused _ faults.StoreBusy may.1

    row : LogRow
    row = entering old session number start reads writes (Done (old.counter + 1))

    fewer : (k : ℕ × ℕ) (phase : ReadPhase) → finite.get (finite.remove old.phases (session, number)) k ≡ Some phase → finite.get old.phases k ≡ Some phase
    fewer k phase is = get-remove-from old.phases (session, number) k phase is

    answers : commits valid ≡ true → AreAnswers old.table reads
    answers sound =
        let m = commit_means old.log old.counter (low old) start (questions row) writes sound in
        let known = known_reads old session number start (inv.fresh session number) may.0.start_is in
        subst (λ s. AreAnswers s reads) (idle_settled old.table old.log idle) (valid_reads old.log old.table row start old.counter inv.below m.1 (known.1 m.0))

    go : (v : Verdict) → valid ≡ v → EndsSerially old session number start writes v reply new → Invariant new
    go verdicts.Commit e ends = subst Invariant (sym ends.1) (comes_done old inv session number start reads writes (finite.remove old.phases (session, number)) fewer idle may.0.free may.0.unmarked may.0.turn (answers (ap commits e)))
    go (verdicts.BackUp cause) e ends = subst Invariant (sym ends.1) (comes_back old inv session number start reads writes (finite.remove old.phases (session, number)) fewer idle may.0.free may.0.unmarked may.0.turn cause)

-- What a run alone reads is the table's own answer.

AreAnswers-push : (state : State) (question : Question) (reads : List Observation) → AreAnswers state reads → AreAnswers state (reads ++ (question, answer question state) ∷ [])
AreAnswers-push state question [] are = (refl, tt)
AreAnswers-push state question (seen ∷ others) are = (are.0, AreAnswers-push state question others are.1)

asked_answers : (table : State) (question : Question) (so_far : Progress) → AreAnswers table so_far.reads → AreAnswers table (asked table question so_far)
asked_answers table (One place key) so_far are = go (own so_far.writes (place, key))
  where
    go : (o : Option (Option Row)) → AreAnswers table (elim o as (λ _. List Observation) [ None ↦ so_far.reads ++ (One place key, answer (One place key) table) ∷ [] | Some row ↦ so_far.reads ])
    go None = AreAnswers-push table (One place key) so_far.reads are
    go (Some row) = are
asked_answers table (Span place lower upper) so_far are = AreAnswers-push table (Span place lower upper) so_far.reads are

performed_answers : (table : State) (operations : List Operation) (so_far : Progress) → AreAnswers table so_far.reads → AreAnswers table (perform_all table operations so_far).reads
performed_answers table [] so_far are = are
performed_answers table (Get place key ∷ others) so_far are = performed_answers table others (perform table (Get place key) so_far) (asked_answers table (One place key) so_far are)
performed_answers table (Scan place lower upper ∷ others) so_far are = performed_answers table others (perform table (Scan place lower upper) so_far) (asked_answers table (Span place lower upper) so_far are)
performed_answers table (Put place key row ∷ others) so_far are = performed_answers table others (perform table (Put place key row) so_far) are
performed_answers table (Delete place key ∷ others) so_far are = performed_answers table others (perform table (Delete place key) so_far) are
performed_answers table (Add place key n ∷ others) so_far are = performed_answers table others (perform table (Add place key n) so_far) (asked_answers table (One place key) so_far are)

pub keeps_alone : (old : World) (session number : ℕ) (operations : List Operation) (reply : Reply) (new : World) → Invariant old → refusal_of_alone old session number operations ≡ None → RunsAlone old session number operations reply new → Invariant new
keeps_alone old session number operations reply new inv none runs =
    let a = passed (refusals.no_session old session) _ none in
    let b = passed (refusals.session_closed old session) _ a.1 in
    let c = passed (refusals.not_due old session number) _ b.1 in
    let d = passed (refusals.session_busy old session) _ c.1 in
    let e = passed (refusals.read_open old session number) _ d.1 in
    let f = passed (refusals.store_busy old) _ e.1 in
    let done : Progress = perform_all old.table operations nothing_yet in
    subst Invariant (sym runs.1) (comes_done old inv session number old.counter done.reads done.writes old.phases (λ k phase is. is)
    (not_refused _ faults.StoreBusy f.0) (not_refused _ faults.SessionBusy d.0) (not_refused _ faults.SessionClosed b.0)
    (eqb-true number (due old session) (tests.not_false _ (not_refused _ faults.OutOfTurn c.0)))
    (performed_answers old.table operations nothing_yet tt))
