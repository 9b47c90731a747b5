-- The laws on what each step makes of what a poll shows.
use Rattle.std.proofs.Common.{◌≡◌, ℕ, ◌+◌, true, false, List, [], ◌∷◌, ◌++◌, Option, None, Some, option_and_then, refl, sym, ap, subst, ◌∙◌}
use Rattle.std.specs.Prelude.{slice_get, MatchOption}
use Rattle.std.proofs.lemmas.Bool.{eqb-true}
use Rattle.std.specs.FinMap as finite
use Rattle.std.specs.FinMap.{FinMap}
use Rattle.occ_types.specs.declared.fault.Fault.{Fault}
use Rattle.occ_types.specs.declared.fault.Fault.TheVariants as faults
use Rattle.occ_types.specs.Schema.{first_fault}
use Rattle.occ_model.specs.State.{State, Write, put, apply}
use Rattle.occ_model.specs.Log.{LogRow, Standing, Open, Writing, Done, Back}
use Rattle.occ_model.specs.Operations.{Operation, perform_all, nothing_yet}
use Rattle.occ_model.specs.Validity.{verdict}
use Rattle.occ_model.specs.World.{World, ReadPhase, phase_cmp, is_held, latest, turn, due, reads_under}
use Rattle.occ_model.specs.Event.{Request, Alone, Close, Event, Read, Forget, Enter, Decide, WriteOne, Finish, BackUp, SerialEnd, RunAlone, Checkpoint, Reply, Wrote, NoMore}
use Rattle.occ_model.specs.Refusal as refusals
use Rattle.occ_model.specs.Refusal.{refusal, refusal_of_alone, refusal_of_request}
use Rattle.occ_model.specs.Invariant.{Invariant}
use Rattle.occ_model.specs.Poll.{poll, outcome, done_number, last_done, settled_number}
use Rattle.occ_model.specs.Step as steps
use Rattle.occ_model.specs.Step.{refused, starved, taken, Taken, entering, validity_of, EndsSerially, RunsAlone, shortened}
use Rattle.occ_model.specs.EndLaws.{Commits, BacksUp, Fades, Shows, StepsShow}
use Rattle.occ_model.specs.declared.verdict.Verdict.{Verdict}
use Rattle.occ_model.specs.declared.verdict.Verdict.TheVariants as verdicts
use Rattle.occ_model.specs.declared.verdict.Cause.{Cause}
use Rattle.occ_model.proofs.Tests as tests
use Rattle.occ_model.proofs.Phases.{not_refused}
use Rattle.occ_model.proofs.Admitted.{passed, admitted}
use Rattle.occ_model.proofs.Steps.{keeps}
use Rattle.occ_model.proofs.Shown.{turn_still, enter_still, finish_shows, at_once_own, at_once_others, back_up_shows, fold_fades, settles_held}

-- what a step on a transaction under way says: its session is held
pub held_of : (old : World) (event : Event) (session : ℕ) → refusal old event ≡ None → (others : List (Option Fault))
    → refusal old event ≡ first_fault (refusals.no_session old session ∷ refusals.nothing_entered old session ∷ others) → is_held old session ≡ true
held_of old event session none others is =
    let a = passed (refusals.no_session old session) (refusals.nothing_entered old session ∷ others) (sym is ∙ none) in
    let b = passed (refusals.nothing_entered old session) others a.1 in
    tests.not_false _ (not_refused _ faults.NothingEntered b.0)

-- operations that run alone find their session free, and their number due
pub record IsDue (old : World) (session number : ℕ) : Type 0 where
  pub free : is_held old session ≡ false
  pub turn : number ≡ due old session

pub due_alone : (old : World) (session number : ℕ) (operations : List Operation) → refusal_of_alone old session number operations ≡ None → IsDue old session number
due_alone old session number operations none =
    let a = passed (refusals.no_session old session) _ none in
    let b = passed (refusals.session_closed old session) _ a.1 in
    let c = passed (refusals.not_due old session number) _ b.1 in
    let d = passed (refusals.session_busy old session) _ c.1 in
    record {
      free = not_refused _ faults.SessionBusy d.0;
      turn = eqb-true number (due old session) (tests.not_false _ (not_refused _ faults.OutOfTurn c.0));
    }

pub due_request : (old : World) (session number start : ℕ) (writes : List Write) → refusal_of_request old (refusals.store_busy old) session number start writes ≡ None → IsDue old session number
due_request old session number start writes none =
    let may = admitted old (refusals.store_busy old) session number start writes none in
    record { free = may.0.free; turn = may.0.turn }

-- ---- what each event that is taken shows

no_number : (v : Verdict) → done_number (steps.decided v) ≡ None
no_number verdicts.Commit = refl
no_number (verdicts.BackUp cause) = refl

-- a row that came in as it stands
module _ (old : World) (inv : Invariant old) (row : LogRow) (table : State) (counter : ℕ) (phases : FinMap phase_cmp ReadPhase) (free : is_held old row.session ≡ false) (turn_is : row.number ≡ due old row.session)
    (kept : Invariant (record old { log = old.log ++ row ∷ []; table = table; counter = counter; phases = phases })) where
  abbrev next : World
  next = record old { log = old.log ++ row ∷ []; table = table; counter = counter; phases = phases }

  came : (standing : Standing) → row.standing ≡ standing → poll next row.session ≡ record {
    counter = counter;
    settled = settled_number old row.session + 1;
    ended = outcome standing;
    finished = elim (done_number standing) as (λ _. Option ℕ) [ None ↦ last_done row.session old.log | Some n ↦ Some n ];
  }
  came standing is = subst (λ s. poll next row.session ≡ record {
    counter = counter;
    settled = settled_number old row.session + 1;
    ended = outcome s;
    finished = elim (done_number s) as (λ _. Option ℕ) [ None ↦ last_done row.session old.log | Some n ↦ Some n ];
  }) is (at_once_own old inv row table counter phases free turn_is kept)

  came_done : row.standing ≡ Done (old.counter + 1) → counter ≡ old.counter + 1 → Commits row.session old next
  came_done is counts = record {
    own = came (Done (old.counter + 1)) is ∙ ap (λ n. record { counter = n; settled = settled_number old row.session + 1; ended = Some verdicts.Commit; finished = Some (old.counter + 1) }) counts;
    others = λ other ne. at_once_others old inv row table counter phases free turn_is kept other ne ∙ ap (λ n. record (poll old other) { counter = n }) counts;
  }

  came_back : (cause : Cause) → row.standing ≡ Back cause → counter ≡ old.counter → BacksUp row.session (Some (verdicts.BackUp cause)) old next
  came_back cause is counts = record {
    own = came (Back cause) is ∙ ap (λ n. record (poll old row.session) { counter = n; settled = settled_number old row.session + 1; ended = Some (verdicts.BackUp cause) }) counts;
    others = λ other ne. at_once_others old inv row table counter phases free turn_is kept other ne ∙ ap (λ n. record (poll old other) { counter = n }) counts;
  }

ran_alone : (old : World) (s number : ℕ) (operations : List Operation) (reply : Reply) (new : World) → Invariant old → Invariant new → refusal_of_alone old s number operations ≡ None
    → RunsAlone old s number operations reply new → Commits s old new
ran_alone old s number operations reply new inv kept none t =
    let done = perform_all old.table operations nothing_yet in
    let may = due_alone old s number operations none in
    subst (Commits s old) (sym t.1)
    (came_done old inv (entering old s number old.counter done.reads done.writes (Done (old.counter + 1))) (apply old.table done.writes) (old.counter + 1) old.phases may.free may.turn (subst Invariant t.1 kept) refl refl)

shows_taken : (old : World) (event : Event) (reply : Reply) (new : World) → Invariant old → Invariant new → refusal old event ≡ None → Taken old event reply new → Shows old event reply new
shows_taken old (Read s number start question) reply new inv kept none t = subst (λ r. Shows old (Read s number start question) r new) (sym t.0) (λ session. ap (λ w. poll w session) t.1)
shows_taken old (Forget s number) reply new inv kept none t = subst (λ r. Shows old (Forget s number) r new) (sym t.0) (λ session. ap (λ w. poll w session) t.1)
shows_taken old (Enter s (Request number start writes)) reply new inv kept none t =
    let may = (admitted old None s number start writes none).0 in
    subst (λ r. Shows old (Enter s (Request number start writes)) r new) (sym t.3) (λ session.
    ap (λ w. poll w session) t.4
    ∙ enter_still old inv (entering old s number start (reads_under old s number) writes (Open t.0 t.1)) (finite.remove old.phases (s, number)) may.free may.turn refl (subst Invariant t.4 kept) session)
shows_taken old (Enter s (Alone number operations)) reply new inv kept none t =
    subst (λ r. Shows old (Enter s (Alone number operations)) r new) (sym t.0) (refl, ran_alone old s number operations reply new inv kept none t)
shows_taken old (Enter s (Close number)) reply new inv kept none t = subst (λ r. Shows old (Enter s (Close number)) r new) (sym t.0) (λ session. ap (λ w. poll w session) t.1)
shows_taken old (Decide s) reply new inv kept none t =
    subst (λ r. Shows old (Decide s) r new) (sym t.5) (λ session.
    ap (λ w. poll w session) t.6
    ∙ turn_still old inv s t.0 (steps.decided (verdict t.2)) old.table t.3 (held_of old (Decide s) s none _ refl) (ap done_number t.4) (no_number (verdict t.2)) (subst Invariant t.6 kept) session)
shows_taken old (WriteOne s) reply new inv kept none t = written (slice_get t.0.writes t.1) t.4
  where
    written : (w : Option Write) → MatchOption w ((reply ≡ NoMore) × (new ≡ old)) (λ write. (reply ≡ Wrote write.0) × (new ≡ record old { table = put old.table write; log = turn s (Writing (t.1 + 1)) old.log }))
        → Shows old (WriteOne s) reply new
    written None m = subst (λ r. Shows old (WriteOne s) r new) (sym m.0) (λ session. ap (λ w. poll w session) m.1)
    written (Some write) m = subst (λ r. Shows old (WriteOne s) r new) (sym m.0) (λ session.
        ap (λ w. poll w session) m.1
        ∙ turn_still old inv s t.0 (Writing (t.1 + 1)) (put old.table write) t.2 (held_of old (WriteOne s) s none _ refl) (ap done_number t.3) refl (subst Invariant m.1 kept) session)
shows_taken old (Finish s) reply new inv kept none t =
    subst (λ r. Shows old (Finish s) r new) (sym t.4)
    (refl, subst (Commits s old) (sym t.5) (finish_shows old inv s t.0 t.2 (held_of old (Finish s) s none _ refl) (ap done_number t.3) (subst Invariant t.5 kept)))
shows_taken old (BackUp s) reply new inv kept none t =
    let held = held_of old (BackUp s) s none _ refl in
    subst (λ r. Shows old (BackUp s) r new) (sym t.0) (
      sym (settles_held old inv s held),
      subst (BacksUp s (option_and_then (λ row. outcome row.standing) (latest s old.log)) old) (sym t.1) (back_up_shows old inv s held (subst Invariant t.1 kept)),
    )
shows_taken old (SerialEnd s (Request number start writes)) reply new inv kept none t = ends (validity_of old s number start writes) t
  where
    may : IsDue old s number
    may = due_request old s number start writes none

    ends : (v : Verdict) → EndsSerially old s number start writes v reply new → Shows old (SerialEnd s (Request number start writes)) reply new
    ends verdicts.Commit t = subst (λ r. Shows old (SerialEnd s (Request number start writes)) r new) (sym t.0) (
      refl,
      subst (Commits s old) (sym t.1)
          (came_done old inv (entering old s number start (reads_under old s number) writes (Done (old.counter + 1))) (apply old.table writes) (old.counter + 1) (finite.remove old.phases (s, number)) may.free may.turn (subst Invariant t.1 kept) refl refl),
    )
    ends (verdicts.BackUp cause) t = subst (λ r. Shows old (SerialEnd s (Request number start writes)) r new) (sym t.0)
        (subst (BacksUp s (Some (verdicts.BackUp cause)) old) (sym t.1)
        (came_back old inv (entering old s number start (reads_under old s number) writes (Back cause)) old.table old.counter (finite.remove old.phases (s, number)) may.free may.turn (subst Invariant t.1 kept) cause refl refl))
shows_taken old (SerialEnd s (Alone number operations)) reply new inv kept none t =
    subst (λ r. Shows old (SerialEnd s (Alone number operations)) r new) (sym t.0) (refl, ran_alone old s number operations reply new inv kept none t)
shows_taken old (SerialEnd s (Close number)) reply new inv kept none t = subst (λ r. Shows old (SerialEnd s (Close number)) r new) (sym t.0) (λ session. ap (λ w. poll w session) t.1)
shows_taken old (RunAlone s number operations) reply new inv kept none t =
    subst (λ r. Shows old (RunAlone s number operations) r new) (sym t.0) (refl, ran_alone old s number operations reply new inv kept none t)
shows_taken old Checkpoint reply new inv kept none t =
    subst (λ r. Shows old Checkpoint r new) (sym t.0) (λ session. subst (λ w. Fades (poll old session) (poll w session)) (sym t.1) (fold_fades old inv (subst Invariant t.1 kept) session))

pub steps_show : StepsShow
steps_show old new event reply inv (refused fault is told same) = subst (λ r. Shows old event r new) (sym told) (λ session. ap (λ w. poll w session) same)
steps_show old new event reply inv (starved none takes told same) = subst (λ r. Shows old event r new) (sym told) (λ session. ap (λ w. poll w session) same)
steps_show old new event reply inv (taken none t) = shows_taken old event reply new inv (keeps old event reply new inv (taken none t)) none t
