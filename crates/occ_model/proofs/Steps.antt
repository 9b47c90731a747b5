-- Each step keeps the invariant.
use Rattle.std.proofs.Common.{◌≡◌, ℕ, ◌≤◌, Bool, true, false, List, [], ◌∷◌, drop, length, None, Some, refl, sym, ap, subst, ◌∙◌, inl, arith, not}
use Rattle.std.specs.Prelude.{nat_lt}
use Rattle.std.proofs.lemmas.Bool.{ltb-false}
use Rattle.std.specs.Ordering.{nat_cmp}
use Rattle.std.specs.FinMap as finite
use Rattle.std.specs.FinSet as sets
use Rattle.occ_types.specs.Schema.{fault_if}
use Rattle.occ_types.specs.declared.fault.Fault.TheVariants as faults
use Rattle.occ_model.specs.State.{State, Write, apply}
use Rattle.occ_model.specs.Log.{LogRow, Standing, Open, Writing, Done, Back, rest, remaining, after, serial, settled, is_writing, Explained, Quiet, Base, InOrder, Audited}
use Rattle.occ_model.specs.World.{Settings, World, ReadPhase, resumed, low, latest, is_held, phase_cmp}
use Rattle.occ_model.specs.Event.{Request, Alone, Close, Event, Read, Forget, Enter, Decide, WriteOne, Finish, BackUp, SerialEnd, RunAlone, Checkpoint, Reply}
use Rattle.occ_model.specs.Refusal as refusals
use Rattle.occ_model.specs.Refusal.{refusal}
use Rattle.occ_model.specs.Step.{Step, refused, starved, taken, Taken, Run, foldable_part, shortened}
use Rattle.occ_model.specs.Invariant.{Chained, is_touched, NumbersAreBelow, OneUnderWay, ActiveAreHeld, Invariant}
use Rattle.occ_model.proofs.Tests as tests
use Rattle.occ_model.proofs.Logs.{committed_sound, serial-append, settled-append}
use Rattle.occ_model.proofs.Folds as folds
use Rattle.occ_model.proofs.Phases.{IsFresh-step, not_refused}
use Rattle.occ_model.proofs.Admitted.{passed, admitted}
use Rattle.occ_model.proofs.Arrivals.{keeps_read, keeps_forget, keeps_close, keeps_enter}
use Rattle.occ_model.proofs.WritePhases.{keeps_back, keeps_decide, keeps_write, keeps_finish}
use Rattle.occ_model.proofs.AtOnce.{keeps_serial, keeps_alone}

keeps_fold : (old : World) → Invariant old → Invariant (shortened old)
keeps_fold old inv =
    let part = foldable_part (low old) old.log in
    let rows = drop (length part) old.log in
    let whole = folds.part_rest (low old) old.log in
    let can = folds.part_foldable (low old) old.log in
    record {
      replayed = sym (ap (λ s. settled s rows) (folds.settled-foldable (low old) old.table part can)) ∙ sym (settled-append old.table part rows) ∙ ap (settled old.table) (sym whole)
          ∙ inv.replayed ∙ ap (serial old.base.state) whole ∙ serial-append old.base.state part rows;
      chained = folds.Chained-later old.base.state part rows (subst (Chained old.base.state) whole inv.chained);
      fresh = λ s n phase at. IsFresh-step old (shortened old) (omega arith) (omega arith)
          (λ start question begun inside touched. folds.is_touched-later (low old) start question part rows inside can (subst (λ l. is_touched start question l ≡ true) whole touched))
          (λ start question begun. inl refl) phase (inv.fresh s n phase at);
      below = folds.NumbersAreBelow-later old.counter part rows (subst (NumbersAreBelow old.counter) whole inv.below);
      in_order = folds.InOrder-fold old.base old.marks part rows (subst (InOrder old.base old.marks) whole inv.in_order);
      one_under_way = folds.OneUnderWay-later part rows (subst OneUnderWay whole inv.one_under_way);
      active_held = folds.ActiveAreHeld-later old.held part rows (subst (ActiveAreHeld old.held) whole inv.active_held);
      held_under_way = λ s held row is. inv.held_under_way s held row (ap (latest s) whole ∙ folds.latest-later s row part rows is);
      held_entered = λ s held. subst (λ n. 1 ≤ n) (folds.entered_folded old.base old.marks part rows old.log whole inv.in_order s) (inv.held_entered s held);
    }

-- Every event that is taken keeps the invariant.
keeps_taken : (old : World) (event : Event) (reply : Reply) (new : World) → Invariant old → refusal old event ≡ None → Taken old event reply new → Invariant new
keeps_taken old (Read session number start question) reply new inv none t = subst Invariant (sym t.1) (keeps_read old session number start question inv none)
keeps_taken old (Forget session number) reply new inv none t = subst Invariant (sym t.1) (keeps_forget old session number inv)
keeps_taken old (Enter session (Request number start writes)) reply new inv none t =
    subst Invariant (sym t.4) (keeps_enter old session number start writes t.0 t.1 t.2 inv (admitted old None session number start writes none).0)
keeps_taken old (Enter session (Alone number operations)) reply new inv none t = keeps_alone old session number operations reply new inv none t
keeps_taken old (Enter session (Close number)) reply new inv none t = subst Invariant (sym t.1) (keeps_close old session number inv none)
keeps_taken old (Decide session) reply new inv none t = subst Invariant (sym t.6) (keeps_decide old inv session t.1 t.2 t.0 t.3 t.4)
keeps_taken old (WriteOne session) reply new inv none t = keeps_write old inv session t.1 t.0 t.2 t.3 reply new t.4
keeps_taken old (Finish session) reply new inv none t =
    let a = passed (refusals.no_session old session) _ none in
    let b = passed (refusals.nothing_entered old session) _ a.1 in
    let c = passed (refusals.not_decided old session) _ b.1 in
    let d = passed (fault_if (refusals.row_is_back old session) faults.AlreadyDecided) _ c.1 in
    let e = passed (fault_if (refusals.has_writes_left old session) faults.WritesLeft) _ d.1 in
    let none_left : nat_lt 0 (length (rest t.0)) ≡ false = sym (ap (λ l. elim l as (λ _. Bool) [ None ↦ false | Some row ↦ nat_lt 0 (length (rest row)) ]) t.2) ∙ not_refused _ faults.WritesLeft e.0 in
    subst Invariant (sym t.5) (keeps_finish old inv session t.1 t.0 t.2 t.3 (nothing (rest t.0) (ltb-false 0 (length (rest t.0)) none_left)))
  where
    nothing : (ws : List Write) → length ws ≤ 0 → ws ≡ []
    nothing [] h = refl
    nothing (w ∷ ws) h = absurd (omega arith)
keeps_taken old (BackUp session) reply new inv none t =
    let a = passed (refusals.no_session old session) _ none in
    let b = passed (refusals.nothing_entered old session) _ a.1 in
    let c = passed (refusals.not_decided old session) _ b.1 in
    let d = passed (fault_if (not (refusals.row_is_back old session)) faults.AlreadyDecided) _ c.1 in
    subst Invariant (sym t.1) (keeps_back old session inv (tests.not_false _ (not_refused _ faults.AlreadyDecided d.0)))
keeps_taken old (SerialEnd session (Request number start writes)) reply new inv none t = keeps_serial old session number start writes reply new inv none t
keeps_taken old (SerialEnd session (Alone number operations)) reply new inv none t = keeps_alone old session number operations reply new inv none t
keeps_taken old (SerialEnd session (Close number)) reply new inv none t = subst Invariant (sym t.1) (keeps_close old session number inv none)
keeps_taken old (RunAlone session number operations) reply new inv none t = keeps_alone old session number operations reply new inv none t
keeps_taken old Checkpoint reply new inv none t = subst Invariant (sym t.1) (keeps_fold old inv)

-- Each step keeps the invariant.
pub keeps : (old : World) (event : Event) (reply : Reply) (new : World) → Invariant old → Step old event reply new → Invariant new
keeps old event reply new inv (refused fault is told same) = subst Invariant (sym same) inv
keeps old event reply new inv (starved none takes told same) = subst Invariant (sym same) inv
keeps old event reply new inv (taken none t) = keeps_taken old event reply new inv none t

pub keeps_run : (events : List (Event × Reply)) (old new : World) → Invariant old → Run old events new → Invariant new
keeps_run [] old new inv run = subst Invariant (sym run) inv
keeps_run (first ∷ others) old new inv run = keeps_run others run.0 new (keeps old first.0 first.1 run.0 inv run.1) run.2

-- A store that goes on from a base has it, and so has one that was just opened.
pub invariant_resumed : (settings : Settings) (base : Base) (counter : ℕ) → Invariant (resumed settings base counter)
invariant_resumed settings base counter = record {
  replayed = refl;
  chained = tt;
  fresh = λ s n phase is. absurd (no_phase (sym (finite.get-empty phase_cmp (s, n)) ∙ is));
  below = tt;
  in_order = record { places = tt; numbered = λ s. tt; closed = λ s mark is. absurd (no_number (sym (finite.get-empty nat_cmp s) ∙ is)) };
  one_under_way = tt;
  active_held = tt;
  held_under_way = λ s held row is. absurd (no_row is);
  held_entered = λ s held. tests.clash (is_held (resumed settings base counter) s) held (sets.contains-empty nat_cmp s);
}
  where
    no_phase : {phase : ReadPhase} → None ≡ Some phase → ⊥
    no_phase e = cc

    no_number : {n : ℕ} → None ≡ Some n → ⊥
    no_number e = cc

    no_row : {row : LogRow} → None ≡ Some row → ⊥
    no_row e = cc

-- What the invariant says of the log: the whole claim.

explained_from : (state : State) (log : List LogRow) → Chained state log → Explained state log
explained_from state [] chained = tt
explained_from state (row ∷ rows) chained = (λ is. chained.0 (committed_sound row.standing is), explained_from (after state row) rows chained.2)

pub audited : (world : World) → Invariant world → Audited world.base world.marks world.table world.log
audited world inv = record { in_order = inv.in_order; explained = explained_from world.base.state world.log inv.chained; replayed = inv.replayed }

-- where no write phase is open, the table itself is the replay
pub settled_quiet : (table : State) (log : List LogRow) → Quiet log → settled table log ≡ table
settled_quiet table [] quiet = refl
settled_quiet table (row ∷ rows) quiet = ap (λ w. settled (apply table w) rows) (none row.standing quiet.0) ∙ settled_quiet table rows quiet.1
  where
    none : (s : Standing) → is_writing s ≡ false → remaining row.writes s ≡ []
    none (Open index case) e = refl
    none (Writing done) e = cc
    none (Done number) e = refl
    none (Back cause) e = refl
