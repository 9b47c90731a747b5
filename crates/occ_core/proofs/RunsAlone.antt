-- What a run alone has to show, over plain parts.
use Rattle.std.proofs.Common.{◌≡◌, ℕ, ◌+◌, ◌<◌, Bool, true, false, cond, List, [], ◌∷◌, length, Option, None, Some, Result, Err, refl, sym, ap, subst, ◌∙◌, is_some, slice_get}
use Rattle.std.specs.Ordering.{eq_by_cmp}
use Rattle.std.proofs.lemmas.Bool.{leb-false}
use Rattle.std.specs.Cmp.{Equal-is}
use Rattle.std.specs.FinMap as finite
use Rattle.std.specs.FinMap.{FinMap}
use Rattle.occ_types.specs.declared.fault.Fault.{Fault}
use Rattle.occ_types.specs.declared.fault.Fault.TheVariants as faults
use Rattle.occ_types.specs.declared.limits.TheConstants.{MAX_LOG_ROWS, MAX_COUNTER, MAX_NUMBER}
use Rattle.occ_types.specs.Key.{Key}
use Rattle.occ_types.specs.Object.{Object, object_cmp}
use Rattle.occ_types.specs.Row.{Row}
use Rattle.occ_types.specs.Schema.{Schema, Table, first_fault, check_key, check_key_in}
use Rattle.occ_model.specs.Event.{Event, Reply, Item, Alone, Enter, SerialEnd, RunAlone, RanAlone}
use Rattle.occ_model.specs.Content.{IsLawful}
use Rattle.occ_model.specs.Operations.{Operation, Get, Scan, Put, Delete, Add, Progress, perform, perform_all, nothing_yet}
use Rattle.occ_model.specs.Overlay.{set}
use Rattle.occ_model.specs.Refusal as refusals
use Rattle.occ_model.specs.Refusal.{refusal, refusal_of_alone, refusal_of_close, store_busy, check_operation, check_operations}
use Rattle.occ_model.specs.State.{State, Write}
use Rattle.occ_model.specs.Step.{Step, refused, starved, taken}
use Rattle.occ_model.specs.World.{World, ReadPhase, phase_cmp, active_count}
use Rattle.occ_model.proofs.Phases.{not_refused, phase_cmp_total, phase_cmp-IsAntisymmetric}
use Rattle.occ_model.proofs.Admitted.{passed}
use Rattle.occ_model.proofs.InSchema.{keeps_lawful}
use Rattle.occ_model.proofs.Tests as tests
use Rattle.occ_core.specs.AtOnce.{committed, MayEnd, quiet_fault}
use Rattle.occ_core.specs.EntryFaults.{spare_fault, turn_to_close, log_fault, counter_fault}
use Rattle.occ_core.specs.CoreParts.{Parts, world_of, found_at, AreSound}
use Rattle.occ_core.specs.RunningAlone.{read_open_fault, count_fault, turn_to_run, room_to_run}
use Rattle.occ_log.specs.SessionStates.{active_from}
use Rattle.occ_sets.specs.Sets.{ArePlaced}
use Rattle.occ_core.proofs.Closing.{close_refusal}
use Rattle.occ_core.proofs.Entries.{nest, nest_last, counter_is}
use Rattle.occ_log.proofs.Places.{slice_get-below}
use Rattle.occ_core.proofs.ReadPhases.{nested}
use Rattle.occ_core.proofs.SerialEnding.{quiet_is}

-- When it is refused.

alone_refusal : (parts : Parts) (session number : ℕ) (operations : List Operation) → AreSound parts
    → refusal_of_alone (world_of parts) session number operations
    ≡ first_fault (turn_to_run parts.slots parts.marks (found_at parts) parts.phases session number ∷ room_to_run parts.settings.schema parts.slots (length parts.log) (found_at parts) parts.counter operations ∷ [])
alone_refusal parts session number operations sound =
    sym (nested (refusals.no_session w session) (refusals.session_closed w session) (refusals.not_due w session number) (refusals.session_busy w session) (refusals.read_open w session number ∷ store_busy w ∷ others (refusals.counter_exhausted w)))
    ∙ ap (λ o. first_fault (o ∷ refusals.read_open w session number ∷ store_busy w ∷ others (refusals.counter_exhausted w))) (close_refusal parts session number sound)
    ∙ ap (λ o. first_fault (turn_to_close parts.slots parts.marks session number ∷ refusals.read_open w session number ∷ o ∷ others (refusals.counter_exhausted w))) (quiet_is parts sound)
    ∙ ap (λ o. first_fault (turn_to_close parts.slots parts.marks session number ∷ refusals.read_open w session number ∷ quiet_fault (length (active_from (found_at parts) parts.slots)) ∷ others o)) (counter_is parts sound)
    ∙ sym (nest_last turn room) ∙ sym (nest turn (first_fault room ∷ []))
  where
    w : World
    w = world_of parts

    others : Option Fault → List (Option Fault)
    others o = spare_fault number ∷ count_fault (length operations) ∷ check_operations parts.settings.schema operations ∷ log_fault (length parts.log) ∷ o ∷ []

    turn : List (Option Fault)
    turn = turn_to_close parts.slots parts.marks session number ∷ read_open_fault parts.phases session number ∷ quiet_fault (length (active_from (found_at parts) parts.slots)) ∷ spare_fault number ∷ []

    room : List (Option Fault)
    room = count_fault (length operations) ∷ check_operations parts.settings.schema operations ∷ log_fault (length parts.log) ∷ counter_fault parts.counter (length (active_from (found_at parts) parts.slots)) ∷ []

pub alone_turned : (parts : Parts) (world : World) → world_of parts ≡ world → (session number : ℕ) (operations : List Operation) → AreSound parts → (fault : Fault)
    → turn_to_run parts.slots parts.marks (found_at parts) parts.phases session number ≡ Some fault
    → refusal world (RunAlone session number operations) ≡ Some fault
alone_turned parts world seen session number operations sound fault told =
    ap (λ w. refusal w (RunAlone session number operations)) (sym seen) ∙ alone_refusal parts session number operations sound
    ∙ ap (λ o. first_fault (o ∷ room_to_run parts.settings.schema parts.slots (length parts.log) (found_at parts) parts.counter operations ∷ [])) told

pub alone_roomed : (parts : Parts) (world : World) → world_of parts ≡ world → (session number : ℕ) (operations : List Operation) → AreSound parts
    → turn_to_run parts.slots parts.marks (found_at parts) parts.phases session number ≡ None
    → refusal world (RunAlone session number operations) ≡ room_to_run parts.settings.schema parts.slots (length parts.log) (found_at parts) parts.counter operations
alone_roomed parts world seen session number operations sound free =
    ap (λ w. refusal w (RunAlone session number operations)) (sym seen) ∙ alone_refusal parts session number operations sound
    ∙ ap (λ o. first_fault (o ∷ room_to_run parts.settings.schema parts.slots (length parts.log) (found_at parts) parts.counter operations ∷ [])) free
    ∙ nest_last [] (count_fault (length operations) ∷ check_operations parts.settings.schema operations ∷ log_fault (length parts.log) ∷ counter_fault parts.counter (length (active_from (found_at parts) parts.slots)) ∷ [])

-- Its writes are of tables that there are.

pub key_placed : (schema : Schema) (table : ℕ) (key : Key) → check_key schema table key ≡ None → table < length schema
key_placed schema table key e = at (slice_get schema table) refl e
  where
    at : (o : Option Table) → slice_get schema table ≡ o → (elim o as (λ _. Option Fault) [ None ↦ Some faults.NoTable | Some t ↦ check_key_in t key ]) ≡ None → table < length schema
    at None is e = cc
    at (Some t) is e = slice_get-below schema table t is

placed_more : (tables : ℕ) (writes : List Write) (object : Object) (row : Option Row) → ArePlaced tables writes → object.0 < tables → ArePlaced tables (set writes object row)
placed_more tables [] object row placed own = (own, tt)
placed_more tables (w ∷ ws) object row placed own = at (eq_by_cmp object_cmp object w.0) (placed_more tables ws object row placed.1 own)
  where
    at : (b : Bool) → ArePlaced tables (set ws object row) → ArePlaced tables (cond b ((w.0, row) ∷ ws) (w ∷ set ws object row))
    at true rest = (placed.0, placed.1)
    at false rest = (placed.0, rest)

-- what the first of two tests says
first_passes : (a b : Option Fault) → first_fault (a ∷ b ∷ []) ≡ None → a ≡ None
first_passes None b e = refl
first_passes (Some f) b e = cc

second_passes : (a b : Option Fault) → first_fault (a ∷ b ∷ []) ≡ None → b ≡ None
second_passes None None e = refl
second_passes None (Some f) e = cc
second_passes (Some f) b e = cc

performed_placed : (schema : Schema) (table : State) (operations : List Operation) (so_far : Progress) → check_operations schema operations ≡ None → ArePlaced (length schema) so_far.writes
    → ArePlaced (length schema) (perform_all table operations so_far).writes
performed_placed schema table [] so_far fit placed = placed
performed_placed schema table (Get place key ∷ others) so_far fit placed =
    performed_placed schema table others (perform table (Get place key) so_far) (second_passes _ _ fit) placed
performed_placed schema table (Scan place lower upper ∷ others) so_far fit placed =
    performed_placed schema table others (perform table (Scan place lower upper) so_far) (second_passes _ _ fit) placed
performed_placed schema table (Put place key row ∷ others) so_far fit placed =
    performed_placed schema table others (perform table (Put place key row) so_far) (second_passes _ _ fit)
    (placed_more (length schema) so_far.writes (place, key) (Some row) placed (key_placed schema place key (first_passes _ _ (first_passes _ _ fit))))
performed_placed schema table (Delete place key ∷ others) so_far fit placed =
    performed_placed schema table others (perform table (Delete place key) so_far) (second_passes _ _ fit)
    (placed_more (length schema) so_far.writes (place, key) None placed (key_placed schema place key (first_passes _ _ fit)))
performed_placed schema table (Add place key n ∷ others) so_far fit placed =
    performed_placed schema table others (perform table (Add place key n) so_far) (second_passes _ _ fit)
    (placed_more (length schema) so_far.writes (place, key) _ placed (key_placed schema place key (first_passes _ _ (first_passes _ _ fit))))

-- What it does, where nothing refuses it.

-- where nothing was read under a number, there is no phase to end
none_to_end : (phases : FinMap phase_cmp ReadPhase) (key : ℕ × ℕ) → finite.contains_key phases key ≡ false → finite.remove phases key ≡ phases
none_to_end phases key none = finite.same_map phase_cmp_total phase_cmp-IsAntisymmetric (finite.remove phases key) phases (λ q.
    finite.get-remove phase_cmp_total phases key q
    ∙ tests.decided (eq_by_cmp phase_cmp q key)
    (λ yes. ap (λ b. cond b None (finite.get phases q)) yes ∙ sym (absent (finite.get phases key) none) ∙ ap (finite.get phases) (sym (phase_cmp-IsAntisymmetric q key ((Equal-is (phase_cmp q key)).0 yes))))
    (λ no. ap (λ b. cond b None (finite.get phases q)) no))
  where
    absent : (o : Option ReadPhase) → is_some o ≡ false → o ≡ None
    absent None e = refl
    absent (Some phase) e = cc

module _ (w : World) (session number : ℕ) (operations : List Operation) (none : refusal w (RunAlone session number operations) ≡ None) where
  abbrev done : Progress
  done = perform_all w.table operations nothing_yet

  -- what each guard that matters says
  record Admitted : Type 0 where
    pub room : MayEnd w session number
    pub unread : finite.contains_key w.phases (session, number) ≡ false
    pub fit : check_operations w.settings.schema operations ≡ None

  admitted : Admitted
  admitted =
      let a = passed (refusals.no_session w session) _ none in
      let b = passed (refusals.session_closed w session) _ a.1 in
      let c = passed (refusals.not_due w session number) _ b.1 in
      let d = passed (refusals.session_busy w session) _ c.1 in
      let e = passed (refusals.read_open w session number) _ d.1 in
      let f = passed (store_busy w) _ e.1 in
      let g = passed (refusals.numbers_exhausted number) _ f.1 in
      let h = passed (count_fault (length operations)) _ g.1 in
      let i = passed (check_operations w.settings.schema operations) _ h.1 in
      let j = passed (refusals.log_full w) _ i.1 in
      let k = passed (refusals.counter_exhausted w) _ j.1 in
      record {
        room = record {
          exists = tests.not_false _ (not_refused _ faults.NoSession a.0);
          free = not_refused _ faults.SessionBusy d.0;
          number_fits = leb-false MAX_NUMBER number (not_refused _ faults.NumbersExhausted g.0);
          log_room = leb-false MAX_LOG_ROWS (length w.log) (not_refused _ faults.LogFull j.0);
          counter_room = leb-false MAX_COUNTER (w.counter + active_count w) (not_refused _ faults.CounterExhausted k.0);
        };
        unread = not_refused _ faults.ReadOpen e.0;
        fit = i.0;
      }

  pub alone_room : MayEnd w session number
  alone_room = admitted.room

  pub alone_placed : (writes : List Write) → writes ≡ done.writes → ArePlaced (length w.settings.schema) writes
  alone_placed writes is = subst (ArePlaced (length w.settings.schema)) (sym is) (performed_placed w.settings.schema w.table operations nothing_yet admitted.fit tt)

  alone_step : Step w (RunAlone session number operations) (RanAlone (w.counter + 1) done.answers) (committed w session number w.counter done.reads done.writes)
  alone_step = taken none (refl, ap (λ p. record (committed w session number w.counter done.reads done.writes) { phases = p }) (none_to_end w.phases (session, number) admitted.unread))

  module _ (start : ℕ) (start_is : start ≡ w.counter) (progress : Progress) (is : progress ≡ done) where
    commits : committed w session number start progress.reads progress.writes ≡ committed w session number w.counter done.reads done.writes
    commits = λ i. committed w session number (start_is i) (is i).reads (is i).writes

    pub alone_lawful : IsLawful w → IsLawful (committed w session number start progress.reads progress.writes)
    alone_lawful inv = subst IsLawful (sym commits)
        (keeps_lawful w (RunAlone session number operations) (RanAlone (w.counter + 1) done.answers) (committed w session number w.counter done.reads done.writes) inv alone_step)

    pub alone_returns : (answer : ℕ) → answer ≡ w.counter + 1 → (new : World) → new ≡ committed w session number start progress.reads progress.writes
        → Step w (RunAlone session number operations) (RanAlone answer progress.answers) new
    alone_returns answer answer_is new new_is =
        subst (Step w (RunAlone session number operations) (RanAlone answer progress.answers)) (sym (new_is ∙ commits))
        (subst (λ r. Step w (RunAlone session number operations) r (committed w session number w.counter done.reads done.writes)) (λ i. RanAlone (sym answer_is i) (sym is i).answers) alone_step)

-- Operations that are handed in as an item run as they do by themselves.

pub alone_entered : (old new : World) (session number : ℕ) (operations : List Operation) (reply : Reply) → Step old (RunAlone session number operations) reply new → Step old (Enter session (Alone number operations)) reply new
alone_entered old new session number operations reply (refused fault why said same) = refused fault why said same
alone_entered old new session number operations reply (starved none takes said same) = starved none takes said same
alone_entered old new session number operations reply (taken none does) = taken none does

pub alone_ended : (old new : World) (session number : ℕ) (operations : List Operation) (reply : Reply) → Step old (RunAlone session number operations) reply new → Step old (SerialEnd session (Alone number operations)) reply new
alone_ended old new session number operations reply (refused fault why said same) = refused fault why said same
alone_ended old new session number operations reply (starved none takes said same) = starved none takes said same
alone_ended old new session number operations reply (taken none does) = taken none does

-- the entry of operations is that of the item which they are
pub alone_of : (old new : World) (session : ℕ) (item own : Item) (reply : Reply) → Step old (Enter session own) reply new → own ≡ item → Step old (Enter session item) reply new
alone_of old new session item own reply step is = subst (λ i. Step old (Enter session i) reply new) is step

-- the run of operations is that of the list which they are
pub run_of : (old new : World) (session number : ℕ) (given own : List Operation) (reply : Reply) → Step old (RunAlone session number given) reply new → given ≡ own → Step old (RunAlone session number own) reply new
run_of old new session number given own reply step is = subst (λ o. Step old (RunAlone session number o) reply new) is step
