-- A row that was decided stands as it was valid at its entry.
use Rattle.std.proofs.Common.{◌≡◌, ℕ, ◌+◌, ◌<◌, ◌≤◌, false, cond, ◌&&◌, ◌||◌, List, [], ◌∷◌, ◌++◌, map, drop, length, Option, None, Some, refl, sym, ap, subst, ◌∙◌, suc, arith, length-append}
use Rattle.std.specs.Prelude.{if◌then◌else◌, ◌==◌, nat_lt, nat_le, slice_get, MatchOption}
use Rattle.std.specs.List.{list_any, AllByRecursion}
use Rattle.std.proofs.lemmas.Bool.{ltb-true, leb-true}
use Rattle.occ_types.specs.Question.{Question}
use Rattle.occ_types.specs.declared.fault.Fault.TheVariants as faults
use Rattle.occ_model.specs.State.{Write, meets_reads, meets_writes, put}
use Rattle.occ_model.specs.Log.{LogRow, Standing, Open, Writing, Done, Back, Case, questions, is_active, Counts}
use Rattle.occ_model.specs.Validity.{finished_within, is_in_the_way, validity, verdict}
use Rattle.occ_model.specs.Operations.{Operation, Progress, perform_all, nothing_yet}
use Rattle.occ_model.specs.World.{World, resumed, low, next_place, latest, turn, reads_under}
use Rattle.occ_model.specs.Event.{Request, Alone, Close, Event, Read, Forget, Enter, Decide, WriteOne, Finish, BackUp, SerialEnd, RunAlone, Checkpoint, Reply}
use Rattle.occ_model.specs.Refusal as refusals
use Rattle.occ_model.specs.Refusal.{refusal, refusal_of_alone}
use Rattle.occ_model.specs.Step.{Step, refused, starved, taken, Taken, Run, entering, validity_of, decided, EndsSerially, RunsAlone, foldable_part, shortened}
use Rattle.occ_model.specs.Invariant.{Invariant}
use Rattle.occ_model.specs.Laws.{StandsAs, Decisions}
use Rattle.occ_model.specs.declared.verdict.Verdict.{Verdict}
use Rattle.occ_model.specs.declared.verdict.Verdict.TheVariants as verdicts
use Rattle.occ_model.specs.declared.verdict.Cause.TheVariants.{Conflict, TooOld}
use Rattle.occ_model.proofs.Tests as tests
use Rattle.occ_model.proofs.Logs.{standing_at}
use Rattle.occ_model.proofs.AtEntry.{verdict-validity}
use Rattle.occ_model.proofs.Turns.{around}
use Rattle.occ_model.proofs.Folds.{part_rest}
use Rattle.occ_model.proofs.Phases.{not_refused}
use Rattle.occ_model.proofs.Admitted.{passed}
use Rattle.occ_model.proofs.Steps.{keeps_run, invariant_resumed}

-- What the log looks like after a step, seen from one place: nothing at it moved but by a legal turn.
module _ (place : ℕ) (valid : LogRow → Verdict) (fixed : (row : LogRow) (standing : Standing) → valid (standing_at row standing) ≡ valid row) where
  abbrev pub Stands : LogRow → Type 0
  Stands row = row.place ≡ place → StandsAs (valid row) row.standing

  abbrev pub AllStand : List LogRow → Type 0
  AllStand log = AllByRecursion Stands log

  pub AllStand-push : (log : List LogRow) (row : LogRow) → AllStand log → Stands row → AllStand (log ++ row ∷ [])
  AllStand-push [] row all last = (last, tt)
  AllStand-push (x ∷ xs) row all last = (all.0, AllStand-push xs row all.1 last)

  pub AllStand-later : (xs ys : List LogRow) → AllStand (xs ++ ys) → AllStand ys
  AllStand-later [] ys all = all
  AllStand-later (x ∷ xs) ys all = AllStand-later xs ys all.1

  AllStand-turn : (before later : List LogRow) (row : LogRow) (standing : Standing) → (StandsAs (valid row) row.standing → StandsAs (valid row) standing)
      → AllStand (before ++ row ∷ later) → AllStand (before ++ standing_at row standing ∷ later)
  AllStand-turn [] later row standing onward all = (λ at. subst (λ v. StandsAs v standing) (sym (fixed row standing)) (onward (all.0 at)), all.1)
  AllStand-turn (x ∷ xs) later row standing onward all = (all.0, AllStand-turn xs later row standing onward all.1)

  -- the latest row of a session turns
  turned : (session : ℕ) (log : List LogRow) (row : LogRow) (standing : Standing) → latest session log ≡ Some row → (StandsAs (valid row) row.standing → StandsAs (valid row) standing)
      → AllStand log → AllStand (turn session standing log)
  turned session log row standing there onward all =
      let r = around session log row standing there in
      subst AllStand (sym r.now) (AllStand-turn r.before r.later row standing onward (subst AllStand r.was all))

  deciding : (v : Verdict) (index : ℕ) (case : Case) (s : Standing) → s ≡ Open index case → StandsAs v s → StandsAs v (decided (verdict case))
  deciding v index case s e stands = go (verdict case) refl
    where
      is : verdict case ≡ v
      is = subst (StandsAs v) e stands

      go : (w : Verdict) → verdict case ≡ w → StandsAs v (decided w)
      go verdicts.Commit f = sym is ∙ f
      go (verdicts.BackUp cause) f = sym is ∙ f

  -- places only grow
  places_grow : (world : World) (row : LogRow) → place < next_place world → place < world.base.place + length (world.log ++ row ∷ [])
  places_grow world row below = let e = length-append world.log (row ∷ []) in omega arith

  -- a row that comes in stands elsewhere
  elsewhere : (world : World) (row : LogRow) → place < next_place world → row.place ≡ next_place world → Stands row
  elsewhere world row below is at = absurd (omega arith)

  length-turn : (session : ℕ) (standing : Standing) (log : List LogRow) → length (turn session standing log) ≡ length log
  length-turn session standing [] = refl
  length-turn session standing (x ∷ xs) = go (latest session xs) (length-turn session standing xs)
    where
      go : (l : Option LogRow) → length (turn session standing xs) ≡ length xs
          → length (elim l as (λ _. List LogRow) [ None ↦ (if x.session == session then record x { standing = standing } else x) ∷ xs | Some later ↦ x ∷ turn session standing xs ]) ≡ suc (length xs)
      go None e = refl
      go (Some later) e = ap suc e

  length-fold : (world : World) → next_place (shortened world) ≡ next_place world
  length-fold world =
      let whole = part_rest (low world) world.log in
      let e = length-append (foldable_part (low world) world.log) (drop (length (foldable_part (low world) world.log)) world.log) in
      let f = ap length whole in
      omega arith

  -- one step further
  abbrev pub Holds : World → Type 0
  Holds world = (place < next_place world) × AllStand world.log

  pub stands_on : (old new : World) (event : Event) (reply : Reply) → Taken old event reply new → Holds old → Holds new
  stands_on old new (Read session number start question) reply t h = subst Holds (sym t.1) h
  stands_on old new (Forget session number) reply t h = subst Holds (sym t.1) h
  stands_on old new (Enter session (Request number start writes)) reply t h = subst Holds (sym t.4)
      (let row : LogRow = entering old session number start (reads_under old session number) writes (Open t.0 t.1) in
      (places_grow old row h.0, AllStand-push old.log row h.1 (elsewhere old row h.0 refl)))
  stands_on old new (Enter session (Alone number operations)) reply t h = subst Holds (sym t.1)
      (let done : Progress = perform_all old.table operations nothing_yet in
      let row : LogRow = entering old session number old.counter done.reads done.writes (Done (old.counter + 1)) in
      (places_grow old row h.0, AllStand-push old.log row h.1 (elsewhere old row h.0 refl)))
  stands_on old new (Enter session (Close number)) reply t h = subst Holds (sym t.1) h
  stands_on old new (Decide session) reply t h = subst Holds (sym t.6) (
    let e = length-turn session (decided (verdict t.2)) old.log in let below = h.0 in omega arith,
    turned session old.log t.0 (decided (verdict t.2)) t.3 (deciding (valid t.0) t.1 t.2 t.0.standing t.4) h.1,
  )
  stands_on old new (WriteOne session) reply t h = go (slice_get t.0.writes t.1) t.4
    where
      go : (o : Option Write) → MatchOption o
          ((reply ≡ Reply.NoMore) × (new ≡ old))
          (λ write. (reply ≡ Reply.Wrote write.0) × (new ≡ record old { table = put old.table write; log = turn session (Writing (t.1 + 1)) old.log })) → Holds new
      go None w = subst Holds (sym w.1) h
      go (Some write) w = subst Holds (sym w.1) (
        let e = length-turn session (Writing (t.1 + 1)) old.log in let below = h.0 in omega arith,
        turned session old.log t.0 (Writing (t.1 + 1)) t.2 (subst (StandsAs (valid t.0)) t.3) h.1,
      )
  stands_on old new (Finish session) reply t h = subst Holds (sym t.5) (
    let e = length-turn session (Done (old.counter + 1)) old.log in let below = h.0 in omega arith,
    turned session old.log t.0 (Done (old.counter + 1)) t.2 (subst (StandsAs (valid t.0)) t.3) h.1,
  )
  stands_on old new (BackUp session) reply t h = subst Holds (sym t.1) h
  stands_on old new (SerialEnd session (Request number start writes)) reply t h = go (validity_of old session number start writes) t
    where
      row : Standing → LogRow
      row standing = entering old session number start (reads_under old session number) writes standing

      go : (v : Verdict) → EndsSerially old session number start writes v reply new → Holds new
      go verdicts.Commit ends = subst Holds (sym ends.1) (places_grow old (row (Done (old.counter + 1))) h.0, AllStand-push old.log (row (Done (old.counter + 1))) h.1 (elsewhere old (row (Done (old.counter + 1))) h.0 refl))
      go (verdicts.BackUp cause) ends = subst Holds (sym ends.1) (places_grow old (row (Back cause)) h.0, AllStand-push old.log (row (Back cause)) h.1 (elsewhere old (row (Back cause)) h.0 refl))
  stands_on old new (SerialEnd session (Alone number operations)) reply t h = subst Holds (sym t.1)
      (let done : Progress = perform_all old.table operations nothing_yet in
      let row : LogRow = entering old session number old.counter done.reads done.writes (Done (old.counter + 1)) in
      (places_grow old row h.0, AllStand-push old.log row h.1 (elsewhere old row h.0 refl)))
  stands_on old new (SerialEnd session (Close number)) reply t h = subst Holds (sym t.1) h
  stands_on old new (RunAlone session number operations) reply t h = subst Holds (sym t.1)
      (let done : Progress = perform_all old.table operations nothing_yet in
      let row : LogRow = entering old session number old.counter done.reads done.writes (Done (old.counter + 1)) in
      (places_grow old row h.0, AllStand-push old.log row h.1 (elsewhere old row h.0 refl)))
  stands_on old new Checkpoint reply t h = subst Holds (sym t.1) (
    let e = length-fold old in let below = h.0 in omega arith,
    AllStand-later (foldable_part (low old) old.log) (drop (length (foldable_part (low old) old.log)) old.log) (subst AllStand (part_rest (low old) old.log) h.1),
  )

-- the places of a log in order lie below the next one
AreBelow : ℕ → List LogRow → Type 0
AreBelow bound log = AllByRecursion (λ row. row.place < bound) log

places_below : (n bound : ℕ) (log : List LogRow) → Counts n (map (λ row. row.place) log) → n + length log ≤ bound → AreBelow bound log
unfolding AreBelow
places_below n bound [] counts up = tt
places_below n bound (row ∷ rows) counts up =
    let is = counts.0 in
    (omega arith, places_below (suc n) bound rows counts.1 (omega arith))

nothing_there : (place : ℕ) (valid : LogRow → Verdict) (fixed : (row : LogRow) (standing : Standing) → valid (standing_at row standing) ≡ valid row) (log : List LogRow) → AreBelow place log → AllStand place valid fixed log
unfolding AreBelow
nothing_there place valid fixed [] below = tt
nothing_there place valid fixed (row ∷ rows) below =
    ((λ at. let less = below.0 in absurd (omega arith)), nothing_there place valid fixed rows below.1)

module _ (old : World) (inv : Invariant old) where
  -- validity, as it was at this entry
  abbrev valid_then : LogRow → Verdict
  valid_then row = validity old.log old.counter (low old) row.start (questions row) row.writes

  fixed_then : (row : LogRow) (standing : Standing) → valid_then (standing_at row standing) ≡ valid_then row
  fixed_then row standing = refl

  abbrev HoldsThen : World → Type 0
  HoldsThen world = Holds (next_place old) valid_then fixed_then world

  before_all : AllStand (next_place old) valid_then fixed_then old.log
  before_all = nothing_there (next_place old) valid_then fixed_then old.log (places_below old.base.place (next_place old) old.log inv.in_order.places (omega arith))

  -- the row itself, and nothing else at its place
  comes : (new : World) (row : LogRow) → new.log ≡ old.log ++ row ∷ [] → next_place new ≡ suc (next_place old) → StandsAs (valid_then row) row.standing → HoldsThen new
  comes new row is grows stands = (omega arith, subst (AllStand (next_place old) valid_then fixed_then) (sym is) (AllStand-push (next_place old) valid_then fixed_then old.log row before_all (λ at. stands)))

  stays : (new : World) → next_place new ≡ next_place old → next_place new ≡ suc (next_place old) → HoldsThen new
  stays new same grows = absurd (omega arith)

  no_room : (number : ℕ) → (nat_lt old.counter number && nat_le number old.counter) ≡ false
  no_room number = tests.decided (nat_lt old.counter number && nat_le number old.counter)
      (λ both.
      let parts = tests.and_true (nat_lt old.counter number) (nat_le number old.counter) both in
      let above = ltb-true old.counter number parts.0 in
      let upto = leb-true number old.counter parts.1 in
      absurd (omega arith))
      (λ e. e)

  -- with the counter for its start and no active row, nothing stands in the way
  none_in_way : (reads : List Question) (writes : List Write) (log : List LogRow) → list_any (λ row. is_active row.standing) log ≡ false → list_any (is_in_the_way old.counter old.counter reads writes) log ≡ false
  none_in_way reads writes [] idle = refl
  none_in_way reads writes (row ∷ rows) idle =
      let parts = tests.or_false (is_active row.standing) _ idle in
      tests.both_false _ _ (out row.standing parts.0) (none_in_way reads writes rows parts.1)
    where
      out : (s : Standing) → is_active s ≡ false
          → ((finished_within old.counter old.counter s && meets_reads row.writes reads) || (is_active s && (meets_reads row.writes reads || meets_writes row.writes writes))) ≡ false
      out (Open index case) e = cc
      out (Writing done) e = cc
      out (Done number) e = ap (λ b. (b && meets_reads row.writes reads) || false) (no_room number)
      out (Back cause) e = refl

  valid_alone : (reads : List Question) (writes : List Write) → list_any (λ row. is_active row.standing) old.log ≡ false → validity old.log old.counter (low old) old.counter reads writes ≡ verdicts.Commit
  valid_alone reads writes idle =
      ap (λ b. cond b (verdicts.BackUp TooOld) (cond (list_any (is_in_the_way old.counter old.counter reads writes) old.log) (verdicts.BackUp Conflict) verdicts.Commit)) in_window
      ∙ ap (λ b. cond b (verdicts.BackUp Conflict) verdicts.Commit) (none_in_way reads writes old.log idle)
    where
      in_window : nat_lt old.counter (low old) ≡ false
      in_window = tests.decided (nat_lt old.counter (low old)) (λ e. let h = ltb-true old.counter (low old) e in absurd (omega arith)) (λ e. e)

  alone : (session number : ℕ) (operations : List Operation) (reply : Reply) (new : World) → refusal_of_alone old session number operations ≡ None → RunsAlone old session number operations reply new → next_place new ≡ suc (next_place old) → HoldsThen new
  alone session number operations reply new none runs grows =
      let a = passed (refusals.no_session old session) _ none in
      let b = passed (refusals.session_closed old session) _ a.1 in
      let c = passed (refusals.not_due old session number) _ b.1 in
      let d = passed (refusals.session_busy old session) _ c.1 in
      let e = passed (refusals.read_open old session number) _ d.1 in
      let f = passed (refusals.store_busy old) _ e.1 in
      let done : Progress = perform_all old.table operations nothing_yet in
      let row : LogRow = entering old session number old.counter done.reads done.writes (Done (old.counter + 1)) in
      comes new row (ap (λ w. w.log) runs.1) grows (valid_alone (questions row) row.writes (not_refused _ faults.StoreBusy f.0))

  serially : (session number start : ℕ) (writes : List Write) (reply : Reply) (new : World) → (v : Verdict) → validity_of old session number start writes ≡ v → EndsSerially old session number start writes v reply new → next_place new ≡ suc (next_place old) → HoldsThen new
  serially session number start writes reply new verdicts.Commit e ends grows =
      let row : LogRow = entering old session number start (reads_under old session number) writes (Done (old.counter + 1)) in
      comes new row (ap (λ w. w.log) ends.1) grows e
  serially session number start writes reply new (verdicts.BackUp cause) e ends grows =
      let row : LogRow = entering old session number start (reads_under old session number) writes (Back cause) in
      comes new row (ap (λ w. w.log) ends.1) grows e

  turned_place : (session : ℕ) (standing : Standing) → old.base.place + length (turn session standing old.log) ≡ next_place old
  turned_place session standing = ap (λ n. old.base.place + n) (length-turn (next_place old) valid_then fixed_then session standing old.log)

  enters_taken : (new : World) (event : Event) (reply : Reply) → refusal old event ≡ None → Taken old event reply new → next_place new ≡ suc (next_place old) → HoldsThen new
  enters_taken new (Read session number start question) reply none t grows = stays new (ap next_place t.1) grows
  enters_taken new (Forget session number) reply none t grows = stays new (ap next_place t.1) grows
  enters_taken new (Enter session (Request number start writes)) reply none t grows =
      let row : LogRow = entering old session number start (reads_under old session number) writes (Open t.0 t.1) in
      comes new row (ap (λ w. w.log) t.4) grows (verdict-validity old.log old.counter (low old) start (questions row) writes t.1 t.2)
  enters_taken new (Enter session (Alone number operations)) reply none t grows = alone session number operations reply new none t grows
  enters_taken new (Enter session (Close number)) reply none t grows = stays new (ap next_place t.1) grows
  enters_taken new (Decide session) reply none t grows = stays new (ap next_place t.6 ∙ turned_place session (decided (verdict t.2))) grows
  enters_taken new (WriteOne session) reply none t grows = go (slice_get t.0.writes t.1) t.4
    where
      go : (o : Option Write) → MatchOption o
          ((reply ≡ Reply.NoMore) × (new ≡ old))
          (λ write. (reply ≡ Reply.Wrote write.0) × (new ≡ record old { table = put old.table write; log = turn session (Writing (t.1 + 1)) old.log })) → HoldsThen new
      go None w = stays new (ap next_place w.1) grows
      go (Some write) w = stays new (ap next_place w.1 ∙ turned_place session (Writing (t.1 + 1))) grows
  enters_taken new (Finish session) reply none t grows = stays new (ap next_place t.5 ∙ turned_place session (Done (old.counter + 1))) grows
  enters_taken new (BackUp session) reply none t grows = stays new (ap next_place t.1) grows
  enters_taken new (SerialEnd session (Request number start writes)) reply none t grows =
      serially session number start writes reply new (validity_of old session number start writes) refl t grows
  enters_taken new (SerialEnd session (Alone number operations)) reply none t grows = alone session number operations reply new none t grows
  enters_taken new (SerialEnd session (Close number)) reply none t grows = stays new (ap next_place t.1) grows
  enters_taken new (RunAlone session number operations) reply none t grows = alone session number operations reply new none t grows
  enters_taken new Checkpoint reply none t grows = stays new (ap next_place t.1 ∙ length-fold (next_place old) valid_then fixed_then old) grows

  enters : (new : World) (event : Event) (reply : Reply) → Step old event reply new → next_place new ≡ suc (next_place old) → HoldsThen new
  enters new event reply (refused fault is told same) grows = stays new (ap next_place same) grows
  enters new event reply (starved none takes told same) grows = stays new (ap next_place same) grows
  enters new event reply (taken none t) grows = enters_taken new event reply none t grows

  stands_run : (events : List (Event × Reply)) (from to : World) → HoldsThen from → Run from events to → HoldsThen to
  stands_run [] from to holds run = subst HoldsThen (sym run) holds
  stands_run (first ∷ others) from to holds run = stands_run others run.0 to (one from run.0 first.0 first.1 holds run.1) run.2
    where
      one : (from to : World) (event : Event) (reply : Reply) → HoldsThen from → Step from event reply to → HoldsThen to
      one from to event reply holds (refused fault is told same) = subst HoldsThen (sym same) holds
      one from to event reply holds (starved none takes told same) = subst HoldsThen (sym same) holds
      one from to event reply holds (taken none t) = stands_on (next_place old) valid_then fixed_then from to event reply t holds

pub decisions : Decisions
decisions settings base counter earlier later entry reply before next last earlier_run step grows later_run =
    let inv = keeps_run earlier (resumed settings base counter) before (invariant_resumed settings base counter) earlier_run in
    (stands_run before inv later next last (enters before inv next entry reply step grows) later_run).1
