-- The worked examples.
use Rattle.std.proofs.Common.{◌≡◌, ℕ, ◌+◌, Bool, true, false, cond, not, List, [], ◌∷◌, ◌++◌, map, length, Option, None, Some, refl, sym, ap, ◌∙◌}
use Rattle.std.specs.Ordering.{nat_cmp}
use Rattle.std.specs.Cmp.{nat_cmp_total}
use Rattle.std.specs.FinMap as finite
use Rattle.std.specs.FinSet as sets
use Rattle.std.specs.FinMap.{FinMap}
use Rattle.std.specs.FinSet.{FinSet}
use Rattle.occ_types.specs.declared.fault.Fault.{Fault}
use Rattle.occ_types.specs.declared.fault.Fault.TheVariants as faults
use Rattle.occ_types.specs.Schema.{fault_if, first_fault}
use Rattle.occ_types.specs.Object.{object_cmp}
use Rattle.occ_types.specs.Question.{asks}
use Rattle.occ_types.specs.Row.{Row}
use Rattle.occ_model.specs.State.{State, Write, Found, Observation, answer, put}
use Rattle.occ_model.specs.Log.{LogRow, Standing, Open, Writing, Done, Case}
use Rattle.occ_model.specs.Validity.{case_at, window_low}
use Rattle.occ_model.specs.World.{World, ReadPhase, opened, empty_base, reads_under, phase_cmp}
use Rattle.occ_model.specs.Event.{Request, Enter, Entered}
use Rattle.occ_model.specs.Refusal.{refusal, wrong_start}
use Rattle.occ_model.specs.Step.{Step, taken}
use Rattle.occ_model.specs.Examples.{settings, keeps_one, at, puts, deletes, entered_at, OneCommit, LostUpdate, EntryOrder, RangeEnds, AbsentDeletion, BlindWrite, LateVerdict, BeforeWindow}
use Rattle.occ_model.proofs.States.{get-put, same_state}
use Rattle.occ_model.proofs.Phases.{phase_cmp_total}

-- One commit.

-- what the transaction writes
abbrev writes : List Write
writes = puts 7 70 ∷ []

-- the world of the example: the reads and the standing of its row, the table, the counter and the held sessions
abbrev world_of : List Observation → Standing → State → ℕ → FinSet nat_cmp → World
world_of reads standing table counter held = record {
  settings = settings;
  base = empty_base;
  log = entered_at 0 0 reads writes standing ∷ [];
  table = table;
  counter = counter;
  marks = finite.empty;
  phases = finite.remove finite.empty (1, 1);
  held = held;
}

-- session 1 is held
abbrev held_by_1 : FinSet nat_cmp
held_by_1 = sets.insert sets.empty 1

-- the world after its entry, with what was read before
abbrev after_enter : List Observation → World
after_enter reads = world_of reads (Open 0 (case_at [] 0 0 0 [] writes)) finite.empty 0 held_by_1

-- after its verdict
abbrev after_decide : World
after_decide = world_of [] (Writing 0) finite.empty 0 held_by_1

-- after its one write
abbrev after_write : World
after_write = world_of [] (Writing 1) (put finite.empty (puts 7 70)) 0 held_by_1

-- and after its end
abbrev after_finish : World
after_finish = world_of [] (Done 1) (put finite.empty (puts 7 70)) 1 (sets.remove held_by_1 1)

-- nothing was read
nothing_read : reads_under (opened settings) 1 1 ≡ []
nothing_read = ap (λ o. elim o as (λ _. List Observation) [ None ↦ [] | Some phase ↦ phase.reads ]) (finite.get-empty {X = ReadPhase} phase_cmp (1, 1))

-- session 1 is held there
held_is : sets.contains held_by_1 1 ≡ true
held_is = sets.contains-insert nat_cmp_total sets.empty 1 1

-- a request is not refused where there is no mark, no earlier number, no held session and no read phase
may_enter : refusal (opened settings) (Enter 1 (Request 1 0 writes)) ≡ None
may_enter = simp (finite.get-empty, sets.contains-empty, wrong_start)

-- the session is held, and so each event of its transaction is let through
let_through : (held : Bool) (others : List (Option Fault)) → held ≡ true → first_fault others ≡ None → first_fault (fault_if (not held) faults.NothingEntered ∷ others) ≡ None
let_through held others is none = ap (λ b. first_fault (fault_if (not b) faults.NothingEntered ∷ others)) is ∙ none

-- the four steps, one after another
pub one_commit : OneCommit
one_commit = (
  after_finish,
  (
    after_enter [],
    taken may_enter (
      0,
      case_at [] 0 0 0 [] writes,
      record { start_is = refl; low_is = refl; reads_are = ap (map (λ o. o.0)) (sym nothing_read); writes_are = refl; finished = λ test. refl; active = λ test. refl },
      refl,
      sym (ap after_enter nothing_read),
    ),
    (
      after_decide,
      taken (let_through (sets.contains held_by_1 1) _ held_is refl) (entered_at 0 0 [] writes (Open 0 (case_at [] 0 0 0 [] writes)), 0, case_at [] 0 0 0 [] writes, refl, refl, refl, refl),
      (
        after_write,
        taken (let_through (sets.contains held_by_1 1) _ held_is refl) (entered_at 0 0 [] writes (Writing 0), 0, refl, refl, (refl, refl)),
        (after_finish, taken (let_through (sets.contains held_by_1 1) _ held_is refl) (entered_at 0 0 [] writes (Writing 1), 1, refl, refl, refl, refl), refl),
      ),
    ),
  ),
  get-put finite.empty (puts 7 70) (at 7),
  refl,
  refl,
  sets.contains-remove nat_cmp_total held_by_1 1 1,
)

-- What is valid and what conflicts: computed.

-- the finished write meets what was read
pub lost_update : LostUpdate
unfolding asks
lost_update = refl

-- the lower end is asked for, the upper end is not
pub range_ends : RangeEnds
unfolding asks
range_ends = (refl, refl)

-- only an open write phase stands in the way of a write
pub blind_write : BlindWrite
unfolding asks
blind_write = (refl, refl)

-- the start is tested first
pub before_window : BeforeWindow
before_window = (refl, refl)

-- nothing taken from nothing is nothing
still_none : (b : Bool) (x : Option Row) → x ≡ None → cond b None x ≡ x
still_none true x e = sym e
still_none false x e = refl

-- nothing is taken away, and the key is in the range
pub absent_deletion : AbsentDeletion
unfolding asks
absent_deletion = (
  same_state (put finite.empty (deletes 5)) finite.empty (λ object. get-put finite.empty (deletes 5) object ∙ still_none _ (finite.get finite.empty object) (finite.get-empty object_cmp object)),
  refl,
)

-- The order of entry.

-- no row is not a row
found_some : {row : Row} → Found None ≡ Found (Some row) → ⊥
found_some e = cc

-- the answer is that of the empty table, and not the one after the other's write
pub entry_order : EntryOrder
unfolding answer
entry_order = (
  ((λ e. (ap Found (sym (finite.get-empty object_cmp (at 1))), tt)), (λ e. tt, tt)),
  λ h. found_some ((h.1.0 refl).0 ∙ ap Found (get-put finite.empty (puts 1 10) (at 1))),
)

-- A late verdict.

-- the worlds of that run: the log, the counter, the read phases and the held sessions
abbrev late_world : List LogRow → ℕ → FinMap phase_cmp ReadPhase → FinSet nat_cmp → World
late_world log counter phases held = record {
  settings = keeps_one;
  base = empty_base;
  log = log;
  table = finite.empty;
  counter = counter;
  marks = finite.empty;
  phases = phases;
  held = held;
}

-- a row that entered there, with nothing read
abbrev late_row : ℕ → ℕ → ℕ → ℕ → ℕ → List Write → Standing → LogRow
late_row place session number start finish ws standing = record {
  place = place;
  session = session;
  number = number;
  start = start;
  finish = finish;
  reads = [];
  writes = ws;
  standing = standing;
}

-- an entry with nothing read
enters : (log : List LogRow) (counter : ℕ) (phases : FinMap phase_cmp ReadPhase) (held : FinSet nat_cmp) (session number start : ℕ) (ws : List Write) (index : ℕ)
    → refusal (late_world log counter phases held) (Enter session (Request number start ws)) ≡ None
    → finite.get phases (session, number) ≡ None
    → Step (late_world log counter phases held) (Enter session (Request number start ws)) (Entered (0 + length log) index)
    (late_world (log ++ late_row (0 + length log) session number start counter ws (Open index (case_at log counter (window_low counter 1) start [] ws)) ∷ [])
    counter (finite.remove phases (session, number)) (sets.insert held session))
enters log counter phases held session number start ws index may none =
    taken may (
      index,
      case_at log counter (window_low counter 1) start [] ws,
      record { start_is = refl; low_is = refl; reads_are = ap (map (λ o. o.0)) (sym read); writes_are = refl; finished = λ test. refl; active = λ test. refl },
      refl,
      sym (ap with_reads read),
    )
  where
    read : (elim (finite.get phases (session, number)) as (λ _. List Observation) [ None ↦ [] | Some phase ↦ phase.reads ]) ≡ []
    read = ap (λ o. elim o as (λ _. List Observation) [ None ↦ [] | Some phase ↦ phase.reads ]) none

    with_reads : List Observation → World
    with_reads reads = late_world
        (log ++ record (late_row (0 + length log) session number start counter ws (Open index (case_at log counter (window_low counter 1) start [] ws))) { reads = reads } ∷ [])
        counter (finite.remove phases (session, number)) (sets.insert held session)

-- what was missing is missing after a test
none_left : (b : Bool) (x : Option ReadPhase) → x ≡ None → cond b None x ≡ None
none_left true x e = refl
none_left false x e = e

-- where a phase is not, it is not after another one went
still_no_phase : (phases : FinMap phase_cmp ReadPhase) (gone key : ℕ × ℕ) → finite.get phases key ≡ None → finite.get (finite.remove phases gone) key ≡ None
still_no_phase phases gone key none =
    finite.get-remove phase_cmp_total phases gone key ∙ none_left _ (finite.get phases key) none

-- at first there is no read phase
no_phase : (key : ℕ × ℕ) → finite.get (finite.empty {X = ReadPhase} {R = phase_cmp}) key ≡ None
no_phase key = finite.get-empty phase_cmp key

-- the phases after the first entry
abbrev phases_1 : FinMap phase_cmp ReadPhase
phases_1 = finite.remove finite.empty (1, 1)

-- the phases after the second entry
abbrev phases_2 : FinMap phase_cmp ReadPhase
phases_2 = finite.remove phases_1 (2, 1)

-- the phases after the third entry
abbrev phases_3 : FinMap phase_cmp ReadPhase
phases_3 = finite.remove phases_2 (2, 2)

-- both sessions are held
abbrev both_held : FinSet nat_cmp
both_held = sets.insert held_by_1 2

-- session 1 alone, after the end of the other
abbrev one_held : FinSet nat_cmp
one_held = sets.remove both_held 2

-- both, as session 2 has entered again
abbrev both_again : FinSet nat_cmp
both_again = sets.insert one_held 2

-- session 1 alone, at the end
abbrev one_again : FinSet nat_cmp
one_again = sets.remove both_again 2

-- session 2 is free as it enters first
two_is_free : sets.contains held_by_1 2 ≡ false
two_is_free = sets.contains-insert nat_cmp_total sets.empty 1 2 ∙ sets.contains-empty nat_cmp 2

-- and as it enters again
two_is_free_again : sets.contains one_held 2 ≡ false
two_is_free_again = sets.contains-remove nat_cmp_total both_held 2 2

-- session 1 is held all the time
one_is_held : sets.contains one_again 1 ≡ true
one_is_held = sets.contains-remove nat_cmp_total both_again 2 1 ∙ sets.contains-insert nat_cmp_total one_held 2 1
    ∙ sets.contains-remove nat_cmp_total both_held 2 1 ∙ sets.contains-insert nat_cmp_total held_by_1 2 1 ∙ held_is

-- the first row, as it stands by and by
abbrev row_1 : Standing → LogRow
row_1 standing = late_row 0 1 1 0 0 writes standing

-- the case of the first entry
abbrev case_1 : Case
case_1 = case_at [] 0 0 0 [] writes

-- the second row
abbrev row_2 : Standing → LogRow
row_2 standing = late_row 1 2 1 0 0 [] standing

-- the case of the second entry
abbrev case_2 : Case
case_2 = case_at (row_1 (Open 0 case_1) ∷ []) 0 0 0 [] []

-- the third row
abbrev row_3 : Standing → LogRow
row_3 standing = late_row 2 2 2 1 1 [] standing

-- the case of the third entry
abbrev case_3 : Case
case_3 = case_at (row_1 (Open 0 case_1) ∷ row_2 (Done 1) ∷ []) 1 0 1 [] []

-- the first entry is not refused
first_may : refusal (late_world [] 0 finite.empty sets.empty) (Enter 1 (Request 1 0 writes)) ≡ None
first_may = simp (finite.get-empty, sets.contains-empty, wrong_start)

-- nor is the second
second_may : refusal (late_world (row_1 (Open 0 case_1) ∷ []) 0 phases_1 held_by_1) (Enter 2 (Request 1 0 [])) ≡ None
second_may = simp (finite.get-empty, still_no_phase finite.empty (1, 1) (2, 1) (no_phase (2, 1)), two_is_free, wrong_start)

-- nor is the third
third_may : refusal (late_world (row_1 (Open 0 case_1) ∷ row_2 (Done 1) ∷ []) 1 phases_2 one_held) (Enter 2 (Request 2 1 [])) ≡ None
third_may = simp (finite.get-empty, still_no_phase phases_1 (2, 1) (2, 2) (still_no_phase finite.empty (1, 1) (2, 2) (no_phase (2, 2))), two_is_free_again, wrong_start)

-- the eight steps, one after another
pub late_verdict : LateVerdict
late_verdict = (
  late_world (row_1 (Writing 0) ∷ row_2 (Done 1) ∷ row_3 (Done 2) ∷ []) 2 phases_3 one_again,
  (
    _,
    enters [] 0 finite.empty sets.empty 1 1 0 writes 0 first_may (no_phase (1, 1)),
    (
      _,
      enters (row_1 (Open 0 case_1) ∷ []) 0 phases_1 held_by_1 2 1 0 [] 1 second_may (still_no_phase finite.empty (1, 1) (2, 1) (no_phase (2, 1))),
      (
        late_world (row_1 (Open 0 case_1) ∷ row_2 (Writing 0) ∷ []) 0 phases_2 both_held,
        taken (let_through (sets.contains both_held 2) _ (sets.contains-insert nat_cmp_total held_by_1 2 2) refl) (row_2 (Open 1 case_2), 1, case_2, refl, refl, refl, refl),
        (
          late_world (row_1 (Open 0 case_1) ∷ row_2 (Done 1) ∷ []) 1 phases_2 one_held,
          taken (let_through (sets.contains both_held 2) _ (sets.contains-insert nat_cmp_total held_by_1 2 2) refl) (row_2 (Writing 0), 0, refl, refl, refl, refl),
          (
            _,
            enters (row_1 (Open 0 case_1) ∷ row_2 (Done 1) ∷ []) 1 phases_2 one_held 2 2 1 [] 2 third_may (still_no_phase phases_1 (2, 1) (2, 2) (still_no_phase finite.empty (1, 1) (2, 2) (no_phase (2, 2)))),
            (
              late_world (row_1 (Open 0 case_1) ∷ row_2 (Done 1) ∷ row_3 (Writing 0) ∷ []) 1 phases_3 both_again,
              taken (let_through (sets.contains both_again 2) _ (sets.contains-insert nat_cmp_total one_held 2 2) refl) (row_3 (Open 2 case_3), 2, case_3, refl, refl, refl, refl),
              (
                late_world (row_1 (Open 0 case_1) ∷ row_2 (Done 1) ∷ row_3 (Done 2) ∷ []) 2 phases_3 one_again,
                taken (let_through (sets.contains both_again 2) _ (sets.contains-insert nat_cmp_total one_held 2 2) refl) (row_3 (Writing 0), 0, refl, refl, refl, refl),
                (
                  late_world (row_1 (Writing 0) ∷ row_2 (Done 1) ∷ row_3 (Done 2) ∷ []) 2 phases_3 one_again,
                  taken (let_through (sets.contains one_again 1) _ one_is_held refl) (row_1 (Open 0 case_1), 0, case_1, refl, refl, refl, refl),
                  refl,
                ),
              ),
            ),
          ),
        ),
      ),
    ),
  ),
  refl,
  λ session number ws. refl,
)
