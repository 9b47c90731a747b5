-- A serial end is its parts, at once.
use Rattle.std.proofs.Common.{◌≡◌, ℕ, ◌+◌, Bool, true, false, not, ◌&&◌, ◌||◌, List, [], ◌∷◌, ◌++◌, drop, length, Option, None, Some, refl, sym, ap, subst, ◌∙◌, append_assoc, length-append, eqb-true, eq-eqb}
use Rattle.std.specs.Prelude.{if◌then◌else◌, ◌==◌, nat_lt, slice_get, MatchOption}
use Rattle.std.specs.Ordering.{nat_cmp, eq_by_cmp}
use Rattle.std.specs.Cmp.{nat_cmp_total}
use Rattle.std.specs.FinMap as finite
use Rattle.std.specs.FinSet as sets
use Rattle.std.specs.FinSet.{FinSet, nat_cmp-IsAntisymmetric}
use Rattle.occ_types.specs.Schema.{fault_if, first_fault}
use Rattle.occ_types.specs.declared.fault.Fault.{Fault}
use Rattle.occ_types.specs.declared.fault.Fault.TheVariants as faults
use Rattle.occ_model.specs.State.{State, Write, put, apply}
use Rattle.occ_model.specs.Log.{LogRow, Standing, Open, Writing, Done, Back, Case, is_open, is_back, rest, remaining}
use Rattle.occ_model.specs.Validity.{verdict, case_at}
use Rattle.occ_model.proofs.AtEntry.{verdict-validity}
use Rattle.occ_model.specs.World.{World, low, questions_under, latest, turn, reads_under, is_held, has_session}
use Rattle.occ_model.specs.Event.{Decide, WriteOne, Finish, BackUp, Reply, Decided, Wrote, Finished, BackedUp}
use Rattle.occ_model.specs.Refusal as refusals
use Rattle.occ_model.specs.Refusal.{refusal, refusal_of_request}
use Rattle.occ_model.specs.Step.{Step, taken, Run, entering, IsCaseOf, validity_of, decided, EndsSerially}
use Rattle.occ_model.specs.Laws.{SerialEndIsItsParts, parts, each_written}
use Rattle.occ_model.specs.declared.verdict.Verdict.{Verdict}
use Rattle.occ_model.specs.declared.verdict.Verdict.TheVariants as verdicts
use Rattle.occ_model.specs.declared.verdict.Cause.{Cause}
use Rattle.occ_model.proofs.Tests as tests
use Rattle.occ_model.proofs.Logs.{standing_at}
use Rattle.occ_model.proofs.Turns.{latest-at}
use Rattle.occ_model.proofs.Orders.{apart}
use Rattle.occ_model.proofs.Admitted.{admitted}
use Rattle.occ_model.proofs.Arrivals.{held-own}

-- a test that isn't met refuses nothing
unmet : (b : Bool) (fault : Fault) → b ≡ false → fault_if b fault ≡ None
unmet b fault e = ap (λ c. fault_if c fault) e

-- the row that came last turns
turn-last : (session : ℕ) (standing : Standing) (row : LogRow) → row.session ≡ session → (log : List LogRow) → turn session standing (log ++ row ∷ []) ≡ log ++ standing_at row standing ∷ []
turn-last session standing row own [] = ap (λ b. (if b then standing_at row standing else row) ∷ []) (eq-eqb row.session session own)
turn-last session standing row own (x ∷ xs) =
    ap (λ l. elim l as (λ _. List LogRow) [ None ↦ (if x.session == session then standing_at x standing else x) ∷ (xs ++ row ∷ []) | Some later ↦ x ∷ turn session standing (xs ++ row ∷ []) ]) (latest-at session row xs [] refl own)
    ∙ ap (λ l. x ∷ l) (turn-last session standing row own xs)

-- to hold a session and let it go changes nothing where it was free
held_back : (held : FinSet nat_cmp) (session : ℕ) → sets.contains held session ≡ false → sets.remove (sets.insert held session) session ≡ held
held_back held session free = sets.same_set nat_cmp_total nat_cmp-IsAntisymmetric _ _ (λ q.
    sets.contains-remove nat_cmp_total (sets.insert held session) session q
    ∙ ap (λ b. not (eq_by_cmp nat_cmp q session) && b) (sets.contains-insert nat_cmp_total held session q)
    ∙ tests.decided (eq_by_cmp nat_cmp q session)
    (λ same. ap (λ b. not b && (b || sets.contains held q)) same ∙ sym (subst (λ t. sets.contains held t ≡ false) (same_session q same) free))
    (λ other. ap (λ b. not b && (b || sets.contains held q)) other))
  where
    same_session : (q : ℕ) → eq_by_cmp nat_cmp q session ≡ true → session ≡ q
    same_session q same = tests.decided (q == session) (λ e. sym (eqb-true q session e)) (λ e. absurd (tests.clash {A = ⊥} (eq_by_cmp nat_cmp q session) same (apart q session (λ is. tests.clash (q == session) (eq-eqb q session is) e))))

slice_get-middle : (done : List Write) (write : Write) (others : List Write) → slice_get (done ++ write ∷ others) (length done) ≡ Some write
slice_get-middle [] write others = refl
slice_get-middle (d ∷ ds) write others = slice_get-middle ds write others

drop-all : (writes : List Write) → drop (length writes) writes ≡ []
drop-all [] = refl
drop-all (w ∷ ws) = drop-all ws

module _ (old : World) (session number start : ℕ) (writes : List Write) (exists : has_session old session ≡ true) (free : is_held old session ≡ false) where
  abbrev row_as : Standing → LogRow
  row_as standing = entering old session number start (reads_under old session number) writes standing

  -- the world while the request is under way
  abbrev under_way : Standing → State → World
  under_way standing table = record old {
    log = old.log ++ row_as standing ∷ [];
    phases = finite.remove old.phases (session, number);
    held = sets.insert old.held session;
    table = table;
  }

  last_row : (standing : Standing) → latest session (old.log ++ row_as standing ∷ []) ≡ Some (row_as standing)
  last_row standing = latest-at session (row_as standing) old.log [] refl refl

  seen : (none : Bool) (of : LogRow → Bool) (standing : Standing) → (elim (latest session (old.log ++ row_as standing ∷ [])) as (λ _. Bool) [ None ↦ none | Some row ↦ of row ]) ≡ of (row_as standing)
  seen none of standing = ap (λ l. elim l as (λ _. Bool) [ None ↦ none | Some row ↦ of row ]) (last_row standing)

  -- the first two guards of each step
  guards : (standing : Standing) (table : State) (others : List (Option Fault)) → first_fault others ≡ None
      → first_fault (refusals.no_session (under_way standing table) session ∷ refusals.nothing_entered (under_way standing table) session ∷ others) ≡ None
  guards standing table others none =
      ap (λ o. first_fault (o ∷ refusals.nothing_entered (under_way standing table) session ∷ others)) (unmet _ faults.NoSession (ap not exists))
      ∙ ap (λ o. first_fault (o ∷ others)) (unmet _ faults.NothingEntered (ap not (held-own old.held session))) ∙ none

  turned : (standing to : Standing) (table : State) → record (under_way standing table) { log = turn session to (old.log ++ row_as standing ∷ []) } ≡ under_way to table
  turned standing to table = ap (λ l. record (under_way standing table) { log = l }) (turn-last session to (row_as standing) refl old.log)

  -- the case that the entry fixes
  abbrev pub first_case : Case
  first_case = case_at old.log old.counter (low old) start (questions_under old session number) writes

  pub is_case : IsCaseOf old session number start writes first_case
  is_case = record { start_is = refl; low_is = refl; reads_are = refl; writes_are = refl; finished = λ test. refl; active = λ test. refl }

  decides : (v : Verdict) → validity_of old session number start writes ≡ v → Step (under_way (Open 0 first_case) old.table) (Decide session) (Decided v) (under_way (decided v) old.table)
  decides v valid =
      let is : verdict first_case ≡ v = verdict-validity old.log old.counter (low old) start (questions_under old session number) writes first_case is_case ∙ valid in
      taken
      (guards (Open 0 first_case) old.table _
      (ap (λ o. first_fault (o ∷ [])) (unmet _ faults.AlreadyDecided (ap not (seen false (λ row. is_open row.standing) (Open 0 first_case)))))) (
        row_as (Open 0 first_case),
        0,
        first_case,
        last_row _,
        refl,
        ap Decided (sym is),
        sym (turned (Open 0 first_case) (decided v) old.table) ∙ ap (λ w. record (under_way (Open 0 first_case) old.table) { log = turn session (decided w) (old.log ++ row_as (Open 0 first_case) ∷ []) }) (sym is),
      )

  -- a row in its write phase is neither Open nor backed up
  writing_guards : (n : ℕ) (table : State) (others : List (Option Fault)) → first_fault others ≡ None
      → first_fault (refusals.no_session (under_way (Writing n) table) session ∷ refusals.nothing_entered (under_way (Writing n) table) session
      ∷ refusals.not_decided (under_way (Writing n) table) session ∷ fault_if (refusals.row_is_back (under_way (Writing n) table) session) faults.AlreadyDecided ∷ others) ≡ None
  writing_guards n table others none = guards (Writing n) table _ (
      ap (λ o. first_fault (o ∷ fault_if (refusals.row_is_back (under_way (Writing n) table) session) faults.AlreadyDecided ∷ others)) (unmet _ faults.NotDecided (seen false (λ row. is_open row.standing) (Writing n)))
      ∙ ap (λ o. first_fault (o ∷ others)) (unmet _ faults.AlreadyDecided (seen true (λ row. is_back row.standing) (Writing n))) ∙ none)

  writes_one : (done : List Write) (write : Write) (others : List Write) (table : State) → writes ≡ done ++ write ∷ others
      → Step (under_way (Writing (length done)) table) (WriteOne session) (Wrote write.0) (under_way (Writing (length done + 1)) (put table write))
  writes_one done write others table is = taken
      (writing_guards (length done) table [] refl) (
        row_as (Writing (length done)),
        length done,
        last_row _,
        refl,
        subst (λ o. MatchOption o ((Wrote write.0 ≡ Reply.NoMore) × (under_way (Writing (length done + 1)) (put table write) ≡ under_way (Writing (length done)) table))
            (λ w. (Wrote write.0 ≡ Wrote w.0) × (under_way (Writing (length done + 1)) (put table write) ≡ record (under_way (Writing (length done)) table) { table = put table w; log = turn session (Writing (length done + 1)) (old.log ++ row_as (Writing (length done)) ∷ []) })))
            (sym (ap (λ ws. slice_get ws (length done)) is ∙ slice_get-middle done write others))
            (refl, ap (λ (w : World). record w { table = put table write }) (sym (turned (Writing (length done)) (Writing (length done + 1)) table))),
      )

  -- what is left of the world in the end
  abbrev ended : State → World
  ended table = record old {
    log = old.log ++ row_as (Done (old.counter + 1)) ∷ [];
    phases = finite.remove old.phases (session, number);
    table = table;
    counter = old.counter + 1;
  }

  finishes : (table : State) → Step (under_way (Writing (length writes)) table) (Finish session) (Finished (old.counter + 1)) (ended table)
  finishes table = taken
      (writing_guards (length writes) table _ (ap (λ o. first_fault (o ∷ [])) (unmet _ faults.WritesLeft
      (seen false (λ row. nat_lt 0 (length (rest row))) (Writing (length writes)) ∙ ap (λ ws. nat_lt 0 (length ws)) (drop-all writes))))) (
        row_as (Writing (length writes)),
        length writes,
        last_row _,
        refl,
        refl,
        sym (ap (λ (w : World). record w { counter = old.counter + 1; held = sets.remove (sets.insert old.held session) session }) (turned (Writing (length writes)) (Done (old.counter + 1)) table)
            ∙ ap (λ h. record (ended table) { held = h }) (held_back old.held session free)),
      )

  writes_on : (done others : List Write) (table : State) → writes ≡ done ++ others
      → Run (under_way (Writing (length done)) table) (each_written session others ++ (Finish session, Finished (old.counter + 1)) ∷ []) (ended (apply table others))
  writes_on done [] table is =
      let all : writes ≡ done = is ∙ append-nil done in
      (ended table, subst (λ n. Step (under_way (Writing n) table) (Finish session) (Finished (old.counter + 1)) (ended table)) (ap length all) (finishes table), refl)
    where
      append-nil : (xs : List Write) → xs ++ [] ≡ xs
      append-nil [] = refl
      append-nil (x ∷ xs) = ap (λ l. x ∷ l) (append-nil xs)
  writes_on done (write ∷ others) table is = (
    under_way (Writing (length done + 1)) (put table write),
    writes_one done write others table is,
    subst (λ n. Run (under_way (Writing n) (put table write)) (each_written session others ++ (Finish session, Finished (old.counter + 1)) ∷ []) (ended (apply (put table write) others)))
        (length-append done (write ∷ []))
        (writes_on (done ++ write ∷ []) others (put table write) (is ∙ sym (append_assoc done (write ∷ []) others))),
  )

  backs : (cause : Cause) → Step (under_way (Back cause) old.table) (BackUp session) (BackedUp number) (record old {
    log = old.log ++ row_as (Back cause) ∷ [];
    phases = finite.remove old.phases (session, number);
  })
  backs cause = taken
      (guards (Back cause) old.table _ (
      ap (λ o. first_fault (o ∷ fault_if (not (refusals.row_is_back (under_way (Back cause) old.table) session)) faults.AlreadyDecided ∷ [])) (unmet _ faults.NotDecided (seen false (λ row. is_open row.standing) (Back cause)))
      ∙ ap (λ o. first_fault (o ∷ [])) (unmet _ faults.AlreadyDecided (ap not (seen true (λ row. is_back row.standing) (Back cause)))))) (
        sym (ap (λ l. BackedUp (elim l as (λ _. ℕ) [ None ↦ Rattle.occ_model.specs.Log.last_folded old.base session | Some row ↦ row.number ])) (last_row (Back cause))),
        sym (ap (λ h. record (under_way (Back cause) old.table) { held = h }) (held_back old.held session free)),
      )

-- The parts of a serial end, one after another.
parts_run : (old new : World) (session number start : ℕ) (writes : List Write) (reply : Reply) → refusal_of_request old None session number start writes ≡ None → has_session old session ≡ true → is_held old session ≡ false
    → (v : Verdict) → validity_of old session number start writes ≡ v → EndsSerially old session number start writes v reply new → Run old (parts old session number start writes v) new
parts_run old new session number start writes reply none exists free verdicts.Commit e ends = (
  under_way old session number start writes exists free (Open 0 (first_case old session number start writes exists free)) old.table,
  taken none (0, first_case old session number start writes exists free, is_case old session number start writes exists free, refl, refl),
  (
    under_way old session number start writes exists free (Writing 0) old.table,
    decides old session number start writes exists free verdicts.Commit e,
    subst (Run (under_way old session number start writes exists free (Writing 0) old.table) (each_written session writes ++ (Finish session, Finished (old.counter + 1)) ∷ [])) (sym ends.1)
        (writes_on old session number start writes exists free [] writes old.table refl),
  ),
)
parts_run old new session number start writes reply none exists free (verdicts.BackUp cause) e ends = (
  under_way old session number start writes exists free (Open 0 (first_case old session number start writes exists free)) old.table,
  taken none (0, first_case old session number start writes exists free, is_case old session number start writes exists free, refl, refl),
  (
    under_way old session number start writes exists free (Back cause) old.table,
    decides old session number start writes exists free (verdicts.BackUp cause) e,
    (new, subst (Step (under_way old session number start writes exists free (Back cause) old.table) (BackUp session) (BackedUp number)) (sym ends.1) (backs old session number start writes exists free cause), refl),
  ),
)

pub serial_end : SerialEndIsItsParts
serial_end old new session number start writes reply none t =
    let may = admitted old (refusals.store_busy old) session number start writes none in
    parts_run old new session number start writes reply (subst (λ busy. refusal_of_request old busy session number start writes ≡ None) may.1 none) may.0.exists may.0.free
    (validity_of old session number start writes) refl t
