-- A core that goes on from a base.
use Rattle.std.proofs.Common.{◌≡◌, ℕ, zero, suc, ◌+◌, ◌-◌, ◌<◌, ◌≤◌, Bool, true, false, not, ◌&&◌, List, [], ◌∷◌, ◌++◌, map, drop, length, Option, None, Some, refl, sym, ap, subst, ◌∙◌, arith, slice_get, slice_set, nat_le, nat_lt, nat_eq, is_some, if◌then◌else◌}
use Rattle.std.specs.Prelude.{unwrap_or, cond}
use Rattle.std.specs.List.{AllByRecursion, list_any}
use Rattle.std.specs.declared.cmp.Ordering.{Ordering}
use Rattle.std.specs.Ordering.{nat_cmp, is_eq, eq_by_cmp}
use Rattle.std.specs.FinMap as finite
use Rattle.std.specs.FinMap.{FinMap, find}
use Rattle.std.specs.FinSet as sets
use Rattle.std.proofs.lemmas.Bool.{eqb-true, eq-eqb, ltb-true, ltb-false, lt-ltb, le-ltb}
use Rattle.std.proofs.Math.Seq.{drop-nil}
use Rattle.std.specs.Cmp.{Equal-is}
use Rattle.occ_types.specs.declared.fault.Fault.{Fault}
use Rattle.occ_types.specs.declared.fault.Fault.TheVariants as faults
use Rattle.occ_types.specs.declared.limits.TheConstants.{MAX_COUNTER, MAX_NUMBER}
use Rattle.occ_types.specs.Key.{Key}
use Rattle.occ_types.specs.Object.{Object, object_cmp, object_cmp-IsAntisymmetric}
use Rattle.occ_types.specs.Question.{Span, asks}
use Rattle.occ_types.specs.Row.{Row}
use Rattle.occ_types.specs.Schema.{Schema, fault_if, first_fault, check_key, check_row}
use Rattle.occ_model.specs.State.{State, Rows, answer}
use Rattle.occ_model.specs.Log.{LogRow, Base, last_folded}
use Rattle.occ_model.specs.World.{ReadPhase, World, phase_cmp, empty_base, resumed}
use Rattle.occ_model.specs.Content.{IsSession, StateIs, QuestionFits, RowFits, IsInSchema, IsLawful}
use Rattle.occ_types.proofs.Walks.{first_fault-late, first_fault-early}
use Rattle.occ_log.proofs.Places.{slice_get-other}
use Rattle.occ_model.proofs.Admitted.{passed}
use Rattle.occ_model.proofs.Steps.{invariant_resumed}
use Rattle.occ_model.proofs.Tests as tests
use Rattle.occ_model.proofs.Phases.{not_refused}
use Rattle.occ_model.proofs.States.{same_object}
use Rattle.occ_model.proofs.RangeAnswers.{get_part}
use Rattle.occ_book.specs.Base.{BaseContent}
use Rattle.occ_book.specs.Content.{Content}
use Rattle.occ_book.specs.Marks.{mark_at, marks_listed}
use Rattle.occ_log.specs.SessionStates.{Slot, Hold, held_from, HoldsArePlaced}
use Rattle.occ_log.specs.Window.{Window}
use Rattle.occ_core.specs.CoreParts.{Parts, world_of, before_first, AreSound, SlotIsTrue}
use Rattle.occ_core.specs.Resuming.{row_fault, rows_fault, table_fault, tables_fault, numbers_fault, is_unbegun, front_fault, state_fault, resume_fault, Unfolded}
use Rattle.occ_core.specs.declared.checkpoint.TheConstants.{MAX_PLACE}

-- Step by step.

pub numbers_goes : (last : FinMap nat_cmp ℕ) (session next count left : ℕ) → next ≡ suc session → left ≡ suc count → fault_if (nat_lt MAX_NUMBER (unwrap_or (finite.get last session) 0)) faults.NumbersExhausted ≡ None
    → numbers_fault last session left ≡ numbers_fault last next count
numbers_goes last session next count left on is none = ap (numbers_fault last session) is ∙ first_fault-late _ _ none ∙ ap (λ n. numbers_fault last n count) (sym on)

pub numbers_stops : (last : FinMap nat_cmp ℕ) (session count left : ℕ) (fault : Fault) → left ≡ suc count → fault_if (nat_lt MAX_NUMBER (unwrap_or (finite.get last session) 0)) faults.NumbersExhausted ≡ Some fault
    → numbers_fault last session left ≡ Some fault
numbers_stops last session count left fault is some = ap (numbers_fault last session) is ∙ first_fault-early _ _ fault some

pub tables_go : (schema : Schema) (state : State) (table next count left : ℕ) → next ≡ suc table → left ≡ suc count → table_fault schema state table ≡ None → tables_fault schema state table left ≡ tables_fault schema state next count
tables_go schema state table next count left on is none = ap (tables_fault schema state table) is ∙ first_fault-late _ _ none ∙ ap (λ n. tables_fault schema state n count) (sym on)

pub tables_stop : (schema : Schema) (state : State) (table count left : ℕ) (fault : Fault) → left ≡ suc count → table_fault schema state table ≡ Some fault → tables_fault schema state table left ≡ Some fault
tables_stop schema state table count left fault is some = ap (tables_fault schema state table) is ∙ first_fault-early _ _ fault some

-- what stands at a place that was set
set_there : (slots : List Slot) (place : ℕ) (slot next : Slot) → slice_get (slice_set slots place next) place ≡ Some slot → slot ≡ next
set_there [] place slot next at = cc
set_there (first ∷ slots) zero slot next at = cc
set_there (first ∷ slots) (suc place) slot next at = set_there slots place slot next at

-- the session at a place has had its last number
pub slot_had : (base : Base) (slots : List Slot) (place : ℕ) (next : List Slot) (last : ℕ) → last ≡ last_folded base (suc place) → next ≡ slice_set slots place (record { last = last; hold = None })
    → ((k : ℕ) (slot : Slot) → slice_get slots k ≡ Some slot → slot ≡ record { last = if nat_lt k place then last_folded base (suc k) else 0; hold = None })
    → (k : ℕ) (slot : Slot) → slice_get next k ≡ Some slot → slot ≡ record { last = if nat_lt k (place + 1) then last_folded base (suc k) else 0; hold = None }
slot_had base slots place next last last_is next_is idle k slot at = tests.decided (nat_eq k place)
    (λ e. let same = eqb-true k place e in
    let own = set_there slots place slot (record { last = last; hold = None }) (ap (slice_get (slice_set slots place (record { last = last; hold = None }))) (sym same) ∙ ap (λ l. slice_get l k) (sym next_is) ∙ at) in
    own ∙ (λ i. record { last = (last_is ∙ ap (λ n. last_folded base (suc n)) (sym same) ∙ sym (ap (λ b. if b then last_folded base (suc k) else 0) (lt-ltb k (place + 1) (omega arith)))) i; hold = None }))
    (λ e. let apart : k ≡ place → ⊥ = λ same. tests.clash (nat_eq k place) (eq-eqb k place same) e in
    idle k slot (sym (slice_get-other slots place k (record { last = last; hold = None }) apart) ∙ ap (λ l. slice_get l k) (sym next_is) ∙ at)
    ∙ ap (λ b. record { last = if b then last_folded base (suc k) else 0; hold = None }) (later k place apart))
  where
    later : (k place : ℕ) → (k ≡ place → ⊥) → nat_lt k place ≡ nat_lt k (place + 1)
    later k place apart = tests.decided (nat_lt k place)
        (λ e. e ∙ sym (lt-ltb k (place + 1) (let below = ltb-true k place e in omega arith)))
        (λ e. e ∙ sym (le-ltb k (place + 1) (let up = ltb-false k place e in above k place up apart)))
      where
        above : (k place : ℕ) → place ≤ k → (k ≡ place → ⊥) → place + 1 ≤ k
        above k place up apart = tests.decided (nat_lt place k) (λ e. let less = ltb-true place k e in omega arith) (λ e. let more = ltb-false place k e in absurd (apart (omega arith)))

-- that of one which had none stays
pub slot_stays : (base : Base) (slots : List Slot) (place : ℕ) → last_folded base (suc place) ≡ 0
    → ((k : ℕ) (slot : Slot) → slice_get slots k ≡ Some slot → slot ≡ record { last = if nat_lt k place then last_folded base (suc k) else 0; hold = None })
    → (k : ℕ) (slot : Slot) → slice_get slots k ≡ Some slot → slot ≡ record { last = if nat_lt k (place + 1) then last_folded base (suc k) else 0; hold = None }
slot_stays base slots place none idle k slot at = idle k slot at ∙ (λ i. record { last = same i; hold = None })
  where
    same : (if nat_lt k place then last_folded base (suc k) else 0) ≡ (if nat_lt k (place + 1) then last_folded base (suc k) else 0)
    same = tests.decided (nat_eq k place)
        (λ e. let is = eqb-true k place e in
        ap (λ b. if b then last_folded base (suc k) else 0) (le-ltb k place (omega arith))
        ∙ sym (ap (λ b. if b then last_folded base (suc k) else 0) (lt-ltb k (place + 1) (omega arith)) ∙ ap (λ n. last_folded base (suc n)) is ∙ none))
        (λ e. ap (λ b. if b then last_folded base (suc k) else 0) (later k place (λ same. tests.clash (nat_eq k place) (eq-eqb k place same) e)))
      where
        later : (k place : ℕ) → (k ≡ place → ⊥) → nat_lt k place ≡ nat_lt k (place + 1)
        later k place apart = tests.decided (nat_lt k place)
            (λ e. e ∙ sym (lt-ltb k (place + 1) (let below = ltb-true k place e in omega arith)))
            (λ e. e ∙ sym (le-ltb k (place + 1) (let up = ltb-false k place e in above k place up apart)))
          where
            above : (k place : ℕ) → place ≤ k → (k ≡ place → ⊥) → place + 1 ≤ k
            above k place up apart = tests.decided (nat_lt place k) (λ e. let less = ltb-true place k e in omega arith) (λ e. let more = ltb-false place k e in absurd (apart (omega arith)))

-- What was tested fits.

-- a row that stands among some rows without a fault has none
row_fits : (schema : Schema) (table : ℕ) (rows : List (Key × Row)) → rows_fault schema table rows ≡ None → AllByRecursion (λ (row : Key × Row). (check_key schema table row.0 ≡ None) × (check_row schema table row.1 ≡ None)) rows
row_fits schema table [] none = tt
row_fits schema table (row ∷ rows) none =
    let here = passed (row_fault schema table row.0 row.1) _ none in
    let key = passed (check_key schema table row.0) _ here.0 in
    let cells = passed (check_row schema table row.1) [] key.1 in
    ((key.0, cells.0), row_fits schema table rows (passed (rows_fault schema table rows) [] here.1).0)

-- a table among some tables without a fault has none
table_fits : (schema : Schema) (state : State) (first count table : ℕ) → tables_fault schema state first count ≡ None → first ≤ table → table < first + count → table_fault schema state table ≡ None
table_fits schema state first zero table none from below = absurd (omega arith)
table_fits schema state first (suc count) table none from below =
    let here = passed (table_fault schema state first) _ none in
    tests.decided (nat_eq first table)
    (λ e. ap (table_fault schema state) (sym (eqb-true first table e)) ∙ here.0)
    (λ e. table_fits schema state (suc first) count table (passed (tables_fault schema state (suc first) count) [] here.1).0 (later first table from (λ same. tests.clash (nat_eq first table) (eq-eqb first table same) e)) (omega arith))
  where
    later : (first table : ℕ) → first ≤ table → (first ≡ table → ⊥) → suc first ≤ table
    later first table from ne = tests.decided (nat_lt first table) (λ e. ltb-true first table e) (λ e. let up = ltb-false first table e in absurd (ne (omega arith)))

-- what holds of each entry holds of the one that is found
found_fits : (P : Object × Row → Type 0) (entries : List (Object × Row)) (object : Object) (row : Row) → AllByRecursion P entries → find object_cmp object entries ≡ Some row → P (object, row)
found_fits P [] object row all found = cc
found_fits P (entry ∷ entries) object row all found = go (eq_by_cmp object_cmp object entry.0) refl (found_fits P entries object row all.1)
  where
    go : (ties : Bool) → eq_by_cmp object_cmp object entry.0 ≡ ties → (find object_cmp object entries ≡ Some row → P (object, row)) → P (object, row)
    go true e later =
        let value : entry.1 ≡ row = (let s : Some entry.1 ≡ Some row = sym (ap (λ b. cond b (Some entry.1) (find object_cmp object entries)) e) ∙ found in cc) in
        subst P (λ i. (sym (same_object object entry.0 e) i, value i)) all.0
    go false e later = later (sym (ap (λ b. cond b (Some entry.1) (find object_cmp object entries)) e) ∙ found)

-- what holds of each row of an answer holds of each entry that it is made of
of_entries : (P : Key × Row → Type 0) (entries : List (Object × Row)) → AllByRecursion P (map (λ (e : Object × Row). (e.0.1, e.1)) entries) → AllByRecursion (λ (e : Object × Row). P (e.0.1, e.1)) entries
of_entries P [] all = tt
of_entries P (entry ∷ entries) all = (all.0, of_entries P entries all.1)

pub state_fits : (schema : Schema) (state : State) (count : ℕ) → count ≡ length schema → ((object : Object) → count ≤ object.0 → finite.get state object ≡ None) → tables_fault schema state 0 (length schema) ≡ None → StateIs (QuestionFits schema) (RowFits schema) state
unfolding answer asks
state_fits schema state count is none_beyond none (table, key) row there =
    tests.decided (nat_lt table (length schema))
    (λ e.
    let below : table < length schema = ltb-true table (length schema) e in
    let rows = finite.retain_keys state (asks (Span table None None)) in
    let fits = of_entries (λ (row : Key × Row). (check_key schema table row.0 ≡ None) × (check_row schema table row.1 ≡ None)) (finite.entries rows)
    (row_fits schema table _ (table_fits schema state 0 (length schema) table none (omega arith) (omega arith))) in
    let asked : asks (Span table None None) (table, key) ≡ true = ap (λ b. b && true) (eq-eqb table table refl) in
    let found : find object_cmp (table, key) (finite.entries rows) ≡ Some row =
    sym (finite.get-entries rows (table, key)) ∙ get_part state (Span table None None) (table, key) ∙ ap (λ b. cond b (finite.get state (table, key)) None) asked ∙ there in
    found_fits (λ (e : Object × Row). (check_key schema table e.0.1 ≡ None) × (check_row schema table e.1 ≡ None)) (finite.entries rows) (table, key) row fits found)
    (λ e. let above = ltb-false table (length schema) e in
    let gone : None ≡ Some row = sym (none_beyond (table, key) (omega arith)) ∙ there in
    cc)

-- a last number among some without a fault is within its limit
pub number_fits : (last : FinMap nat_cmp ℕ) (first count session : ℕ) → numbers_fault last first count ≡ None → first ≤ session → session < first + count → unwrap_or (finite.get last session) 0 ≤ MAX_NUMBER
number_fits last first zero session none from below = absurd (omega arith)
number_fits last first (suc count) session none from below =
    let here = passed (fault_if (nat_lt MAX_NUMBER (unwrap_or (finite.get last first) 0)) faults.NumbersExhausted) _ none in
    tests.decided (nat_eq first session)
    (λ e. subst (λ n. unwrap_or (finite.get last n) 0 ≤ MAX_NUMBER) (eqb-true first session e) (ltb-false MAX_NUMBER (unwrap_or (finite.get last first) 0) (not_refused _ faults.NumbersExhausted here.0)))
    (λ e. number_fits last (suc first) count session (passed (numbers_fault last (suc first) count) [] here.1).0 (later first session from (λ same. tests.clash (nat_eq first session) (eq-eqb first session same) e)) (omega arith))
  where
    later : (first session : ℕ) → first ≤ session → (first ≡ session → ⊥) → suc first ≤ session
    later first session from ne = tests.decided (nat_lt first session) (λ e. ltb-true first session e) (λ e. let up = ltb-false first session e in absurd (ne (omega arith)))

-- a session whose mark is found among those that are listed is one of them
listed_within : (marks : FinMap nat_cmp ℕ) (session number first count : ℕ) → find nat_cmp session (marks_listed marks first count) ≡ Some number → (first ≤ session) × (session < first + count)
listed_within marks session number first zero found = cc
listed_within marks session number first (suc count) found = go (finite.get marks first) found (listed_within marks session number (suc first) count)
  where
    later : (suc first ≤ session) × (session < suc first + count) → (first ≤ session) × (session < first + suc count)
    later within = (let a = within.0 in omega arith, let b = within.1 in omega arith)

    tied : (mark : ℕ) (ties : Bool) → eq_by_cmp nat_cmp session first ≡ ties
        → cond (eq_by_cmp nat_cmp session first) (Some mark) (find nat_cmp session (marks_listed marks (suc first) count)) ≡ Some number
        → (find nat_cmp session (marks_listed marks (suc first) count) ≡ Some number → (suc first ≤ session) × (session < suc first + count)) → (first ≤ session) × (session < first + suc count)
    tied mark true e found others = let same : session ≡ first = finite.nat_cmp-IsAntisymmetric session first ((Equal-is (nat_cmp session first)).0 e) in (omega arith, omega arith)
    tied mark false e found others = later (others (sym (ap (λ b. cond b (Some mark) (find nat_cmp session (marks_listed marks (suc first) count))) e) ∙ found))

    go : (mark : Option ℕ) → find nat_cmp session (mark_at first mark ++ marks_listed marks (suc first) count) ≡ Some number
        → (find nat_cmp session (marks_listed marks (suc first) count) ≡ Some number → (suc first ≤ session) × (session < suc first + count)) → (first ≤ session) × (session < first + suc count)
    go None found others = later (others found)
    go (Some mark) found others = tied mark (eq_by_cmp nat_cmp session first) refl found others

-- the sessions whose marks are listed are those that there are
pub session_fits : (marks : FinMap nat_cmp ℕ) (sessions : ℕ) → finite.entries marks ≡ marks_listed marks 1 sessions → (session number : ℕ) → finite.get marks session ≡ Some number → IsSession sessions session
session_fits marks sessions listed session number there =
    let within = listed_within marks session number 1 sessions (ap (find nat_cmp session) (sym listed) ∙ sym (finite.get-entries marks session) ∙ there) in
    record { first = within.0; last = (let below = within.1 in omega arith) }

-- a base that some log has begins at another place than the first one, or is empty
pub begun : (base : Base) → is_unbegun base ≡ false → base.place ≡ 0 → base ≡ empty_base
begun base late first =
    let both : (nat_eq (finite.len base.state) 0 && nat_eq (finite.len base.last) 0) ≡ true =
    tests.not_false _ (sym (ap (λ b. b && not (nat_eq (finite.len base.state) 0 && nat_eq (finite.len base.last) 0)) (ap (λ n. nat_eq n 0) first)) ∙ late) in
    let empties = tests.and_true _ _ both in
    let state = finite.empty_of_len base.state (eqb-true (finite.len base.state) 0 empties.0) in
    let last = finite.empty_of_len base.last (eqb-true (finite.len base.last) 0 empties.1) in
    λ i. record { state = state i; last = last i; place = first i }

-- The core.

-- none of the sessions has anything under way
none_held : (base : Base) (first : ℕ) (slots : List Slot) → ((place : ℕ) (slot : Slot) → slice_get slots place ≡ Some slot → slot.hold ≡ None) → held_from first slots ≡ sets.empty
none_held base first [] idle = refl
none_held base first (slot ∷ slots) idle =
    ap (λ (h : Option Hold). cond (is_some h) (sets.insert (held_from (suc first) slots) first) (held_from (suc first) slots)) (idle zero slot refl)
    ∙ none_held base (suc first) slots (λ place other at. idle (suc place) other at)

-- the parts of a core that goes on from a base
abbrev pub resumed_parts : Schema → ℕ → Base → ℕ → List Slot → Parts
resumed_parts schema keep base counter slots = record {
  settings = record { schema = schema; sessions = length slots; keep = keep };
  base = base;
  log = [];
  table = base.state;
  counter = counter;
  marks = finite.empty;
  phases = finite.empty;
  slots = slots;
  window = [];
}

pub resumed_world : (schema : Schema) (sessions keep : ℕ) (base : Base) (counter : ℕ) (slots : List Slot) → Unfolded base sessions slots
    → world_of (resumed_parts schema keep base counter slots) ≡ resumed (record { schema = schema; sessions = sessions; keep = keep }) base counter
resumed_world schema sessions keep base counter slots unfolded =
    λ i. record (world_of (resumed_parts schema keep base counter slots)) { settings = record { schema = schema; sessions = unfolded.each i; keep = keep }; held = none_held base 1 slots (λ place slot at. ap (λ (s : Slot). s.hold) (unfolded.idle place slot at)) i }

-- what a store rests on that goes on from a base
pub record BaseFits (schema : Schema) (sessions : ℕ) (base : Base) (counter : ℕ) : Type 0 where
  pub rows : StateIs (QuestionFits schema) (RowFits schema) base.state
  pub folded : (session number : ℕ) → finite.get base.last session ≡ Some number → IsSession sessions session
  pub numbers : (session : ℕ) → last_folded base session ≤ MAX_NUMBER
  pub counter_fits : counter ≤ MAX_COUNTER
  pub place_fits : base.place ≤ MAX_PLACE
  pub begins : base.place ≡ 0 → base ≡ empty_base

resumed_lawful : (schema : Schema) (sessions keep : ℕ) (base : Base) (counter : ℕ) → BaseFits schema sessions base counter → IsLawful (resumed (record { schema = schema; sessions = sessions; keep = keep }) base counter)
resumed_lawful schema sessions keep base counter fits = record {
  invariant = invariant_resumed _ base counter;
  content = record {
    log = tt;
    marks = λ session mark at. absurd (no_number (sym (finite.get-empty nat_cmp session) ∙ at));
    phases = λ session number phase at. absurd (no_phase (sym (finite.get-empty phase_cmp (session, number)) ∙ at));
    few = λ session number phase at. absurd (no_phase (sym (finite.get-empty phase_cmp (session, number)) ∙ at));
    table = fits.rows;
    base = fits.rows;
    folded = fits.folded;
  };
}
  where
    no_phase : {phase : ReadPhase} → None ≡ Some phase → ⊥
    no_phase e = cc

    no_number : {n : ℕ} → None ≡ Some n → ⊥
    no_number e = cc

pub resumed_sound : (schema : Schema) (sessions keep : ℕ) (base : Base) (counter : ℕ) (slots : List Slot) → Unfolded base sessions slots → BaseFits schema sessions base counter → AreSound (resumed_parts schema keep base counter slots)
resumed_sound schema sessions keep base counter slots unfolded fits = record {
  law = subst IsLawful (sym (resumed_world schema sessions keep base counter slots unfolded)) (resumed_lawful schema sessions keep base counter fits);
  each_session = refl;
  slots_true = λ place slot at. subst (SlotIsTrue (resumed_parts schema keep base counter slots) place) (sym (unfolded.idle place slot at)) (record {
    last_is = refl;
    last_fits = fits.numbers (suc place);
    row_is = λ hold (e : None ≡ Some hold). cc e;
  });
  window_size = omega arith;
  window_is = λ start above test. ap (list_any test) (drop-nil (start - before_first (resumed_parts schema keep base counter slots)));
  log_room = omega arith;
  place_room = fits.place_fits;
  base_begins = fits.begins;
  counter_room = (let up = fits.counter_fits in omega arith);
}

-- no session has anything under way that writes anywhere
pub unfolded_placed : (tables : ℕ) (base : Base) (sessions : ℕ) (slots : List Slot) → Unfolded base sessions slots → HoldsArePlaced tables slots
unfolded_placed tables base sessions slots unfolded place slot hold at holds =
    let none : None ≡ Some hold = sym (ap (λ (s : Slot). s.hold) (unfolded.idle place slot at)) ∙ holds in
    cc

-- the last number of each session that a base has room for
number_of : (content : BaseContent) → numbers_fault content.base.last 1 content.sessions ≡ None → ((session number : ℕ) → finite.get content.base.last session ≡ Some number → IsSession content.sessions session) → (session : ℕ) → last_folded content.base session ≤ MAX_NUMBER
number_of content none listed session = go (finite.get content.base.last session) refl
  where
    go : (last : Option ℕ) → finite.get content.base.last session ≡ last → unwrap_or (finite.get content.base.last session) 0 ≤ MAX_NUMBER
    go None e = let zero_is : unwrap_or (finite.get content.base.last session) 0 ≡ 0 = ap (λ o. unwrap_or o 0) e in omega arith
    go (Some number) e =
        let is = listed session number e in
        let from = is.first in
        let up = is.last in
        number_fits content.base.last 1 content.sessions session none from (omega arith)

pub base_fits : (schema : Schema) (sessions : ℕ) (content : BaseContent) (counter : ℕ) → resume_fault schema sessions content counter ≡ None
    → ((object : Object) → content.tables ≤ object.0 → finite.get content.base.state object ≡ None)
    → ((session number : ℕ) → finite.get content.base.last session ≡ Some number → IsSession content.sessions session)
    → BaseFits schema sessions content.base counter × (content.tables ≡ length schema) × (content.sessions ≤ sessions)
base_fits schema sessions content counter none beyond listed =
    let front = passed (front_fault schema sessions content counter) _ none in
    let state = (passed (state_fault schema content.base) [] front.1).0 in
    let tables = passed (fault_if (not (nat_eq content.tables (length schema))) faults.NoTable) _ front.0 in
    let more = passed (fault_if (nat_lt sessions content.sessions) faults.NoSession) _ tables.1 in
    let counts = passed (fault_if (nat_lt MAX_COUNTER counter) faults.CounterExhausted) _ more.1 in
    let places = passed (fault_if (nat_lt MAX_PLACE content.base.place) faults.LogFull) _ counts.1 in
    let numbers = (passed (numbers_fault content.base.last 1 content.sessions) [] places.1).0 in
    let unbegun = passed (fault_if (is_unbegun content.base) faults.OutOfTurn) _ state in
    let rows = (passed (tables_fault schema content.base.state 0 (length schema)) [] unbegun.1).0 in
    let count = eqb-true content.tables (length schema) (tests.not_false _ (not_refused _ faults.NoTable tables.0)) in
    let fewer = ltb-false sessions content.sessions (not_refused _ faults.NoSession more.0) in (
      record {
        rows = state_fits schema content.base.state content.tables count beyond rows;
        folded = λ session number at. (let is = listed session number at in record { first = is.first; last = (let up = is.last in omega arith) });
        numbers = number_of content numbers listed;
        counter_fits = ltb-false MAX_COUNTER counter (not_refused _ faults.CounterExhausted counts.0);
        place_fits = ltb-false MAX_PLACE content.base.place (not_refused _ faults.LogFull places.0);
        begins = begun content.base (not_refused _ faults.OutOfTurn unbegun.0);
      },
      count,
      fewer,
    )

-- the fields of a core that goes on from a base are these parts
pub resumed_is : (schema : Schema) (keep : ℕ) (base : Base) (counter : ℕ) (slots : List Slot) (tables : Content) (count : ℕ) → tables ≡ record { tables = count; state = base.state }
    → (window : Window) → window ≡ record { keep = keep; sets = [] } → (log : List LogRow) → log ≡ [] → (phases : FinMap phase_cmp ReadPhase) → phases ≡ finite.empty → (marks : FinMap nat_cmp ℕ) → marks ≡ finite.empty
    → (own : Base) → own ≡ base
    → ◌≡◌ {A = Parts} (record { settings = record { schema = schema; sessions = length slots; keep = window.keep }; base = own; log = log; table = tables.state; counter = counter; marks = marks; phases = phases; slots = slots; window = window.sets }) (resumed_parts schema keep base counter slots)
resumed_is schema keep base counter slots tables count t window w log l phases p marks m own b =
    λ i. record { settings = record { schema = schema; sessions = length slots; keep = (w i).keep }; base = b i; log = l i; table = (t i).state; counter = counter; marks = m i; phases = p i; slots = slots; window = (w i).sets }
