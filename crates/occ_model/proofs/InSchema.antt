-- Each step keeps the content of a world within its schema: what an event brings is tested before it is taken.
use Rattle.std.proofs.Common.{◌≡◌, ℕ, ◌+◌, ◌≤◌, Bool, true, false, List, [], ◌∷◌, length, Option, None, Some, refl, sym, ap, subst, ◌∙◌, zero, suc, arith, not}
use Rattle.std.specs.Prelude.{◌==◌, slice_get, MatchOption, IfSome, ℤ, nat_eq, nat_lt}
use Rattle.std.specs.List.{AllByRecursion}
use Rattle.std.proofs.lemmas.Bool.{eqb-true}
use Rattle.std.specs.Ordering.{nat_cmp}
use Rattle.std.specs.FinMap as finite
use Rattle.occ_types.specs.declared.fault.Fault.{Fault}
use Rattle.occ_types.specs.declared.fault.Fault.TheVariants as faults
use Rattle.occ_types.specs.declared.kind.Kind.{Kind}
use Rattle.occ_types.specs.declared.kind.Kind.TheVariants as cells
use Rattle.occ_types.specs.declared.limits.TheConstants.{MAX_OPERATIONS}
use Rattle.occ_types.specs.Object.{object_cmp}
use Rattle.occ_types.specs.Row.{Row, Int}
use Rattle.occ_types.specs.Schema.{Table, Schema, fault_if, first_fault, check_key, check_row, check_cells, check_question}
use Rattle.occ_model.specs.State.{Write}
use Rattle.occ_model.specs.Log.{Base}
use Rattle.occ_model.specs.Operations.{Operation, Get, Scan, Put, Delete, Add, held_sum}
use Rattle.occ_model.specs.World.{Settings, World, ReadPhase, opened, resumed, empty_base, phase_cmp}
use Rattle.occ_model.specs.Event.{Item, Request, Alone, Close, Event, Read, Forget, Enter, Decide, WriteOne, Finish, BackUp, SerialEnd, RunAlone, Checkpoint, Reply}
use Rattle.occ_model.specs.Refusal as refusals
use Rattle.occ_model.specs.Refusal.{refusal, refusal_of_request, refusal_of_alone, wrong_start, check_writes, check_number, check_operation, check_operations}
use Rattle.occ_model.specs.Step.{Step, Run, refused, starved, taken, Taken, WritesOne, EndsSerially, validity_of}
use Rattle.occ_model.specs.Invariant.{Invariant}
use Rattle.occ_model.specs.Content.{IsSession, StateIs, WriteIs, ContentIs, OperationIs, EventIs, QuestionFits, RowFits, IsInSchema, IsLawful}
use Rattle.occ_model.specs.declared.verdict.Verdict.{Verdict}
use Rattle.occ_model.specs.declared.verdict.Verdict.TheVariants as verdicts
use Rattle.occ_model.proofs.Tests as tests
use Rattle.occ_model.proofs.Phases.{not_refused}
use Rattle.occ_model.proofs.Admitted.{passed}
use Rattle.occ_model.proofs.Steps.{keeps, invariant_resumed}
use Rattle.occ_model.specs.Laws.{RunsStayInSchema}
use Rattle.occ_model.proofs.Content.{keeps_content}

-- What was tested fits.

writes_fit : (schema : Schema) (writes : List Write) → check_writes schema writes ≡ None → AllByRecursion (WriteIs (QuestionFits schema) (RowFits schema)) writes
writes_fit schema [] none = tt
writes_fit schema ((object, row) ∷ writes) none =
    let a = passed (check_key schema object.0 object.1) _ none in
    let b = passed (elim row as (λ _. Option Fault) [ None ↦ None | Some r ↦ check_row schema object.0 r ]) _ a.1 in
    let c = passed (check_writes schema writes) _ b.1 in
    (record { key = a.0; row = go row b.0 }, writes_fit schema writes c.0)
  where
    go : (r : Option Row) → (elim r as (λ _. Option Fault) [ None ↦ None | Some r ↦ check_row schema object.0 r ]) ≡ None → IfSome r (RowFits schema object.0)
    go None e = tt
    go (Some r) e = e

-- a row of one whole number fits a table of such rows
number_fits : (schema : Schema) (place : ℕ) (z : ℤ) → check_number schema place ≡ None → check_row schema place (Int z ∷ []) ≡ None
number_fits schema place z none = go (slice_get schema place) none
  where
    at : (columns : List Kind) → length columns ≡ 1
        → (elim columns as (λ _. Option Fault) [ [] ↦ None | kind ∷ kinds ↦ elim kind as (λ _. Option Fault) [ cells.Int ↦ None | cells.Text ↦ Some faults.WrongKind ] ]) ≡ None
        → first_fault (fault_if (not (nat_eq 1 (length columns))) faults.WrongColumns ∷ check_cells columns (Int z ∷ []) ∷ []) ≡ None
    at [] one e = absurd (omega arith)
    at (cells.Int ∷ []) one e = refl
    at (cells.Text ∷ []) one e = cc
    at (first ∷ second ∷ others) one e = absurd (omega arith)

    go : (t : Option Table)
        → (elim t as (λ _. Option Fault) [
          | None ↦ Some faults.NoTable
          | Some table ↦ first_fault (
              fault_if (not (length table.columns == 1)) faults.WrongColumns
              ∷ elim table.columns as (λ _. Option Fault) [ [] ↦ None | kind ∷ kinds ↦ elim kind as (λ _. Option Fault) [ cells.Int ↦ None | cells.Text ↦ Some faults.WrongKind ] ]
              ∷ [])
        ]) ≡ None
        → (elim t as (λ _. Option Fault) [ None ↦ Some faults.NoTable | Some table ↦ first_fault (fault_if (not (nat_eq 1 (length table.columns))) faults.WrongColumns ∷ check_cells table.columns (Int z ∷ []) ∷ []) ]) ≡ None
    go None e = cc
    go (Some table) e =
        let a = passed (fault_if (not (length table.columns == 1)) faults.WrongColumns) _ e in
        let b = passed (elim table.columns as (λ _. Option Fault) [ [] ↦ None | kind ∷ kinds ↦ elim kind as (λ _. Option Fault) [ cells.Int ↦ None | cells.Text ↦ Some faults.WrongKind ] ]) _ a.1 in
        at table.columns (eqb-true (length table.columns) 1 (tests.not_false _ (not_refused _ faults.WrongColumns a.0))) b.0

operation_fits : (schema : Schema) (operation : Operation) → check_operation schema operation ≡ None → OperationIs (QuestionFits schema) (RowFits schema) operation
operation_fits schema (Get place key) none = none
operation_fits schema (Scan place lower upper) none = none
operation_fits schema (Put place key row) none =
    let a = passed (check_key schema place key) _ none in
    (a.0, (passed (check_row schema place row) _ a.1).0)
operation_fits schema (Delete place key) none = none
operation_fits schema (Add place key n) none =
    let a = passed (check_key schema place key) _ none in
    (a.0, λ m. number_fits schema place (held_sum m n) (passed (check_number schema place) _ a.1).0)

operations_fit : (schema : Schema) (operations : List Operation) → check_operations schema operations ≡ None → AllByRecursion (OperationIs (QuestionFits schema) (RowFits schema)) operations
operations_fit schema [] none = tt
operations_fit schema (operation ∷ operations) none =
    let a = passed (check_operation schema operation) _ none in
    (operation_fits schema operation a.0, operations_fit schema operations (passed (check_operations schema operations) _ a.1).0)

request_fits : (world : World) (busy : Option Fault) (session number start : ℕ) (writes : List Write) → refusal_of_request world busy session number start writes ≡ None
    → AllByRecursion (WriteIs (QuestionFits world.settings.schema) (RowFits world.settings.schema)) writes
request_fits world busy session number start writes none =
    let a = passed (refusals.no_session world session) _ none in
    let b = passed (refusals.session_closed world session) _ a.1 in
    let c = passed (refusals.not_due world session number) _ b.1 in
    let d = passed (refusals.session_busy world session) _ c.1 in
    let e = passed busy _ d.1 in
    let f = passed (refusals.numbers_exhausted number) _ e.1 in
    let g = passed (wrong_start world session number start) _ f.1 in
    let h = passed (check_writes world.settings.schema writes) _ g.1 in
    writes_fit world.settings.schema writes h.0

alone_fits : (world : World) (session number : ℕ) (operations : List Operation) → refusal_of_alone world session number operations ≡ None
    → AllByRecursion (OperationIs (QuestionFits world.settings.schema) (RowFits world.settings.schema)) operations
alone_fits world session number operations none =
    let a = passed (refusals.no_session world session) _ none in
    let b = passed (refusals.session_closed world session) _ a.1 in
    let c = passed (refusals.not_due world session number) _ b.1 in
    let d = passed (refusals.session_busy world session) _ c.1 in
    let e = passed (refusals.read_open world session number) _ d.1 in
    let f = passed (refusals.store_busy world) _ e.1 in
    let g = passed (refusals.numbers_exhausted number) _ f.1 in
    let h = passed (fault_if (nat_lt MAX_OPERATIONS (length operations)) faults.SetFull) _ g.1 in
    let i = passed (check_operations world.settings.schema operations) _ h.1 in
    operations_fit world.settings.schema operations i.0

pub event_fits : (world : World) (event : Event) → refusal world event ≡ None → EventIs (QuestionFits world.settings.schema) (RowFits world.settings.schema) event
event_fits world (Read session number start question) none =
    let a = passed (refusals.no_session world session) _ none in
    let b = passed (refusals.session_closed world session) _ a.1 in
    let c = passed (refusals.not_readable world session number) _ b.1 in
    let d = passed (wrong_start world session number start) _ c.1 in
    (passed (check_question world.settings.schema question) _ d.1).0
event_fits world (Forget session number) none = tt
event_fits world (Enter session (Request number start writes)) none = request_fits world None session number start writes none
event_fits world (Enter session (Alone number operations)) none = alone_fits world session number operations none
event_fits world (Enter session (Close number)) none = tt
event_fits world (Decide session) none = tt
event_fits world (WriteOne session) none = tt
event_fits world (Finish session) none = tt
event_fits world (BackUp session) none = tt
event_fits world (SerialEnd session (Request number start writes)) none = request_fits world (refusals.store_busy world) session number start writes none
event_fits world (SerialEnd session (Alone number operations)) none = alone_fits world session number operations none
event_fits world (SerialEnd session (Close number)) none = tt
event_fits world (RunAlone session number operations) none = alone_fits world session number operations none
event_fits world Checkpoint none = tt

-- No step changes the settings.

same_written : (old new : World) (reply : Reply) (session done : ℕ) (row : Rattle.occ_model.specs.Log.LogRow) → WritesOne old session row done reply new → new.settings ≡ old.settings
same_written old new reply session done row writes = go (slice_get row.writes done) writes
  where
    go : (o : Option Write) → MatchOption o
        ((reply ≡ Reply.NoMore) × (new ≡ old))
        (λ write. (reply ≡ Reply.Wrote write.0) × (new ≡ record old { table = Rattle.occ_model.specs.State.put old.table write; log = Rattle.occ_model.specs.World.turn session (Rattle.occ_model.specs.Log.Writing (done + 1)) old.log })) → new.settings ≡ old.settings
    go None w = ap (λ (x : World). x.settings) w.1
    go (Some write) w = ap (λ (x : World). x.settings) w.1

same_ended : (old new : World) (reply : Reply) (session number start : ℕ) (writes : List Write) (valid : Verdict) → EndsSerially old session number start writes valid reply new → new.settings ≡ old.settings
same_ended old new reply session number start writes verdicts.Commit ends = ap (λ (x : World). x.settings) ends.1
same_ended old new reply session number start writes (verdicts.BackUp cause) ends = ap (λ (x : World). x.settings) ends.1

same_taken : (old new : World) (event : Event) (reply : Reply) → Taken old event reply new → new.settings ≡ old.settings
same_taken old new (Read session number start question) reply t = ap (λ (x : World). x.settings) t.1
same_taken old new (Forget session number) reply t = ap (λ (x : World). x.settings) t.1
same_taken old new (Enter session (Request number start writes)) reply t = ap (λ (x : World). x.settings) t.4
same_taken old new (Enter session (Alone number operations)) reply t = ap (λ (x : World). x.settings) t.1
same_taken old new (Enter session (Close number)) reply t = ap (λ (x : World). x.settings) t.1
same_taken old new (Decide session) reply t = ap (λ (x : World). x.settings) t.6
same_taken old new (WriteOne session) reply t = same_written old new reply session t.1 t.0 t.4
same_taken old new (Finish session) reply t = ap (λ (x : World). x.settings) t.5
same_taken old new (BackUp session) reply t = ap (λ (x : World). x.settings) t.1
same_taken old new (SerialEnd session (Request number start writes)) reply t = same_ended old new reply session number start writes (validity_of old session number start writes) t
same_taken old new (SerialEnd session (Alone number operations)) reply t = ap (λ (x : World). x.settings) t.1
same_taken old new (SerialEnd session (Close number)) reply t = ap (λ (x : World). x.settings) t.1
same_taken old new (RunAlone session number operations) reply t = ap (λ (x : World). x.settings) t.1
same_taken old new Checkpoint reply t = ap (λ (x : World). x.settings) t.1

pub same_settings : (old new : World) (event : Event) (reply : Reply) → Step old event reply new → new.settings ≡ old.settings
same_settings old new event reply (refused fault is told same) = ap (λ (x : World). x.settings) same
same_settings old new event reply (starved none takes told same) = ap (λ (x : World). x.settings) same
same_settings old new event reply (taken none t) = same_taken old new event reply t

-- Each step keeps the content within the schema.
pub keeps_in_schema : (old : World) (event : Event) (reply : Reply) (new : World) → Invariant old → IsInSchema old → Step old event reply new → IsInSchema new
keeps_in_schema old event reply new inv content step =
    subst (λ (s : Settings). ContentIs (QuestionFits s.schema) (RowFits s.schema) new) (sym (same_settings old new event reply step))
    (keeps_content (QuestionFits old.settings.schema) (RowFits old.settings.schema) old event reply new inv content (event_fits old event) step)

-- A store that goes on from a base that fits has no other content.
pub resumed_in_schema : (settings : Settings) (base : Base) (counter : ℕ) → StateIs (QuestionFits settings.schema) (RowFits settings.schema) base.state
    → ((session number : ℕ) → finite.get base.last session ≡ Some number → IsSession settings.sessions session) → IsInSchema (resumed settings base counter)
resumed_in_schema settings base counter fits folded = record {
  log = tt;
  marks = λ session mark is. absurd (nothing (sym (finite.get-empty nat_cmp session) ∙ is));
  phases = λ session number phase is. absurd (no_phase (sym (finite.get-empty phase_cmp (session, number)) ∙ is));
  few = λ session number phase is. absurd (no_phase (sym (finite.get-empty phase_cmp (session, number)) ∙ is));
  table = fits;
  base = fits;
  folded = folded;
}
  where
    nothing : {n : ℕ} → None ≡ Some n → ⊥
    nothing e = cc

    no_phase : {p : ReadPhase} → None ≡ Some p → ⊥
    no_phase e = cc

-- And one that was just opened has none at all.
pub opened_in_schema : (settings : Settings) → IsInSchema (opened settings)
opened_in_schema settings = resumed_in_schema settings empty_base 0
    (λ object row is. absurd (no_row (sym (finite.get-empty object_cmp object) ∙ is)))
    (λ session number is. absurd (nothing (sym (finite.get-empty nat_cmp session) ∙ is)))
  where
    nothing : {n : ℕ} → None ≡ Some n → ⊥
    nothing e = cc

    no_row : {r : Row} → None ≡ Some r → ⊥
    no_row e = cc

run_in_schema : (events : List (Event × Reply)) (old new : World) → Invariant old → IsInSchema old → Run old events new → IsInSchema new
run_in_schema [] old new inv content run = subst IsInSchema (sym run) content
run_in_schema (first ∷ others) old new inv content run =
    run_in_schema others run.0 new (keeps old first.0 first.1 run.0 inv run.1) (keeps_in_schema old first.0 first.1 run.0 inv content run.1) run.2

pub runs_stay_in_schema : RunsStayInSchema
runs_stay_in_schema settings events world run = run_in_schema events (opened settings) world (invariant_resumed settings _ 0) (opened_in_schema settings) run

-- And so each step keeps what a running core rests on.
pub keeps_lawful : (old : World) (event : Event) (reply : Reply) (new : World) → IsLawful old → Step old event reply new → IsLawful new
keeps_lawful old event reply new law step = record {
  invariant = keeps old event reply new law.invariant step;
  content = keeps_in_schema old event reply new law.invariant law.content step;
}

pub opened_lawful : (settings : Settings) → IsLawful (opened settings)
opened_lawful settings = record { invariant = invariant_resumed settings _ 0; content = opened_in_schema settings }
