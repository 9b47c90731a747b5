-- A store can always go on from an empty base, so what is refused then is for want of memory.
use Rattle.std.proofs.Common.{◌≡◌, ◌⊎◌, ℕ, zero, suc, Bool, true, false, not, ◌&&◌, List, [], ◌∷◌, map, length, Option, None, Some, cond, inl, inr, refl, sym, ap, ◌∙◌, arith}
use Rattle.std.specs.Prelude.{nat_eq, nat_lt, unwrap_or}
use Rattle.std.specs.Ordering.{nat_cmp}
use Rattle.std.proofs.lemmas.Bool.{eq-eqb, le-ltb}
use Rattle.std.specs.FinMap as finite
use Rattle.occ_types.specs.declared.fault.Fault.{Fault}
use Rattle.occ_types.specs.declared.fault.Fault.TheVariants as faults
use Rattle.occ_types.specs.declared.limits.TheConstants.{MAX_COUNTER, MAX_NUMBER}
use Rattle.occ_types.specs.Row.{Row}
use Rattle.occ_types.specs.Object.{Object, object_cmp, object_cmp_total, object_cmp-IsAntisymmetric}
use Rattle.occ_types.specs.Question.{Span, asks}
use Rattle.occ_types.specs.Schema.{Schema, fault_if, first_fault}
use Rattle.occ_model.specs.State.{Answer, Found, Rows, answer}
use Rattle.occ_model.specs.World.{empty_base}
use Rattle.occ_book.specs.Base.{BaseContent}
use Rattle.occ_core.specs.declared.checkpoint.TheConstants.{MAX_PLACE}
use Rattle.occ_core.specs.Resuming.{rows_fault, table_fault, tables_fault, numbers_fault, is_unbegun, front_fault, state_fault, resume_fault, CannotGoOn}

-- ---- no row

kept_none : (b : Bool) (found : Option Row) → found ≡ None → cond b found None ≡ None
kept_none true found none = none
kept_none false found none = refl

none_kept : (test : Object → Bool) → finite.retain_keys finite.empty test ≡ finite.empty {X = Row} {R = object_cmp}
none_kept test = finite.same_map object_cmp_total object_cmp-IsAntisymmetric (finite.retain_keys finite.empty test) finite.empty (λ object.
    finite.get-retain_keys finite.empty test object (λ x tie. sym (ap test (object_cmp-IsAntisymmetric object x tie)))
    ∙ kept_none (test object) (finite.get finite.empty object) (finite.get-empty object_cmp object) ∙ sym (finite.get-empty object_cmp object))

no_entries : (entries : List (Object × Row)) → length entries ≡ 0 → entries ≡ []
no_entries [] none = refl
no_entries (entry ∷ entries) none = absurd (omega arith)

no_rows : (table : ℕ) → answer (Span table None None) finite.empty ≡ Rows []
unfolding answer
no_rows table =
    let none : finite.entries (finite.retain_keys finite.empty (asks (Span table None None))) ≡ [] = ap finite.entries (none_kept (asks (Span table None None)))
    ∙ no_entries (finite.entries finite.empty) (sym (finite.len-entries finite.empty) ∙ finite.len-empty object_cmp Row) in
    ap (λ (es : List (Object × Row)). Rows (map (λ e. (e.0.1, e.1)) es)) none

no_table_fault : (schema : Schema) (table : ℕ) → table_fault schema finite.empty table ≡ None
no_table_fault schema table = ap (λ (a : Answer). elim a [ Found row ↦ None | Rows rows ↦ rows_fault schema table rows ]) (no_rows table)

no_tables_fault : (schema : Schema) (table count : ℕ) → tables_fault schema finite.empty table count ≡ None
no_tables_fault schema table zero = refl
no_tables_fault schema table (suc count) = λ i. first_fault (no_table_fault schema table i ∷ no_tables_fault schema (suc table) count i ∷ [])

-- ---- no number

no_numbers_fault : (session count : ℕ) → numbers_fault finite.empty session count ≡ None
no_numbers_fault session zero = refl
no_numbers_fault session (suc count) =
    λ i. first_fault (fault_if (nat_lt MAX_NUMBER (unwrap_or (finite.get-empty {X = ℕ} nat_cmp session i) 0)) faults.NumbersExhausted ∷ no_numbers_fault (suc session) count i ∷ [])

-- ---- no fault

-- an empty base of so many tables and sessions
abbrev pub content_of : ℕ → ℕ → BaseContent
content_of sessions tables = record { tables = tables; sessions = sessions; base = empty_base }

-- and of as many tables as a schema has
abbrev empty_content : Schema → ℕ → BaseContent
empty_content schema sessions = content_of sessions (length schema)

is_begun : is_unbegun empty_base ≡ false
is_begun = λ i. nat_eq 0 0 && not (nat_eq (finite.len-empty object_cmp Row i) 0 && nat_eq (finite.len-empty nat_cmp ℕ i) 0)

no_front_fault : (schema : Schema) (sessions : ℕ) → front_fault schema sessions (empty_content schema sessions) 0 ≡ None
no_front_fault schema sessions =
    let tables : nat_eq (length schema) (length schema) ≡ true = eq-eqb (length schema) (length schema) refl in
    let few : nat_lt sessions sessions ≡ false = le-ltb sessions sessions (omega arith) in
    λ i. first_fault (
    fault_if (not (tables i)) faults.NoTable
    ∷ fault_if (few i) faults.NoSession
    ∷ fault_if (nat_lt MAX_COUNTER 0) faults.CounterExhausted
    ∷ fault_if (nat_lt MAX_PLACE 0) faults.LogFull
    ∷ no_numbers_fault 1 sessions i
    ∷ [])

no_state_fault : (schema : Schema) → state_fault schema empty_base ≡ None
no_state_fault schema = λ i. first_fault (fault_if (is_begun i) faults.OutOfTurn ∷ no_tables_fault schema 0 (length schema) i ∷ [])

goes_on : (schema : Schema) (sessions : ℕ) → resume_fault schema sessions (empty_content schema sessions) 0 ≡ None
goes_on schema sessions = λ i. first_fault (no_front_fault schema sessions i ∷ no_state_fault schema i ∷ [])

no_other : (fault : Fault) → None ≡ Some fault → fault ≡ faults.Memory
no_other fault is = cc

-- What is refused is for want of memory.
pub lacks_memory : (schema : Schema) (sessions count : ℕ) (content : BaseContent) (fault : Fault) → content ≡ content_of sessions count → count ≡ length schema
    → (fault ≡ faults.Memory) ⊎ CannotGoOn schema sessions content 0 fault → fault ≡ faults.Memory
lacks_memory schema sessions count content fault is all (inl memory) = memory
lacks_memory schema sessions count content fault is all (inr (inl told)) =
    let none = sym (ap (λ (c : BaseContent). resume_fault schema sessions c 0) (is ∙ ap (content_of sessions) all) ∙ goes_on schema sessions) ∙ told in
    no_other fault none
lacks_memory schema sessions count content fault is all (inr (inr memory)) = memory.0
