-- What a store answers to an open transaction, and what is shown of it.
use Rattle.std.proofs.Common.{◌≡◌, ◌==◌, ℕ, ◌≤◌, Bool, true, false, nat_lt, List, length, Option, None, refl, sym, ap, subst, ◌∙◌, arith, MatchOption}
use Rattle.std.proofs.lemmas.Bool.{eqb-true}
use Rattle.std.proofs.lemmas.Bool.Decides.{nat_tests}
use Rattle.std.proofs.lemmas.List.{nil_from_length}
use Rattle.occ_types.specs.declared.fault.Fault.{Fault}
use Rattle.occ_types.specs.declared.fault.Fault.TheVariants as faults
use Rattle.occ_types.specs.declared.limits.TheConstants.{MAX_ANSWER_ROWS}
use Rattle.occ_types.specs.Key.{Key}
use Rattle.occ_types.specs.Object.{Object}
use Rattle.occ_types.specs.Row.{Row}
use Rattle.occ_types.specs.Question.{Question, One}
use Rattle.occ_types.specs.Schema.{Schema, fault_if, check_key, check_question}
use Rattle.occ_model.specs.State.{State, Write, Answer, Found, Rows, answer_size}
unfoldable use Rattle.occ_model.specs.State.{answer}
use Rattle.occ_model.specs.Overlay.{overlay, own}
use Rattle.occ_model.specs.World.{World}
use Rattle.occ_model.specs.Refusal as refusals
use Rattle.occ_model.specs.Event.{Event, Reply, Read, Answered, Refused}
use Rattle.occ_model.specs.Step.{Step, refused, starved, taken}
use Rattle.occ_model.proofs.Admitted.{passed}
use Rattle.occ_sets.specs.Overlays.{rows_over}
use Rattle.occ_sets.specs.Sets.{Copied}
use Rattle.occ_sets.proofs.Agreement.{overlay-Span}
use Rattle.occ_open.specs.Transactions.{CopyGetsBy, CopyScansBy, IsSpan, UnlessBy, overlaid}

-- a question under the number and the start that a copy tells
pub asked_so : (Moves : Event → Type 0) (session n m number start : ℕ) (asked question : Question)
    → n ≡ number → m ≡ start → question ≡ asked → Moves (Read session n m asked) → Moves (Read session number start question)
asked_so Moves session n m number start asked question is_number is_start is_question moved =
    let event : Read session n m asked ≡ Read session number start question = cc in
    subst Moves event moved

same_rows : (a b : Answer) → Answered a ≡ Answered b → a ≡ b
same_rows a b e = cc

no_answer : {X : Type 0} (a : Answer) (fault : Fault) → Answered a ≡ Refused fault → X
no_answer a fault e = cc

unmet : (b : Bool) (fault : Fault) → fault_if b fault ≡ None → b ≡ false
unmet true fault e = cc
unmet false fault e = refl

few_rows : (world : World) (question : Question) → refusals.range_too_large world question ≡ None → answer_size (answer question world.table) ≤ MAX_ANSWER_ROWS
few_rows world question none =
    let small : nat_lt MAX_ANSWER_ROWS (answer_size (answer question world.table)) ≡ false = unmet _ faults.RangeTooLarge none in
    grind (arith, nat_tests)

-- what a table may answer to a range: no more rows than an answer may have
pub record MayAnswer (question : Question) (rows : List (Key × Row)) : Type 0 where
  pub state : State
  pub answers : answer question state ≡ Rows rows
  pub few : length rows ≤ MAX_ANSWER_ROWS

-- what a store answers is what its table may answer
pub answered : (old : World) (session number start : ℕ) (question : Question) (rows : List (Key × Row)) (new : World)
    → Step old (Read session number start question) (Answered (Rows rows)) new → MayAnswer question rows
answered old session number start question rows new (refused fault is reply same) = no_answer (Rows rows) fault reply
answered old session number start question rows new (starved none takes reply same) = no_answer (Rows rows) faults.Memory reply
answered old session number start question rows new (taken none does) =
    let a = passed (refusals.no_session old session) _ none in
    let b = passed (refusals.session_closed old session) _ a.1 in
    let c = passed (refusals.not_readable old session number) _ b.1 in
    let d = passed (refusals.wrong_start old session number start) _ c.1 in
    let e = passed (check_question old.settings.schema question) _ d.1 in
    let f = passed (refusals.range_too_large old question) _ e.1 in
    let same : answer question old.table ≡ Rows rows = sym (same_rows (Rows rows) (answer question old.table) does.0) in
    record {
      state = old.table;
      answers = same;
      few = subst (λ a. answer_size a ≤ MAX_ANSWER_ROWS) same (few_rows old question f.0);
    }

-- and it is what the table has
pub table_answers : (old : World) (session number start : ℕ) (question : Question) (rows : List (Key × Row)) (new : World)
    → Step old (Read session number start question) (Answered (Rows rows)) new → answer question old.table ≡ Rows rows
table_answers old session number start question rows new (refused fault is reply same) = no_answer (Rows rows) fault reply
table_answers old session number start question rows new (starved none takes reply same) = no_answer (Rows rows) faults.Memory reply
table_answers old session number start question rows new (taken none does) = sym (same_rows (Rows rows) (answer question old.table) does.0)

-- the rows that are shown have the own writes over them
pub shown : (question : Question) → IsSpan question → (writes : List Write) (rows over : List (Key × Row)) → over ≡ rows_over question writes rows
    → Answered (Rows over) ≡ overlaid question writes (Answered (Rows rows))
shown question (table, lower, upper, is) writes rows over e =
    ap (λ r. Answered (Rows r)) e
    ∙ ap (λ q. Answered (Rows (rows_over q writes rows))) is
    ∙ ap Answered (overlay-Span table lower upper writes rows)
    ∙ ap (λ q. Answered (overlay q writes (Rows rows))) (sym is)

-- where nothing is written, no key has an own write
pub nothing_own : (writes : List Write) (object : Object) → (length writes == 0) ≡ true → None ≡ own writes object
nothing_own writes object none = ap (λ (w : List Write). own w object) (sym (nil_from_length writes (eqb-true (length writes) 0 none)))

-- a key that fits and has no own write is asked for
pub got : (schema : Schema) (Stays : Type 0) (Moves : Event → Reply → Type 0) (session : ℕ) (object : Object) (copy : Copied) (reply : Reply) (asked : Schema)
    → None ≡ check_key asked object.0 object.1 → asked ≡ schema → None ≡ own copy.writes object → Moves (Read session copy.number copy.start (One object.0 object.1)) reply
    → CopyGetsBy schema Stays Moves session object copy reply
got schema Stays Moves session object copy reply asked fits is none moved =
    subst (λ (f : Option Fault). UnlessBy f Stays reply (MatchOption (own copy.writes object) (Moves (Read session copy.number copy.start (One object.0 object.1)) reply) (λ row. (reply ≡ Answered (Found row)) × Stays)))
    (fits ∙ ap (λ s. check_key s object.0 object.1) is)
    (subst (λ (o : Option (Option Row)). MatchOption o (Moves (Read session copy.number copy.start (One object.0 object.1)) reply) (λ row. (reply ≡ Answered (Found row)) × Stays)) none moved)

-- a range that fits is asked for
pub scanned : (schema : Schema) (Stays : Type 0) (Moves : Event → Reply → Type 0) (session : ℕ) (question : Question) (copy : Copied) (given reply : Reply)
    → check_question schema question ≡ None → Moves (Read session copy.number copy.start question) given → reply ≡ overlaid question copy.writes given
    → CopyScansBy schema Stays Moves session question copy reply
scanned schema Stays Moves session question copy given reply fits moved so =
    subst (λ (f : Option Fault). UnlessBy f Stays reply ((r : Reply) × Moves (Read session copy.number copy.start question) r × (reply ≡ overlaid question copy.writes r)))
    (sym fits) (given, moved, so)
