-- What one operation adds to what the earlier ones did.
use Rattle.std.proofs.Common.{◌≡◌, ℕ, ℤ, ◌+◌, ◌<◌, ◌≤◌, List, [], ◌∷◌, Option, Some, length, get_or, drop, sym, ap, ◌∙◌}
use Rattle.std.proofs.lemmas.List.{drop_all}
use Rattle.occ_types.proofs.Walks.{drop_at}
use Rattle.occ_types.specs.Key.{Key}
use Rattle.occ_types.specs.Question.{Question, One, Span}
use Rattle.occ_types.specs.Row.{Row, Int}
use Rattle.occ_model.specs.State.{State, Write, Answer, Rows, Observation, answer}
use Rattle.occ_model.specs.Overlay.{set, overlay}
use Rattle.occ_model.specs.Operations.{Add, Progress, asked, seen, number_in, held_sum, perform, perform_all}
use Rattle.occ_sets.specs.declared.operations.Op.{Op}
use Rattle.occ_sets.specs.Operations.{op_of, ops_of}
use Rattle.occ_sets.specs.Overlays.{rows_over}
use Rattle.occ_sets.proofs.Agreement.{overlay-Span}
use Rattle.occ_core.specs.Performed.{so_far}

-- an addition, from what it asked, saw and wrote
pub added : (state : State) (before : Progress) (table : ℕ) (key copy other : Key) (amount number : ℤ) (row : Row) (given : Answer) (reads : List Observation) (writes : List Write)
    → copy ≡ key
    → other ≡ key
    → reads ≡ asked state (One table copy) (so_far before.reads before.writes)
    → given ≡ seen state (One table copy) (so_far before.reads before.writes)
    → number ≡ number_in given
    → row ≡ Int (held_sum number amount) ∷ []
    → writes ≡ set before.writes (table, other) (Some row)
    → (record { reads = reads; writes = writes; answers = before.answers }) ≡ perform state (Add table key amount) before
added state before table key copy other amount number row given reads writes k l r g n w s =
    let sees = λ (k : Key). seen state (One table k) (so_far before.reads before.writes) in
    let same_reads = r ∙ ap (λ k. asked state (One table k) (so_far before.reads before.writes)) k in
    let same_number : number ≡ number_in (sees key) = n ∙ ap number_in (g ∙ ap sees k) in
    let same_row : row ≡ Int (held_sum (number_in (sees key)) amount) ∷ [] = w ∙ ap (λ m. Int (held_sum m amount) ∷ []) same_number in
    let same_writes : writes ≡ set before.writes (table, key) (Some (Int (held_sum (number_in (sees key)) amount) ∷ [])) = s ∙ (λ i. set before.writes (table, l i) (Some (same_row i))) in
    λ i. record { reads = same_reads i; writes = same_writes i; answers = before.answers }

-- what is seen of a range, from the rows that the table answers
pub ranged : (state : State) (before : Progress) (table : ℕ) (lower upper : Option Key) (question : Question) (given laid : List (Key × Row))
    → question ≡ Span table lower upper
    → Rows given ≡ answer (Span table lower upper) state
    → laid ≡ rows_over question before.writes given
    → Rows laid ≡ seen state (Span table lower upper) before
ranged state before table lower upper question given laid q g l =
    ap Rows (l ∙ ap (λ q. rows_over q before.writes given) q)
    ∙ overlay-Span table lower upper before.writes given
    ∙ ap (overlay (Span table lower upper) before.writes) g

module _ {Z : Type 0} where
  -- one operation more is performed, and the rest is left
  pub perform_more : (state : State) (operations : List (Op Z)) (i : ℕ) (o : Op Z) (before after : Progress) → i < length operations → o ≡ get_or operations i o → after ≡ perform state (op_of o) before
      → perform_all state (ops_of (drop (i + 1) operations)) after ≡ perform_all state (ops_of (drop i operations)) before
  perform_more state operations i o before after h e done =
      ap (perform_all state (ops_of (drop (i + 1) operations))) done ∙ sym (ap (λ (l : List (Op Z)). perform_all state (ops_of l) before) (drop_at operations i o o h e))

  -- where none is left, all are performed
  pub performed_all : (state : State) (operations : List (Op Z)) (i : ℕ) (done all : Progress) → length operations ≤ i → perform_all state (ops_of (drop i operations)) done ≡ all → done ≡ all
  performed_all state operations i done all h e = sym (ap (λ (l : List (Op Z)). perform_all state (ops_of l) done) (drop_all i operations h)) ∙ e
