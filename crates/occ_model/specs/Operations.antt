-- The operations of a transaction that runs alone, in one step (our own choice).
use Rattle.std.specs.Prelude.{ℕ, ℤ, pos, ◌+ℤ◌, List, [], ◌∷◌, ◌++◌, Option, None, Some}
use Rattle.std.specs.Int.{saturate_signed, w64}
use Rattle.occ_types.specs.Key.{Key}
use Rattle.occ_types.specs.Row.{Row, Int}
use Rattle.occ_types.specs.Question.{Question, One, Span}
use Rattle.occ_model.specs.State.{State, Write, Answer, Found, Observation, answer}
use Rattle.occ_model.specs.Overlay.{set, own, overlay}

pub data Operation : Type 0 where
  Get : ℕ → Key → Operation
  Scan : ℕ → Option Key → Option Key → Operation
  Put : ℕ → Key → Row → Operation
  Delete : ℕ → Key → Operation
  -- adds to the one whole number of a row
  Add : ℕ → Key → ℤ → Operation

-- what has been read from the table, written and answered so far
pub record Progress : Type 0 where
  pub reads : List Observation
  pub writes : List Write
  pub answers : List Answer

abbrev pub nothing_yet : Progress
nothing_yet = record { reads = []; writes = []; answers = [] }

-- a question asked of the table; a single key that was written is not asked
abbrev pub asked : State → Question → Progress → List Observation
asked table (One place key) so_far =
    elim (own so_far.writes (place, key)) [ None ↦ so_far.reads ++ (One place key, answer (One place key) table) ∷ [] | Some row ↦ so_far.reads ]
asked table (Span place lower upper) so_far =
    so_far.reads ++ (Span place lower upper, answer (Span place lower upper) table) ∷ []

-- what the operation sees: the table's answer under its own writes
abbrev pub seen : State → Question → Progress → Answer
seen table question so_far = overlay question so_far.writes (answer question table)

-- the whole number in a row of one cell, and 0 where there is no row
abbrev pub number_in : Answer → ℤ
number_in (Found (Some (Int n ∷ []))) = n
number_in _ = pos 0

-- the sum, held at the ends of 64 bits
abbrev pub held_sum : ℤ → ℤ → ℤ
held_sum m n = saturate_signed w64 (m +ℤ n)

abbrev pub perform : State → Operation → Progress → Progress
perform table (Get place key) so_far = record so_far {
  reads = asked table (One place key) so_far;
  answers = so_far.answers ++ seen table (One place key) so_far ∷ [];
}
perform table (Scan place lower upper) so_far = record so_far {
  reads = asked table (Span place lower upper) so_far;
  answers = so_far.answers ++ seen table (Span place lower upper) so_far ∷ [];
}
perform table (Put place key row) so_far = record so_far { writes = set so_far.writes (place, key) (Some row) }
perform table (Delete place key) so_far = record so_far { writes = set so_far.writes (place, key) None }
perform table (Add place key n) so_far = record so_far {
  reads = asked table (One place key) so_far;
  writes = set so_far.writes (place, key) (Some (Int (held_sum (number_in (seen table (One place key) so_far)) n) ∷ []));
}

-- the operations in their order
abbrev pub perform_all : State → List Operation → Progress → Progress
perform_all table [] so_far = so_far
perform_all table (operation ∷ operations) so_far = perform_all table operations (perform table operation so_far)
