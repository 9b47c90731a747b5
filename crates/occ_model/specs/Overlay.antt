-- A private copy: the writes of a transaction in its read phase, and what it reads through them (Kung and Robinson, section 2).
use Rattle.std.specs.Prelude.{ℕ, List, [], ◌∷◌, map, Option, None, Some, cond}
use Rattle.std.specs.Ordering.{eq_by_cmp}
use Rattle.std.specs.FinMap.{from_entries}
use Rattle.occ_types.specs.Key.{Key}
use Rattle.occ_types.specs.Object.{Object, object_cmp}
use Rattle.occ_types.specs.Question.{Question, One, Span}
use Rattle.occ_types.specs.Row.{Row}
use Rattle.occ_model.specs.State.{State, Write, Answer, Found, Rows, answer, apply}

-- the writes with one more: a new object goes last, one that is there keeps its place and takes the new row
abbrev pub set : List Write → Object → Option Row → List Write
set [] object row = (object, row) ∷ []
set (write ∷ writes) object row =
    cond (eq_by_cmp object_cmp object write.0) ((write.0, row) ∷ writes) (write ∷ set writes object row)

-- the own write of an object: none where there is none, and else its new row or none where it is deleted
abbrev pub own : List Write → Object → Option (Option Row)
own [] object = None
own (write ∷ writes) object = cond (eq_by_cmp object_cmp object write.0) (Some write.1) (own writes object)

-- the rows of a table alone, as a state
abbrev pub rows_of : ℕ → List (Key × Row) → State
rows_of table rows = from_entries (map (λ e. ((table, e.0), e.1)) rows)

-- The table's answer with the own writes over it: for One the own write where there is one, for Span the rows with the own writes of the range applied.
abbrev pub overlay : Question → List Write → Answer → Answer
overlay (One table key) writes given = elim (own writes (table, key)) [ None ↦ given | Some row ↦ Found row ]
overlay (Span table lower upper) writes (Rows rows) = answer (Span table lower upper) (apply (rows_of table rows) writes)
overlay (Span table lower upper) writes (Found row) = Found row
