-- What clauses see of a state that is kept as lent rows, table by table.
use Rattle.std.specs.Prelude.{◌≡◌, ℕ, nat_eq, not, cond, List, [], ◌∷◌, None}
use Rattle.std.specs.FinMap.{empty, get, insert, retain_keys}
use Rattle.occ_types.specs.Key.{Key}
use Rattle.occ_types.specs.Object.{Object}
use Rattle.occ_types.specs.Question.{Span}
use Rattle.occ_types.specs.Row.{Row}
use Rattle.occ_book.specs.Table.{row_under}
use Rattle.occ_model.specs.State.{State, answer}

-- a table has the same rows in two states
abbrev pub SameTable : ℕ → State → State → Type 0
SameTable table s t = answer (Span table None None) s ≡ answer (Span table None None) t

-- a state has the rows of a table that another one has, and elsewhere those that it had
abbrev pub IsTaken : ℕ → State → State → State → Type 0
IsTaken table taken old new = (object : Object) → get new object ≡ cond (nat_eq object.0 table) (get taken object) (get old object)

-- a state gets these rows of a table, and has elsewhere those that it had
abbrev pub IsPlaced : ℕ → List (Key × Row) → State → State → Type 0
IsPlaced table rows old new = (object : Object) → get new object ≡ cond (nat_eq object.0 table) (row_under rows object.1) (get old object)

-- a state with these rows of a table in place of those that it has there
abbrev pub with_table : ℕ → List (Key × Row) → State → State
with_table table [] state = retain_keys state (λ object. not (nat_eq object.0 table))
with_table table (e ∷ es) state = insert (with_table table es state) (table, e.0) e.1

-- the state of some tables, each with its rows
unfoldable pub state_of : List (ℕ × List (Key × Row)) → State
state_of [] = empty
state_of (e ∷ es) = with_table e.0 e.1 (state_of es)
