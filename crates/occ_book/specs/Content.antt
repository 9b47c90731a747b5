-- What clauses see of the tables: how many they are, and the rows of all.
use Rattle.std.specs.Prelude.{◌≡◌, ◌<◌, ◌≤◌, ℕ, suc, length, Vec, Bool, false, ◌&&◌, cond, List, [], ◌∷◌, ◌++◌, map, Option, None, Some, refl}
use Rattle.std.specs.Coded.{Coded, code_by, coded×, coded_ℕ, coded_list}
use Rattle.std.specs.declared.ops.Bound.{Bound}
use Rattle.std.specs.declared.ops.Bound.TheVariants.{Included, Excluded, Unbounded}
use Rattle.std.specs.Ordering.{on, is_eq, is_gt}
use Rattle.std.specs.List.{filter}
use Rattle.std.specs.BTreeMap.{BTreeMap, get}
use Rattle.std.specs.FinMap as finite
use Rattle.occ_types.specs.Key.{Key, key_cmp}
use Rattle.occ_types.specs.Object.{Object}
use Rattle.occ_types.specs.Row.{Row}
use Rattle.occ_types.specs.Question.{is_from, is_below}
use Rattle.occ_types.specs.PlainData.{key_of}
use Rattle.occ_types.specs.Codes.{key_code, cell_code}
use Rattle.occ_types.specs.declared.keys.Key as code_key
use Rattle.occ_model.specs.State.{State, Answer, Rows, answer_size}

-- how many tables there are, and the rows of all
pub record Content : Type 0 where
  pub tables : ℕ
  pub state : State

-- the code of a state
abbrev pub state_code : Coded State
state_code = finite.code (coded× coded_ℕ key_code) (coded_list cell_code)

-- the code of what the tables hold
abbrev pub content_code : Coded Content
content_code =
    code_by (ℕ × State) (coded× coded_ℕ state_code) (λ c. (c.tables, c.state)) (λ p. record { tables = p.0; state = p.1 }) (λ _. refl)

-- whether a key lies from a lower end on and below an upper one; either may be missing
abbrev pub is_within : Option Key → Option Key → Key → Bool
is_within lower upper key = is_from lower key && is_below upper key

-- whether both ends are there, and the lower one is above the upper one
abbrev pub is_backward : Option Key → Option Key → Bool
is_backward None upper = false
is_backward (Some lower) None = false
is_backward (Some lower) (Some upper) = is_gt (key_cmp lower upper)

-- a lower end as a bound, which lies within
abbrev pub lower_bound : {K : Type 0} → Option K → Bound K
lower_bound None = Unbounded
lower_bound (Some end) = Included end

-- an upper end as a bound, which lies outside
abbrev pub upper_bound : {K : Type 0} → Option K → Bound K
upper_bound None = Unbounded
upper_bound (Some end) = Excluded end

-- the rows of the table at a place, under their objects
abbrev pub placed : ℕ → List (Key × Row) → List (Object × Row)
placed place = map (λ e. ((place, e.0), e.1))

-- the rows of all tables, of which the first one stands at a place
abbrev pub placed_from : ℕ → List (List (Key × Row)) → List (Object × Row)
placed_from place [] = []
placed_from place (rows ∷ others) = placed place rows ++ placed_from (suc place) others

-- the state of some tables
unfoldable pub state_of : List (List (Key × Row)) → State
state_of tables = finite.from_entries (placed_from 0 tables)

-- what some tables hold
abbrev pub content_of : List (List (Key × Row)) → Content
content_of tables = record { tables = length tables; state = state_of tables }

module _ {Z : Type 0} where
  -- the key and the row of an entry
  abbrev pub seen : code_key.Key Z × Row → Key × Row
  seen e = (key_of e.0, e.1)

  -- the entries whose keys lie between two ends
  abbrev pub entries_within : Option Key → Option Key → List (code_key.Key Z × Row) → List (code_key.Key Z × Row)
  entries_within lower upper = filter (λ e. is_within lower upper (key_of e.0))

  -- the rows of an answer where they are at most so many, and none where they are more
  abbrev pub AnswersUpTo : ℕ → Answer → Option (Vec (code_key.Key Z × Row) Z) → Type 0
  AnswersUpTo most given None = most < answer_size given
  AnswersUpTo most given (Some rows) = (answer_size given ≤ most) × (Rows (map seen rows.items) ≡ given)

  -- n has the row, or none, at the key, and elsewhere what m has
  abbrev pub IsPut : BTreeMap (code_key.Key Z) Row → code_key.Key Z → Option Row → BTreeMap (code_key.Key Z) Row → Type 0
  IsPut m key row n = (q : code_key.Key Z)
      → get (on key_of key_cmp) n q ≡ cond (is_eq (on key_of key_cmp key q)) row (get (on key_of key_cmp) m q)
