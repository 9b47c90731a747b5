-- What the overlay of a range keeps as it goes.
use Rattle.std.specs.Prelude.{◌≡◌, List, map, Option, None, Some, cond}
use Rattle.std.specs.FinMap.{get, entries, retain_keys}
use Rattle.std.specs.Map.{lookup}
use Rattle.std.specs.Ordering.{is_eq}
use Rattle.occ_types.specs.declared.keys.Key as code_key
use Rattle.occ_types.specs.Key.{Key, key_cmp}
use Rattle.occ_types.specs.Question.{Question, asks}
use Rattle.occ_types.specs.Row.{Row}
use Rattle.occ_types.specs.PlainData.{key_of, table_asked}
use Rattle.occ_model.specs.State.{State, Write, Answer, Found, put, apply}
use Rattle.occ_model.specs.Overlay.{rows_of}

-- the answer for a single key, from the own write and what the table answers
abbrev pub over_row : Option (Option Row) → Answer → Answer
over_row None given = given
over_row (Some row) given = Found row

-- the rows of a range, from the own writes and the rows that the table answers
abbrev pub rows_over : Question → List Write → List (Key × Row) → List (Key × Row)
rows_over question writes rows =
    map (λ e. (e.0.1, e.1)) (entries (retain_keys (apply (rows_of (table_asked question) rows) writes) (asks question)))

-- what an overlay is of: the question, and the own writes
pub record Overlaid : Type 0 where
  pub question : Question
  pub writes : List Write

module _ {Z : Type 0} where
  -- entries that have, of the keys that are asked for, what a state has
  pub record Agrees (question : Question) (es : List (code_key.Key Z × Row)) (state : State) : Type 0 where
    pub at : (k : code_key.Key Z) → lookup (λ x. is_eq (key_cmp (key_of k) (key_of x))) es ≡ cond (asks question (table_asked question, key_of k)) (get state (table_asked question, key_of k)) None

  -- what agreed before a write agrees after it
  abbrev pub FollowsWrite : Question → List (code_key.Key Z × Row) → List (code_key.Key Z × Row) → Write → Type 0
  FollowsWrite question old new write = (state : State) → Agrees question old state → Agrees question new (put state write)

  -- what agreed before some writes agrees after them
  abbrev pub FollowsWrites : Question → List (code_key.Key Z × Row) → List (code_key.Key Z × Row) → List Write → Type 0
  FollowsWrites question old new writes = (state : State) → Agrees question old state → Agrees question new (apply state writes)
