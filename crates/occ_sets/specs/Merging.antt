-- The own writes of a range laid over the rows that a table answers, in one pass over both.
use Rattle.std.specs.Prelude.{◌≡◌, List, [], ◌∷◌, ◌++◌, Option, None, Some, cond}
use Rattle.std.specs.declared.cmp.Ordering.{Ordering}
use Rattle.std.specs.declared.cmp.Ordering.TheVariants.{Greater}
use Rattle.std.specs.FinMap.{get}
use Rattle.std.specs.FinMap.Entries.{by_order}
use Rattle.std.specs.Map.{lookup}
use Rattle.std.specs.Ordering.{is_eq}
use Rattle.occ_types.specs.declared.keys.Key as code_key
use Rattle.occ_types.specs.Key.{key_cmp}
use Rattle.occ_types.specs.Question.{Question, asks}
use Rattle.occ_types.specs.Row.{Row}
use Rattle.occ_types.specs.PlainData.{key_of, table_asked}
use Rattle.occ_model.specs.State.{State, Write, put}

module _ {K : Type 0} where
  -- the row that a write puts, or none where it deletes
  abbrev pub row_put : K → Option Row → List (K × Row)
  row_put key None = []
  row_put key (Some row) = (key, row) ∷ []

  -- the rows that writes put
  abbrev pub rows_put : List (K × Option Row) → List (K × Row)
  rows_put [] = []
  rows_put (write ∷ writes) = row_put write.0 write.1 ++ rows_put writes

  -- the first write goes behind the rows that are laid
  abbrev pub LaysFirst : List (K × Option Row) → List (K × Option Row) → List (K × Row) → List (K × Row) → Type 0
  LaysFirst [] new before after = (new ≡ []) × (after ≡ before)
  LaysFirst (write ∷ writes) new before after = (new ≡ writes) × (after ≡ before ++ row_put write.0 write.1)

  module _ (cmp : K → K → Ordering) where
    -- how the first write stands to a key; above it where there is none
    abbrev pub first_to : List (K × Option Row) → K → Ordering
    first_to [] key = Greater
    first_to (write ∷ writes) key = cmp write.0 key

    -- the writes up to a row, then the row or its own write, and then what is made of the other writes
    abbrev pub laid : K → Row → (List (K × Option Row) → List (K × Row)) → List (K × Option Row) → List (K × Row)
    laid key row others [] = (key, row) ∷ others []
    laid key row others (write ∷ writes) = by_order (cmp write.0 key)
        (row_put write.0 write.1 ++ laid key row others writes)
        (row_put write.0 write.1 ++ others writes)
        ((key, row) ∷ others (write ∷ writes))

    -- rows and writes, both in the order of their keys, as one list
    abbrev pub merged : List (K × Row) → List (K × Option Row) → List (K × Row)
    merged [] writes = rows_put writes
    merged (row ∷ rows) writes = laid row.0 row.1 (merged rows) writes

    -- the writes up to a row, and the row, go behind the rows that are laid
    abbrev pub LaysRow : K → Row → List (K × Option Row) → List (K × Option Row) → List (K × Row) → List (K × Row) → Type 0
    LaysRow key row old new before after = (others : List (K × Option Row) → List (K × Row)) → after ++ others new ≡ before ++ laid key row others old

-- the row after a write of its key, or as it was where there is none
abbrev pub row_after : Option (Option Row) → Option Row → Option Row
row_after None row = row
row_after (Some written) row = written

module _ {Z : Type 0} where
  -- among the keys that are asked for, the writes lead from one state to another
  pub record Led (question : Question) (own : List (code_key.Key Z × Option Row)) (from to : State) : Type 0 where
    pub at : (k : code_key.Key Z) → cond (asks question (table_asked question, key_of k)) (get to (table_asked question, key_of k)) None
        ≡ row_after (lookup (λ x. is_eq (key_cmp (key_of k) (key_of x))) own) (cond (asks question (table_asked question, key_of k)) (get from (table_asked question, key_of k)) None)

  -- what led to a state leads further after one more write
  abbrev pub LedFurther : Question → List (code_key.Key Z × Option Row) → List (code_key.Key Z × Option Row) → Write → Type 0
  LedFurther question old new write = (from to : State) → Led question old from to → Led question new from (put to write)
