-- The rows that a base is made with.
use Rattle.std.specs.Prelude.{◌≡◌, ℕ, nat_lt, Bool, not, ◌⊎◌, List, [], ◌∷◌, map, Option, None, Some, All}
use Rattle.std.specs.List.{list_any}
use Rattle.std.specs.FinMap as finite
use Rattle.std.specs.Ordering.{eq_by_cmp}
use Rattle.occ_types.specs.Object.{Object, object_cmp}
use Rattle.occ_types.specs.Row.{Row}
use Rattle.occ_types.specs.Schema.{fault_if, first_fault}
use Rattle.occ_types.specs.PlainData.{object_of}
use Rattle.occ_types.specs.declared.fault.Fault.{Fault}
use Rattle.occ_types.specs.declared.fault.Fault.TheVariants.{NoTable, BadSchema, Memory}
use Rattle.occ_types.specs.declared.objects.Object as code_object
use Rattle.occ_model.specs.State.{State, Write, apply}
use Rattle.occ_model.specs.Log.{Base}

-- why a row can't come in: its table is none of so many, or its object is taken by another one
abbrev pub row_fault : ℕ → Object → Bool → Option Fault
row_fault tables object taken =
    first_fault (fault_if (not (nat_lt object.0 tables)) NoTable ∷ fault_if taken BadSchema ∷ [])

-- why some rows can't come in behind those that have taken some objects: the fault of the first one that can't
abbrev pub fault_behind : ℕ → List Object → List (Object × Row) → Option Fault
fault_behind tables taken [] = None
fault_behind tables taken (row ∷ rows) =
    first_fault (row_fault tables row.0 (list_any (eq_by_cmp object_cmp row.0) taken) ∷ fault_behind tables (row.0 ∷ taken) rows ∷ [])

-- why some rows can't be all rows of so many tables: the fault of the first row whose table isn't there, or whose object an earlier row has
abbrev pub rows_fault : ℕ → List (Object × Row) → Option Fault
rows_fault tables rows = fault_behind tables [] rows

-- such a fault is told, or memory was refused before it was found
abbrev pub IsToldAs : Option Fault → Fault → Type 0
IsToldAs due told = (due ≡ Some told) ⊎ (told ≡ Memory)

-- the writes that put some rows, in their order
abbrev pub puts_of : List (Object × Row) → List Write
puts_of = map (λ e. (e.0, Some e.1))

-- what counts as folded where a log begins with some rows: they are what the place 0 wrote, and no session has a number
abbrev pub loaded : List (Object × Row) → Base
loaded rows = record { state = apply finite.empty (puts_of rows); last = finite.empty; place = 1 }

-- the same rows and place, and no session has a number
abbrev pub renumbered : Base → Base
renumbered base = record base { last = finite.empty }

-- a state has each of some rows
abbrev pub HasEach : State → List (Object × Row) → Type 0
HasEach state rows = All (λ e. finite.get state e.0 ≡ Some e.1) rows

module _ {Z : Type 0} where
  -- the plain rows under their plain objects
  abbrev pub plain_rows : List (code_object.Object Z × Row) → List (Object × Row)
  plain_rows = map (λ e. (object_of e.0, e.1))
