-- Writes that are due at the places of their objects.
use Rattle.std.specs.Prelude.{ℕ, ◌<◌, List, [], ◌∷◌, Option, length, slice_get}
use Rattle.std.specs.List.{AllByRecursion}
use Rattle.std.specs.Option.{option_map_or}
use Rattle.occ_types.specs.declared.objects.Object as code_object
use Rattle.occ_types.specs.Object.{Object}
use Rattle.occ_types.specs.Row.{Row}
use Rattle.occ_model.specs.State.{Write}
use Rattle.occ_sets.specs.PlainSets.{writes_of}
use Rattle.occ_sets.specs.Sets.{objects}

-- the writes that are due, by the objects that have these places
abbrev pub due_at : List Object → List (ℕ × Option Row) → List Write
due_at objects [] = []
due_at objects (due ∷ others) = option_map_or (λ object. (object, due.1) ∷ due_at objects others) (slice_get objects due.0) (due_at objects others)

module _ {Z : Type 0} where
  -- the objects of some entries, in their order
  abbrev pub objects_of : List (code_object.Object Z × Option Row) → List Object
  objects_of entries = objects (writes_of entries)

  -- the writes that are due at the places of some entries
  abbrev pub due_writes : List (code_object.Object Z × Option Row) → List (ℕ × Option Row) → List Write
  due_writes entries = due_at (objects_of entries)

  -- each place that something is due at is that of an entry
  abbrev pub AreThere : List (code_object.Object Z × Option Row) → List (ℕ × Option Row) → Type 0
  AreThere entries = AllByRecursion (λ due. due.0 < length (objects_of entries))
