-- What clauses see of writes behind a handle: the plain writes.
use Rattle.std.specs.Prelude.{⊤, List, []}
use Rattle.std.specs.Arc.{arc_value}
use Rattle.occ_model.specs.State.{Write}
use Rattle.occ_sets.specs.declared.handles.Handle as code
use Rattle.occ_sets.specs.declared.handles.Handle.TheVariants.{Empty, Own, Shared}

module _ {Z : Type 0} where
  -- the writes
  abbrev pub kept : code.Handle Z → List Write
  kept Empty = []
  kept (Own writes) = writes.value
  kept (Shared writes) = arc_value writes

  -- nobody else has them
  abbrev pub IsOwn : code.Handle Z → Type 0
  IsOwn Empty = ⊤
  IsOwn (Own writes) = ⊤
  IsOwn (Shared writes) = ⊥
