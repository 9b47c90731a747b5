-- What clauses see of the last write of each object.
use Rattle.std.specs.Prelude.{List, map, Option}
use Rattle.std.specs.Borrow.{Bor}
use Rattle.std.specs.Option.{option_copied}
use Rattle.occ_types.specs.Row.{Row}
use Rattle.occ_types.specs.PlainData.{object_of}
use Rattle.occ_types.specs.declared.objects.Object as code_object
use Rattle.occ_model.specs.State.{Write}

module _ {Z : Type 0} where
  -- the plain writes, in the order of their objects
  abbrev pub writes_in : List (Bor (code_object.Object Z) × Option (Bor Row)) → List Write
  writes_in = map (λ e. (object_of e.0.now, option_copied e.1))
