-- What clauses see of the rows of a range, which one owner has or several share: the keys and rows, in their order.
use Rattle.std.specs.Prelude.{List}
use Rattle.std.specs.Arc.{arc_value}
use Rattle.occ_types.specs.declared.keys.Key as code_key
use Rattle.occ_types.specs.Row.{Row}
use Rattle.occ_sets.specs.declared.range_rows.Content as code
use Rattle.occ_sets.specs.declared.range_rows.Content.TheVariants.{Own, Shared}

module _ {Z : Type 0} where
  -- all rows
  abbrev pub contained : code.Content Z → List (code_key.Key Z × Row)
  contained (Own rows) = rows.value.items
  contained (Shared rows) = (arc_value rows).items
