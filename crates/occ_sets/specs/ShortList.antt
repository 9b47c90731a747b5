-- What clauses see of a short list: its values, in their order.
use Rattle.std.specs.Prelude.{List, None, Some, [], ◌∷◌}
use Rattle.occ_sets.specs.declared.short_list.ShortList as code
use Rattle.occ_sets.specs.declared.short_list.ShortList.TheVariants.{Empty, Few, Many}

module _ {X Z : Type 0} where
  abbrev pub values : code.ShortList X Z → List X
  values Empty = []
  values (Few first None) = first ∷ []
  values (Few first (Some second)) = first ∷ second ∷ []
  values (Many list) = list.items
