-- What clauses see of the writes of one transaction, in a list or in a map: the plain writes, in the order of the first writes of their objects.
use Rattle.std.specs.Prelude.{List}
use Rattle.occ_model.specs.State.{Write}
use Rattle.occ_sets.specs.declared.own_writes.Content as code
use Rattle.occ_sets.specs.declared.own_writes.Content.TheVariants.{Few, Many}
use Rattle.occ_sets.specs.PlainSets.{writes_of}
use Rattle.occ_sets.specs.ShortList.{values}

module _ {Z : Type 0} where
  -- all writes
  abbrev pub written : code.Content Z → List Write
  written (Few list) = writes_of (values list)
  written (Many many) = many.value
