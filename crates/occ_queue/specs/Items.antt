-- What clauses see of the code's items: the plain items of the model.
use Rattle.std.specs.Prelude.{ℕ, Bool, true, false, List, map}
use Rattle.occ_model.specs.Event.{Item, Request, Alone, Close}
use Rattle.occ_sets.specs.Operations.{ops_of}
use Rattle.occ_queue.specs.declared.items.Item as code_item
use Rattle.occ_queue.specs.declared.items.Item.TheVariants as items

module _ {Z : Type 0} where
  -- the plain item
  abbrev pub item_of : code_item.Item Z → Item
  item_of (items.Request number start writes) = Request number start writes
  item_of (items.Alone number operations) = Alone number (ops_of operations.items)
  item_of (items.Close number) = Close number

  -- the plain items, in their order
  abbrev pub items_of : List (code_item.Item Z) → List Item
  items_of = map item_of

-- the number that an item takes in its session
abbrev pub number_of : Item → ℕ
number_of (Request number start writes) = number
number_of (Alone number operations) = number
number_of (Close number) = number

-- whether it is a closing mark
abbrev pub is_mark : Item → Bool
is_mark (Request number start writes) = false
is_mark (Alone number operations) = false
is_mark (Close number) = true
