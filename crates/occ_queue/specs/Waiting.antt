-- What waits to be entered.
use Rattle.std.specs.Prelude.{ℕ, List}
use Rattle.occ_model.specs.Event.{Item}

-- a queue: the items, the first one first, and how many there may be
pub record Waiting : Type 0 where
  pub items : List Item
  pub limit : ℕ
