-- What the calls of a readable store reply, as replies of the model.
use Rattle.std.specs.Prelude.{Bool, List, Option, Result, Vec}
use Rattle.occ_types.specs.declared.fault.Fault.{Fault}
use Rattle.occ_types.specs.declared.keys.Key as code_key
use Rattle.occ_types.specs.Key.{Key}
use Rattle.occ_types.specs.Row.{Row}
use Rattle.occ_model.specs.State.{Found, Rows}
use Rattle.occ_model.specs.Event.{Reply, Answered, Forgotten}
use Rattle.occ_sets.specs.PlainSets.{rows_of}
use Rattle.occ_model.specs.Replies.{replied}

-- what a read of one key replies
abbrev pub reading : Result (Option Row) Fault → Reply
reading = replied (λ row. Answered (Found row))

abbrev pub forgetting : Result Bool Fault → Reply
forgetting = replied Forgotten

-- what a read of a range replies
abbrev pub scanning : Result (List (Key × Row)) Fault → Reply
scanning = replied (λ rows. Answered (Rows rows))

module _ {Z : Type 0} where
  -- the same, where it gives copies
  abbrev pub copying : Result (Vec (code_key.Key Z × Row) Z) Fault → Reply
  copying = replied (λ rows. Answered (Rows (rows_of rows.items)))
