-- What the ends of a lane know of it (our own choice).
use Rattle.std.specs.Prelude.{◌≡◌, ℕ, ◌+◌, Bool, List, [], ◌∷◌, ◌++◌, length, drop, nat_le, if◌then◌else◌}
use Rattle.std.specs.List.{list_any}
use mathlib.Core.List.{IsPrefix}
use Rattle.atomic_table.specs.Seated.{TableId}
use Rattle.occ_model.specs.Event.{Item}
use Rattle.occ_queue.specs.declared.numbering.Numbering.{Numbering}
use Rattle.occ_queue.specs.Items.{is_mark}
use Rattle.occ_queue.specs.Numbering.{Numbered, IsInTurn}

-- Which lane it is, the number that it begins behind, the items that were pushed and those that were taken, the first one first. An end knows all of its own, and of the other end's a beginning: what it heard of.
pub record Known : Type 0 where
  pub lane : TableId
  pub before : ℕ
  pub pushed : List Item
  pub taken : List Item

-- how many items a lane holds at most
abbrev pub capacity : Known → ℕ
capacity known = known.lane.slots

-- the lane as a queue of one owner, as far as is known
abbrev pub as_queue : Known → Numbered
as_queue known = record {
  items = drop (length known.taken) known.pushed;
  limit = capacity known;
  before = known.before;
  pushed = known.before + length known.pushed;
  closed = list_any is_mark known.pushed;
}

-- the numbers of items that were pushed behind this one
abbrev pub numbers : ℕ → List Item → Numbering
numbers before items = record { pushed = before + length items; closed = list_any is_mark items }

-- items with the numbers after this one, without a gap, nothing after a mark, and the last number of all for a mark alone
abbrev pub InTurn : ℕ → List Item → Type 0
InTurn before items = IsInTurn (record { items = items; limit = 0; before = before; pushed = before + length items; closed = list_any is_mark items })

-- both are beginnings of one list that is in turn behind a number
pub record AreOfOne (before : ℕ) (pushed taken : List Item) : Type 0 where
  pub all : List Item
  pub in_turn : InTurn before all
  pub begins : IsPrefix pushed all
  pub began : IsPrefix taken all

-- of two beginnings of one list the longer one
abbrev pub longer : {X : Type 0} → List X → List X → List X
longer xs ys = if nat_le (length ys) (length xs) then xs else ys

-- with one more item at the sender's end, and with one more taken
abbrev pub pushing : Known → Item → Known
pushing known item = record known { pushed = known.pushed ++ item ∷ [] }

abbrev pub taking : Known → Item → Known
taking known item = record known { taken = known.taken ++ item ∷ [] }
