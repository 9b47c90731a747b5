-- What clauses say of a call: that it stands in the history of the store (our own choice).
use Rattle.std.specs.Prelude.{◌≡◌}
use mathlib.Core.List.{IsPrefix}
use Rattle.occ_model.specs.World.{World}
use Rattle.occ_model.specs.Event.{Event, Reply}
use Rattle.occ_model.specs.Step.{Run}
use Rattle.occ_history.specs.History.{FrontView, Begins}
use Rattle.occ_history.specs.Clauses.{Stands, StandsWhere}
use Rattle.occ_store.specs.Names.{Named, opened_as}

-- An event, with its reply, stands in the history of a store: the history goes on from what was seen, only others' events come between, and then the event happens. That is what is seen now.
abbrev pub StandsIn : Named → FrontView → Event → Reply → FrontView → Type 0
StandsIn named = Stands (opened_as named)

-- and it happens in a world of which this holds
abbrev pub StandsInWhere : Named → (World → Type 0) → FrontView → Event → Reply → FrontView → Type 0
StandsInWhere named = StandsWhere (opened_as named)

-- what was seen goes on, by the same party
abbrev pub GoesOnTo : FrontView → FrontView → Type 0
GoesOnTo from to = (to.party ≡ from.party) × IsPrefix from.seen to.seen

-- an event stands in the history between what was seen before and what was seen then
abbrev pub StoodBetween : Named → FrontView → Event → Reply → FrontView → Type 0
StoodBetween named from event reply to = (at : FrontView) × (after : FrontView) × GoesOnTo from at × StandsIn named at event reply after × GoesOnTo after to

-- what was seen is the whole history at some moment, which goes on from what was seen before, and this holds of the world that it led to
abbrev pub SeesWhole : Named → (World → Type 0) → FrontView → FrontView → Type 0
SeesWhole named Is from to = (to.party ≡ from.party) × Begins from to × ((world : World) × Run (opened_as named) to.seen world × Is world)
