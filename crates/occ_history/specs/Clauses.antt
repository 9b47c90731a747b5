-- What clauses say of a call: that its answer stands in the history, behind all that its party has seen (our own choice). One history in which each party's calls stand in its own order is sequential consistency (Lamport); what a party has not seen may have ended before.
use Rattle.std.specs.Prelude.{◌≡◌, List, [], ◌∷◌, ◌++◌}
use mathlib.Core.List.{IsPrefix}
use Rattle.occ_model.specs.World.{World}
use Rattle.occ_model.specs.Event.{Event, Reply}
use Rattle.occ_model.specs.Step.{Step, Run}
use Rattle.occ_history.specs.History.{Happened, FrontView, StoryView, mine, IsWhole, adding}

-- What stands behind the lock: the world, the story, and the front of who holds the lock.
pub record Lent : Type 0 where
  pub world : World
  pub story : StoryView
  pub visitor : FrontView

-- An event happens: the world steps so, and the story and who visits are told of it.
pub record Happens (old : Lent) (event : Event) (reply : Reply) (new : Lent) : Type 0 where
  pub step : Step old.world event reply new.world
  pub told : new.story ≡ record old.story { log = old.story.log ++ (event, reply) ∷ [] }
  pub before : IsPrefix old.visitor.seen old.story.log
  pub whole : IsWhole old.visitor old.story.log
  pub seen : new.visitor ≡ adding old.visitor old.story.log (event, reply)

-- these events are a history of a store that began so
abbrev pub IsHistory : World → List Happened → Type 0
IsHistory begun log = (world : World) × Run begun log world

-- What a call answers stands in the history: it goes on from what was seen, only others' events come between, and then the event happens, with the reply that the model gives there. That is what is seen now.
abbrev pub Stands : World → FrontView → Event → Reply → FrontView → Type 0
Stands begun me event reply now = (before : List Happened) × (old : World) × (new : World)
    × IsPrefix me.seen before × IsWhole me before
    × Run begun before old × Step old event reply new
    × (now ≡ adding me before (event, reply))

-- the same of an event that happens in a world of which this holds
abbrev pub StandsWhere : World → (World → Type 0) → FrontView → Event → Reply → FrontView → Type 0
StandsWhere begun Is me event reply now = (before : List Happened) × (old : World) × (new : World) × Is old
    × IsPrefix me.seen before × IsWhole me before
    × Run begun before old × Step old event reply new
    × (now ≡ adding me before (event, reply))

-- the events of a call, one after another
abbrev pub StandInOrder : World → FrontView → List Happened → FrontView → Type 0
StandInOrder begun me [] now = now ≡ me
StandInOrder begun me (first ∷ others) now =
    (next : FrontView) × Stands begun me first.0 first.1 next × StandInOrder begun next others now

-- of a history that goes on from what a party has seen, its own next event is this one, and it is the last of its own
abbrev pub DidThen : FrontView → Happened → List Happened → Type 0
DidThen me happened log = mine me.party log ≡ mine me.party me.seen ++ happened ∷ []
