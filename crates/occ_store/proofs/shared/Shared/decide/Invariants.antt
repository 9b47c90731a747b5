use Rattle.occ_model.specs.Event.{Decide, Decided}
use Rattle.occ_model.specs.Replies.{replied}
use Rattle.occ_store.proofs.shared.Shared.decide.Given as goal

-- the event that the story is told of
abbrev pub ghosts-add : goal.ghosts-add
ghosts-add g a = let told = a.about.now in record { entry = (Decide told.0, replied Decided told.1.now) }
