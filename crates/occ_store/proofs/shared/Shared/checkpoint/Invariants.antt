use Rattle.occ_model.specs.Event.{Checkpoint, Folded}
use Rattle.occ_model.specs.Replies.{replied}
use Rattle.occ_store.proofs.shared.Shared.checkpoint.Given as goal

-- the event that the story is told of
abbrev pub ghosts-add : goal.ghosts-add
ghosts-add g a = let told = a.about.now in record { entry = (Checkpoint, replied Folded told) }
