use Rattle.occ_model.specs.Event.{Finish, Finished}
use Rattle.occ_model.specs.Replies.{replied}
use Rattle.occ_store.proofs.shared.Shared.finish.Given as goal

-- the event that the story is told of
abbrev pub ghosts-add : goal.ghosts-add
ghosts-add g a = let told = a.about.now in record { entry = (Finish told.0, replied Finished told.1.now) }
