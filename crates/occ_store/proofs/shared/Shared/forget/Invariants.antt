use Rattle.occ_model.specs.Event.{Forget, Forgotten}
use Rattle.occ_model.specs.Replies.{replied}
use Rattle.occ_store.proofs.shared.Shared.forget.Given as goal

-- the event that the story is told of
abbrev pub ghosts-add : goal.ghosts-add
ghosts-add g a = let told = a.about.now in record { entry = (Forget told.0 told.1, replied Forgotten told.2.now) }
