use Rattle.occ_model.specs.Event.{BackUp, BackedUp}
use Rattle.occ_model.specs.Replies.{replied}
use Rattle.occ_store.proofs.shared.Shared.back_up.Given as goal

-- the event that the story is told of
abbrev pub ghosts-add : goal.ghosts-add
ghosts-add g a = let told = a.about.now in record { entry = (BackUp told.0, replied BackedUp told.1.now) }
