use Rattle.occ_core.specs.Replies.{wrote}
use Rattle.occ_model.specs.Event.{WriteOne}
use Rattle.occ_model.specs.Replies.{replied}
use Rattle.occ_store.proofs.shared.Shared.write_one.Given as goal

-- the event that the story is told of
abbrev pub ghosts-add : goal.ghosts-add
ghosts-add g a = let told = a.about.now in record { entry = (WriteOne told.0, replied (wrote told.1.now.world) told.2.now) }
