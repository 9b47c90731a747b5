use Rattle.occ_core.specs.Replies.{outcome_of}
use Rattle.occ_model.specs.Event.{Enter}
use Rattle.occ_model.specs.Replies.{replied_back}
use Rattle.occ_queue.specs.Items.{item_of}
use Rattle.occ_store.proofs.shared.Shared.enter.Given as goal

-- the event that the story is told of
abbrev pub ghosts-add : goal.ghosts-add
ghosts-add g a = let told = a.about.now in record { entry = (Enter told.0 (item_of told.1.now.value), replied_back outcome_of told.2.now) }
