use Rattle.occ_model.specs.Event.{Answered, Read}
use Rattle.occ_model.specs.Replies.{replied}
use Rattle.occ_model.specs.State.{Found}
use Rattle.occ_types.specs.PlainData.{key_of}
use Rattle.occ_types.specs.Question.{One}
use Rattle.occ_store.proofs.shared.Shared.read.Given as goal

-- the event that the story is told of
abbrev pub ghosts-add : goal.ghosts-add
ghosts-add g a = let told = a.about.now in record { entry = (Read told.0 told.1 told.2 (One told.3 (key_of told.4.now)), replied (λ row. Answered (Found row)) told.5.now) }
