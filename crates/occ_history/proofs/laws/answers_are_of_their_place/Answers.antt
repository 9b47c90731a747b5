use Rattle.occ_history.proofs.Places.{answers_are_of_their_place}
use Rattle.occ_history.proofs.laws.answers_are_of_their_place.Goals as goal

pub returns : goal.returns
returns c = answers_are_of_their_place
