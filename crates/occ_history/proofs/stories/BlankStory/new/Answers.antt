use Rattle.std.specs.Prelude.{[]}
use Rattle.occ_history.proofs.Kept.{begins}
use Rattle.occ_history.proofs.stories.BlankStory.new.Goals as goal

pub of_words-requires : goal.of_words-requires
of_words-requires g c = begins []
