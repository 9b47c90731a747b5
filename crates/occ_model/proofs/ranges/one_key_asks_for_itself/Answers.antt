use Rattle.occ_model.proofs.RangeAnswers as laws
use Rattle.occ_model.proofs.ranges.one_key_asks_for_itself.Goals as goal

pub returns : goal.returns
returns c = laws.asks_one
