use Rattle.occ_model.proofs.RangeAnswers as laws
use Rattle.occ_model.proofs.ranges.range_asks_for_its_keys.Goals as goal

pub returns : goal.returns
returns c = laws.asks_range
