use Rattle.occ_model.proofs.RangeAnswers as laws
use Rattle.occ_model.proofs.ranges.range_is_answered_by_its_rows.Goals as goal

pub returns : goal.returns
returns c = laws.answers_range
