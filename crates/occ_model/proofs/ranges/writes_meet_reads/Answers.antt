use Rattle.occ_model.proofs.Meetings as laws
use Rattle.occ_model.proofs.ranges.writes_meet_reads.Goals as goal

pub returns : goal.returns
returns c = laws.meets_reads_is
