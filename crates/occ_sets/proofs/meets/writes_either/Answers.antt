use Rattle.std.proofs.Common.{◌∙◌}
use Rattle.occ_sets.specs.PlainSets.{write_of}
use Rattle.occ_sets.proofs.Meetings.{meets_first, meets_second}
use Rattle.occ_sets.proofs.meets.writes_either.Goals as goal

pub returns-then-writes : goal.returns-then-writes
returns-then-writes g c = c.if-writes.true ∙ meets_first c.args.writes.now (write_of c.args.first.now) (write_of c.args.second.now) c.writes.result c.writes.ensures c.if-writes.true

pub returns-else-writes : goal.returns-else-writes
returns-else-writes g c = meets_second c.args.writes.now (write_of c.args.first.now) (write_of c.args.second.now) c.writes.result c.writes-else-writes.result c.writes.ensures c.if-writes.false c.writes-else-writes.ensures
