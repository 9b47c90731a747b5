use Rattle.std.proofs.Common.{rules}
use Rattle.std.proofs.lemmas.Nat.{le_bytes_8}
use Rattle.occ_bytes.specs.Bytes.{number_bytes}
use Rattle.occ_bytes.proofs.reading.number_of.Goals as goal

pub returns-clause-written : goal.returns-clause-written
unfolding number_bytes
returns-clause-written c = le_bytes_8 c.args.bytes.now _ (search rules) (search rules) c.from_le_bytes.ensures
