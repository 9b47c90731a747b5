use Rattle.std.proofs.Common.{ap}
use Rattle.occ_types.specs.PlainData.{part_of}
use Rattle.occ_bytes.specs.Bytes.{part_bytes}
use Rattle.occ_bytes.proofs.Rooms.{number_sized}
use Rattle.occ_bytes.proofs.writing.part_size.Goals as goal

pub returns-in-Num : goal.returns-in-Num
returns-in-Num g c = number_sized (part_bytes (part_of c.args.part.now)) _ (ap (λ it. part_bytes (part_of it)) c.in-Num.is)
