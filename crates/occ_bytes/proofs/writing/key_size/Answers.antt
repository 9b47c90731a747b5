use Rattle.std.proofs.Common.{ap}
use Rattle.occ_types.specs.PlainData.{key_of}
use Rattle.occ_bytes.specs.Bytes.{key_bytes}
use Rattle.occ_bytes.proofs.Rooms.{number_sized}
use Rattle.occ_bytes.proofs.writing.key_size.Goals as goal

pub returns-in-Num : goal.returns-in-Num
returns-in-Num g c = number_sized (key_bytes (key_of c.args.key.now)) _ (ap (λ it. key_bytes (key_of it)) c.in-Num.is)
