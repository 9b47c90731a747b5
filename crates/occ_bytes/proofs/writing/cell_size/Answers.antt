use Rattle.std.proofs.Common.{ap}
use Rattle.occ_types.specs.PlainData.{cell_lent}
use Rattle.occ_bytes.specs.Bytes.{cell_bytes}
use Rattle.occ_bytes.proofs.Rooms.{number_sized}
use Rattle.occ_bytes.proofs.writing.cell_size.Goals as goal

pub returns-in-Int : goal.returns-in-Int
returns-in-Int g c = number_sized (cell_bytes (cell_lent c.args.cell.now)) _ (ap (λ it. cell_bytes (cell_lent it)) c.in-Int.is)
