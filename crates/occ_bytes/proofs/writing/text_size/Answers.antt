use Rattle.std.proofs.Common.{arith}
use Rattle.occ_bytes.specs.Bytes.{number_bytes}
use Rattle.std.proofs.lemmas.List.{length-append}
use Rattle.occ_bytes.proofs.Rooms.{eight}
use Rattle.std.proofs.Common.{length}
use Rattle.occ_bytes.proofs.writing.text_size.Goals as goal

pub returns : goal.returns
returns g c = omega (arith, c.saturating_add.ensures, c.len.ensures, length-append (number_bytes (length c.args.text.now)) c.args.text.now, eight (length c.args.text.now))
