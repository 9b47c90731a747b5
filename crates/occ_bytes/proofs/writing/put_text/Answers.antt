use Rattle.std.proofs.Common.{ap}
use Rattle.occ_bytes.specs.Bytes.{number_bytes}
use Rattle.occ_bytes.proofs.Rooms.{put_both}
use Rattle.occ_bytes.proofs.writing.put_text.Goals as goal

pub returns-clause-put : goal.returns-clause-put
returns-clause-put g c = put_both _ _ _ _ _ _ _ _ _ _ (ap number_bytes c.len.ensures) c.as_bytes.ensures c.put_number-behind.ensures.length c.put_number-behind.ensures.put c.put_bytes.ensures.put
