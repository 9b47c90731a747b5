use Rattle.std.proofs.Common.{◌≡◌, ◌+◌, ◌≤◌, length, sym, ap, subst}
use Rattle.occ_types.specs.PlainData.{key_of}
use Rattle.occ_bytes.specs.Bytes.{key_bytes, part_bytes, put_at}
use Rattle.occ_bytes.proofs.Rooms.{put_both}
use Rattle.occ_bytes.proofs.writing.put_key.Goals as goal

pub returns-in-Pair-clause-put : goal.returns-in-Pair-clause-put
returns-in-Pair-clause-put g c = subst (λ key. c.args.at + length (key_bytes (key_of key)) ≤ length c.args.room.now
    → (c.put_part.new.room ≡ put_at c.args.room.now c.args.at (key_bytes (key_of key))) × (c.put_part.result ≡ c.args.at + length (key_bytes (key_of key))))
    (sym c.in-Pair.is)
    (put_both _ _ _ _ _ _ _ _ _ _ (ap part_bytes c.first.ensures) (ap part_bytes c.second.ensures) c.put_part-behind.ensures.length c.put_part-behind.ensures.put c.put_part.ensures.put)
