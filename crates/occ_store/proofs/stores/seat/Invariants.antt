use Rattle.std.specs.Prelude.{◌≡◌, ◌+◌, ◌≤◌, length, vec_len, vec_capacity}
use Rattle.occ_store.specs.Frames.{sessions_from, lanes_from, seating}
use Rattle.occ_store.proofs.stores.seat.Given as goal

-- the sessions and lanes so far, with room for all, their fronts, and a part of the ledger for each that is to come
abbrev pub invariant-loop-part : goal.invariant-loop-part
invariant-loop-part g l = (l.sessions.items ≡ sessions_from g.N.Name.named (length l.yielded))
    × (l.lanes.items ≡ lanes_from g.N.Name.named (length l.yielded))
    × (vec_len l.sessions ≡ length l.yielded)
    × (vec_len l.lanes ≡ length l.yielded)
    × (length l.fn.parts.items ≤ vec_capacity l.sessions)
    × (length l.fn.parts.items ≤ vec_capacity l.lanes)
    × (l.share.parts + length l.yielded ≡ l.fn.share.parts)
    × (l.share.amount ≡ 0)
    × (l.story ≡ seating (g.N.Name.named.workers + length l.yielded))
