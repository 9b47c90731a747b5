use Rattle.std.specs.Prelude.{◌≡◌, ◌+◌, ◌≤◌, length, vec_len, vec_capacity}
use Rattle.occ_store.specs.Frames.{workers_from, seating}
use Rattle.occ_store.proofs.stores.hire.Given as goal

-- the workers so far, with room for all, a front for each, and a part of the ledger for each that is to come
abbrev pub invariant-loop-place : goal.invariant-loop-place
invariant-loop-place g l = (l.workers.items ≡ workers_from g.N.Name.named (length l.yielded))
    × (vec_len l.workers ≡ length l.yielded)
    × (length l.fn.places.items ≤ vec_capacity l.workers)
    × (l.share.parts + length l.yielded ≡ l.fn.share.parts)
    × (l.share.amount ≡ 0)
    × (l.story ≡ seating (length l.yielded))
