use Rattle.std.specs.Prelude.{◌≡◌, ◌+◌, suc, length, vec_len}
use Rattle.std.specs.Arc.{arc_value}
use Rattle.atomic_table.specs.Seated.{TableId}
use Rattle.occ_store.specs.Frames.{AreSeats, AreParts, HaveRoomFor, NumbersHaveRoom}
use Rattle.occ_store.proofs.frames.parts.Given as goal

-- the parts so far are of the seats so far
abbrev pub invariant-loop-seat : goal.invariant-loop-seat
invariant-loop-seat g l = (length l.parts.items ≡ length l.yielded)
    × (vec_len l.parts ≡ length l.yielded)
    × ((board : TableId) → AreSeats board (suc l.fn.workers) l.fn.seats.items → NumbersHaveRoom l.base.base (l.fn.workers + length l.fn.seats.items)
    → AreParts board (arc_value l.tables) l.base.base (suc l.fn.workers) l.parts.items)
    × HaveRoomFor l.fn.capacity l.parts.items
