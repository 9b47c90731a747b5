use Rattle.std.specs.Prelude.{◌≡◌, length, vec_len}
use Rattle.std.specs.Arc.{arc_value}
use Rattle.atomic_table.specs.Seated.{TableId}
use Rattle.occ_store.specs.Frames.{AreSeats, ArePlaces, NumbersHaveRoom}
use Rattle.occ_store.proofs.frames.places.Given as goal

-- the places so far are of the seats so far
abbrev pub invariant-loop-seat : goal.invariant-loop-seat
invariant-loop-seat g l = (length l.places.items ≡ length l.yielded)
    × (vec_len l.places ≡ length l.yielded)
    × ((board : TableId) → AreSeats board 1 l.fn.seats.items → NumbersHaveRoom l.base.base (length l.fn.seats.items)
    → ArePlaces board (arc_value l.tables) l.base.base 1 l.places.items)
