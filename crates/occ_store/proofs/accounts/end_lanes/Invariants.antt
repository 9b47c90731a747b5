use Rattle.std.proofs.Common.{◌≡◌, ◌+◌, ◌≤◌, length, map}
use Rattle.std.specs.Prelude.{sum_by, vec_len, vec_capacity}
use Rattle.std.specs.Vec.Iter.{into_iter_items, into_iter_len}
use Rattle.occ_store.specs.Lanes.{LaneView}
use Rattle.occ_store.specs.Accounts.{HaveSeen, line_of, held}
use Rattle.occ_store.proofs.AccountLines.{Walked}
use Rattle.occ_store.proofs.accounts.end_lanes.Given as goal

-- so many lanes and sessions have ended, and there is room for the lines of the others
abbrev pub invariant-loop-lane : goal.invariant-loop-lane
invariant-loop-lane g l =
    Walked l.fn.lanes.items l.yielded l.fn.sessions.items (into_iter_items l.clients) (into_iter_items l.rooms) (map line_of l.fn.lines.items) (map line_of l.lines.items)
    × (into_iter_len l.clients ≡ length (into_iter_items l.clients))
    × (into_iter_len l.rooms ≡ length (into_iter_items l.rooms))
    × (vec_len l.lines ≡ vec_len l.fn.lines + length l.yielded)
    × (vec_len l.fn.lines + length l.fn.lanes.items ≤ vec_capacity l.lines)
    × (held (λ s. s.parts) l.parts ≡ held (λ s. s.parts) l.fn.parts + length l.yielded)
    × (held (λ s. s.amount) l.parts ≡ held (λ s. s.amount) l.fn.parts + sum_by (λ (lane : LaneView). lane.entered) l.yielded)
    × HaveSeen l.fn.shared.story.log (λ (lane : LaneView). lane.front) l.yielded
    × (l.shared ≡ l.fn.shared)
