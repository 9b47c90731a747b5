use Rattle.std.proofs.Common.{take}
use Rattle.occ_store.specs.Accounts.{AreRooms}
use Rattle.occ_store.proofs.accounts.room.Given as goal

-- a room for each lane and session so far
abbrev pub invariant-loop-place : goal.invariant-loop-place
invariant-loop-place g l = AreRooms (take l.place l.lanes) (take l.place l.sessions) l.rooms.items
