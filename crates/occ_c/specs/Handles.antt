-- What a handle owns: the same as a `Box<Desk>`.
use base.Fml.{Fml}
use base.Stored.{Coded}
use denote.RawPtr.{Ptr}
use Rattle.std.specs.Box.Ownership.{box_owns}
use Rattle.std.specs.Global.{Global}
use Rattle.std_heap.specs.contracts.GlobalAllocator.TheImpl.{ghosts}
use Rattle.occ_c.specs.contracts.desks.Desk.{the_row}

abbrev pub desk_owns : Global → Ptr → the_row.Denot → Fml
desk_owns alloc = box_owns (ghosts.dealloc_token alloc) the_row

abbrev pub desk_coded : Coded the_row.Denot
desk_coded = the_row.coded
