use Rattle.occ_model.specs.World.{World}
use Rattle.occ_model.specs.Event.{Reply}
use Rattle.occ_client.specs.Ends.{WritesOut, writes_left}
use Rattle.occ_client.proofs.by_steps.write_out.Given as goal

-- what is left of the write phase from here on ends the whole of it
abbrev pub invariant-loop-more : goal.invariant-loop-more
invariant-loop-more g l = (reply : Reply) (new : World) → WritesOut l.session l.store.world reply new → WritesOut l.session l.fn.store.world reply new

abbrev pub decreases-loop-more : goal.decreases-loop-more
decreases-loop-more g l = writes_left l.store.world l.session
