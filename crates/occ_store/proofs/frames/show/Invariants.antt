use Rattle.std.specs.Prelude.{◌≡◌}
use Rattle.occ_model.specs.Log.{last_folded}
use Rattle.occ_store.proofs.Begun.{continued_to}
use Rattle.occ_store.proofs.frames.show.Given as goal

-- the sessions so far are stored
abbrev pub invariant-loop-place : goal.invariant-loop-place
invariant-loop-place g l =
    l.publisher ≡ record l.fn.publisher { words = continued_to l.core.world.counter (last_folded l.core.world.base) l.core.world.settings.sessions l.place }
