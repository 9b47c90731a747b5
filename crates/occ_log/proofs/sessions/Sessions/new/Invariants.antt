use Rattle.std.proofs.Common.{◌≡◌}
use Rattle.occ_log.proofs.Common.{idle_slots, slots_of}
use Rattle.occ_log.proofs.sessions.Sessions.new.Given as goal

abbrev pub invariant-loop : goal.invariant-loop
invariant-loop g l = slots_of l.states.items ≡ idle_slots l.counter
