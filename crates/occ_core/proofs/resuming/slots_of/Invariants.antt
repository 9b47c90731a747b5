use Rattle.std.proofs.Common.{◌≡◌, ◌<◌, ℕ, suc, length, None, Some, slice_get, if◌then◌else◌, nat_lt}
use Rattle.occ_model.specs.Log.{last_folded}
use Rattle.occ_log.specs.SessionStates.{Slot}
use Rattle.occ_core.proofs.resuming.slots_of.Given as goal

-- the sessions before this one have had their last numbers, and the others none
abbrev pub invariant-loop-place : goal.invariant-loop-place
invariant-loop-place g l = record {
  each : length l.states ≡ l.sessions;
  idle : (place : ℕ) (slot : Slot) → slice_get l.states place ≡ Some slot → slot ≡ record { last = if nat_lt place l.place then last_folded l.base.base (suc place) else 0; hold = None };
}
