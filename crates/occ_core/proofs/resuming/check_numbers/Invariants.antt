use Rattle.std.proofs.Common.{◌≡◌, ◌+◌, ◌-◌}
use Rattle.occ_core.specs.Resuming.{numbers_fault}
use Rattle.occ_core.proofs.resuming.check_numbers.Given as goal

-- the sessions before this one have none
abbrev pub invariant-loop-place : goal.invariant-loop-place
invariant-loop-place g l = numbers_fault l.numbers.marks 1 l.numbers.sessions ≡ numbers_fault l.numbers.marks (l.place + 1) (l.numbers.sessions - l.place)
