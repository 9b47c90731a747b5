use Rattle.std.proofs.Common.{◌≡◌, map, drop}
use Rattle.occ_types.specs.Schema.{first_fault}
use Rattle.occ_store.proofs.validator_threads.first_met.Given as goal

-- what is left gives what all of them give
abbrev pub invariant-loop-group : goal.invariant-loop-group
invariant-loop-group g l = first_fault (map (λ group. group.fault) (drop l.group-index l.groups)) ≡ first_fault (map (λ group. group.fault) l.groups)
