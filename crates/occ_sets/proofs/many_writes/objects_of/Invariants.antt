use Rattle.std.proofs.Common.{◌≡◌, map}
use Rattle.occ_sets.proofs.many_writes.objects_of.Given as goal

-- the copies so far are those of the objects that were yielded
abbrev pub invariant-loop-object : goal.invariant-loop-object
invariant-loop-object g l = l.objects.items ≡ map (λ o. o.now) l.yielded
