use Rattle.std.proofs.Common.{◌≡◌, drop, map}
use Rattle.occ_log.proofs.Common.{list_any, meets_reads}
use Rattle.occ_log.proofs.window.Window.meets.Given as goal

-- whether some set meets the reads is what the sets still to come say
abbrev pub invariant-loop-place : goal.invariant-loop-place
invariant-loop-place g l =
    list_any (λ theirs. meets_reads theirs (map (λ o. o.0) l.reads)) (drop l.place l.self-inside.sets.items) ≡ list_any (λ theirs. meets_reads theirs (map (λ o. o.0) l.reads)) (drop l.skip l.self-inside.sets.items)
