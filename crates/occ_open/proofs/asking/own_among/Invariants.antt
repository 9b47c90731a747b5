use Rattle.std.proofs.Common.{◌≡◌, drop}
use Rattle.occ_types.specs.PlainData.{key_of}
use Rattle.occ_model.specs.Overlay.{own}
use Rattle.occ_open.proofs.asking.own_among.Given as goal

-- what is left of the writes has the own one
abbrev pub invariant-loop-place : goal.invariant-loop-place
invariant-loop-place g l = own (drop l.place l.copy.writes) (l.table, key_of l.key) ≡ own l.copy.writes (l.table, key_of l.key)
