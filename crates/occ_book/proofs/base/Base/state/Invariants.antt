use Rattle.std.proofs.Common.{◌≡◌, drop}
use Rattle.occ_book.proofs.Common.{apply}
use Rattle.occ_book.proofs.base.Base.state.Given as goal

-- the writes that are left lead to the state
abbrev pub invariant-loop-place : goal.invariant-loop-place
invariant-loop-place g l = record {
  tables : l.tables.tables ≡ l.self-inside.origin.tables;
  left : apply l.tables.state (drop l.place l.self-inside.since) ≡ apply l.self-inside.origin.state l.self-inside.since;
}
