use Rattle.std.proofs.Common.{◌≡◌, ◌++◌, take, string_bytes, flat_map}
use Rattle.occ_cli.proofs.Common.{pair_text}
use Rattle.occ_sets.specs.PlainSets.{rows_of}
use Rattle.occ_cli.proofs.pairs.write_pairs.Given as goal

abbrev pub invariant-loop-key : goal.invariant-loop-key
invariant-loop-key g l = string_bytes l.line ≡ string_bytes l.fn.line ++ flat_map (pair_text l.before) (rows_of (take l.key-index l.rows))
