use Rattle.std.proofs.Common.{◌≡◌, ◌++◌, map, take, string_bytes, flat_map}
use Rattle.occ_cli.proofs.Common.{answer_token}
use Rattle.occ_sets.specs.PlainSets.{answer_of}
use Rattle.occ_cli.proofs.tokens.write_tokens.Given as goal

abbrev pub invariant-loop-answer : goal.invariant-loop-answer
invariant-loop-answer g l = string_bytes l.line ≡ string_bytes l.fn.line ++ flat_map answer_token (map answer_of (take l.answer-index l.answers))
