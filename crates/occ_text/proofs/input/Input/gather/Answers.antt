use Rattle.std.proofs.Common.{◌∙◌}
use Rattle.occ_text.proofs.Line.{GatherGives-from_last}
use Rattle.occ_text.proofs.input.Input.gather.Goals as goal

pub returns-in_default : goal.returns-in_default
returns-in_default g c = record {
  gives = GatherGives-from_last c.in_ok-last.last _ _ _ c.loop-last.self c.take_piece.new.self c.loop-last.invariant.taken c.loop-last.invariant.line c.in_default.not-Part
      c.in_ok-last.ensures.gives;
  number = c.take_piece.ensures.number ∙ c.loop-last.invariant.number;
  cause = tt;
  unfailed = c.in_ok-last.ensures.unfailed ∙ c.loop-last.invariant.failed;
}
