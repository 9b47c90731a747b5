use Rattle.occ_text.proofs.Line.{PieceGives-from_taken}
use Rattle.occ_text.proofs.input.Input.take_piece.Goals as goal

pub returns-clause-gives : goal.returns-clause-gives
returns-clause-gives g c =
    PieceGives-from_taken c.take_unread.result _ _ c.args.self.now c.refill.new.self c.take_unread.new.self c.refill.ensures.kept c.refill.ensures.line
    (c.in_ok-refill.ensures.more c.if-not-branch.false) c.take_unread.ensures.takes
