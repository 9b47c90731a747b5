use Rattle.std.proofs.Common.{◌∙◌, arith}
use Rattle.occ_board.proofs.Kept.{begins}
use Rattle.occ_board.proofs.Codes.{blank-memory}
use Rattle.occ_board.proofs.publishing.Publisher.new.Goals as goal

pub of_words-requires : goal.of_words-requires
of_words-requires g c =
    let filled = c.in_ok-resize-2.ensures.items in
    begins _ _ (blank-memory _ _ _ _ _ (c.as_slice.ensures.value ∙ filled) c.new-words.ensures.items (omega (arith, c.len.ensures, c.in_ok-resize.ensures.len, c.new-words.ensures.len)))
