use Rattle.std.proofs.Common.{sym, ◌∙◌, option_copied}
use Rattle.occ_book.proofs.Common.{end_of}
use Rattle.occ_book.proofs.PageEnds.{itself-forward, empty-same}
use Rattle.occ_book.proofs.rows_between.forward_lower.Goals as goal

pub returns-then-is_backward-clause-forward : goal.returns-then-is_backward-clause-forward
returns-then-is_backward-clause-forward g c = itself-forward (end_of (option_copied c.args.upper))

pub returns-then-is_backward-clause-same : goal.returns-then-is_backward-clause-same
returns-then-is_backward-clause-same g c = λ key.
    empty-same (end_of (option_copied c.args.lower)) (end_of (option_copied c.args.upper)) key (sym c.is_backward.ensures ∙ c.if-is_backward.true)
