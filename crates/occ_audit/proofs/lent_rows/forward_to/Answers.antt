use Rattle.std.proofs.Common.{sym, ◌∙◌, option_copied}
use Rattle.occ_audit.proofs.Common.{end_of}
use Rattle.occ_audit.proofs.Lending.{forward-backward, forward-itself}
use Rattle.occ_audit.proofs.lent_rows.forward_to.Goals as goal

pub returns-then-is_backward : goal.returns-then-is_backward
returns-then-is_backward g c =
    forward-backward (end_of (option_copied c.args.lower)) (end_of (option_copied c.args.upper)) (sym c.is_backward.ensures ∙ c.if-is_backward.true)

pub returns-else-is_backward : goal.returns-else-is_backward
returns-else-is_backward g c =
    forward-itself (end_of (option_copied c.args.lower)) (end_of (option_copied c.args.upper)) (sym c.is_backward.ensures ∙ c.if-is_backward.false)
