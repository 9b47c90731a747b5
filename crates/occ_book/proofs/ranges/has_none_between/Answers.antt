use Rattle.std.proofs.Common.{sym, ◌∙◌, arith, option_copied}
use Rattle.occ_book.proofs.Common.{end_of}
use Rattle.occ_book.proofs.Views.{entries_within-empty, entries_within-backward}
use Rattle.occ_book.proofs.ranges.has_none_between.Goals as goal

pub returns-then-len-eq0-clause-none : goal.returns-then-len-eq0-clause-none
returns-then-len-eq0-clause-none g c = λ _. entries_within-empty (end_of (option_copied c.args.lower)) (end_of (option_copied c.args.upper)) c.args.map.now.entries (omega arith)

pub returns-clause-none : goal.returns-clause-none
returns-clause-none g c = λ e. entries_within-backward (end_of (option_copied c.args.lower)) (end_of (option_copied c.args.upper)) c.args.map.now.entries (sym c.is_backward.ensures ∙ e)
