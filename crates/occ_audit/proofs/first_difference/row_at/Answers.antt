use Rattle.std.proofs.Common.{◌∙◌, sym}
use Rattle.occ_book.specs.KeyRefs.{key_lent}
use Rattle.occ_audit.proofs.first_difference.row_at.Goals as goal

pub returns-in-Some : goal.returns-in-Some
returns-in-Some g c = c.get_lent.ensures ∙ sym (c.in-Some.ensures (key_lent c.args.key))
