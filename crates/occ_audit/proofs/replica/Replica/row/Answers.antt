use Rattle.std.proofs.Common.{sym, ap, ◌∙◌, option_copied}
use Rattle.occ_audit.proofs.Common.{key_of}
use Rattle.occ_audit.proofs.replica.Replica.row.Goals as goal

pub returns-in_err-rows : goal.returns-in_err-rows
returns-in_err-rows g c = ap option_copied c.from_residual.ensures ∙ sym (c.in_err-rows.ensures (key_of c.args.object.now.key))

pub returns : goal.returns
returns g c = c.get.ensures ∙ sym (c.in_ok-rows.ensures (key_of c.args.object.now.key))
