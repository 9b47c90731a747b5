use Rattle.std.proofs.Common.{◌∙◌, sym, arith}
use Rattle.occ_log.proofs.Common.{log_row_of}
use Rattle.occ_log.proofs.Numbered.{none_numbered, below_none, numbered_from}
use Rattle.occ_log.proofs.log.Log.numbered.Goals as goal

pub returns-in_err-oldest : goal.returns-in_err-oldest
returns-in_err-oldest g c = rw c.from_residual.ensures (sym (none_numbered c.args.session c.args.number c.args.self.now.rows (sym c.in_err-oldest.ensures)))

pub returns-then-number-oldest : goal.returns-then-number-oldest
returns-then-number-oldest g c =
    sym (below_none c.args.session c.args.number c.args.self.now.rows (log_row_of c.in_ok-oldest.oldest.now) (c.requires c.args.session) (sym c.in_ok-oldest.ensures) (omega arith))

pub returns : goal.returns
returns g c =
    c.row_of-2.ensures ∙ numbered_from c.args.session c.args.number c.args.self.now.rows (log_row_of c.in_ok-oldest.oldest.now) (c.requires c.args.session) (sym c.in_ok-oldest.ensures) (omega arith)
