use Rattle.std.proofs.Common.{sym, ap}
use Rattle.occ_audit.proofs.Common.{apply, on_ok_weaker, left-none, write-more}
use Rattle.occ_audit.proofs.replica.Replica.write_folded_at.Goals as goal

pub returns-in_default : goal.returns-in_default
returns-in_default g c = ap (apply c.args.self.now) (left-none c.args.writes.now c.args.place c.in_default.ensures)

pub returns : goal.returns
returns g c = on_ok_weaker c.put.result (λ is. write-more c.args.self.now c.put.new.self c.args.writes.now c.args.place _ (sym c.in-Some.ensures) is) c.put.ensures
