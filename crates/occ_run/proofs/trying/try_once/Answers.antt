use Rattle.std.proofs.Common.{sym, subst}
use Rattle.occ_sets.specs.Operations.{ops_of}
use Rattle.occ_run.specs.declared.ends.Try.{Try}
use Rattle.occ_run.specs.Clients.{Tries}
use Rattle.occ_run.proofs.Tries.{try_not_handed, try_over}
use Rattle.occ_run.proofs.trying.try_once.Goals as goal

pub returns : goal.returns
returns g c =
    subst (λ (t : Try). Tries g.N.Name.named (ops_of c.args.operations.now) 0 t c.args.session.now c.settled.new.session) (sym c.tried.ensures)
    (try_over g.N.Name.named (ops_of c.args.operations.now) c.args.session.now c.transact.new.self c.settled.new.session _ _ c.in-Ok.ensures.awaited c.in_ok-ended.ensures.told c.in_ok-ended.ensures.same)

pub returns-in-Err : goal.returns-in-Err
returns-in-Err g c =
    try_not_handed g.N.Name.named (ops_of c.args.operations.now) c.in-Err.failure c.not_handed_in.result c.args.session.now c.transact.new.self c.not_handed_in.ensures c.in-Err.ensures.fewer
