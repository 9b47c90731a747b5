use Rattle.std.proofs.Common.{ℕ, Result, subst, IfOk}
use Rattle.occ_run.specs.declared.ends.Stop.{Stop}
use Rattle.occ_run.specs.Clients.{own, Played}
use Rattle.occ_run.proofs.Playing.{has_played}
use Rattle.occ_run.proofs.clients.play.Goals as goal

pub returns : goal.returns
returns g c =
    has_played g.N.Name.named g.L.Load.retries g.L.Load.plans c.in_ok-refused.refused c.args.session.now c.run_plans-ran.new.session c.close-closed.new.session c.requires
    (subst (λ (r : Result ℕ Stop). IfOk r (λ refused. Played g.N.Name.named g.L.Load.retries (own c.args.session.now.session g.L.Load.plans) refused c.args.session.now c.run_plans-ran.new.session)) c.in_ok-refused.was c.run_plans-ran.ensures)
    c.in_ok-closed.ensures
