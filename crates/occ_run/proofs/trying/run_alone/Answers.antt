use Rattle.std.proofs.Common.{refl, subst}
use Rattle.occ_run.specs.Clients.{RunsAlone}
use Rattle.occ_run.proofs.Tries.{ran_alone}
use Rattle.occ_run.proofs.trying.run_alone.Goals as goal

pub returns-in-Committed : goal.returns-in-Committed
returns-in-Committed g c =
    subst (λ operations. RunsAlone operations c.args.session.now c.settled.new.session) c.in_ok-copies.ensures.same
    (ran_alone _ c.args.session.now c.alone.new.session c.wait-awaited.new.self c.settled.new.session c.in_ok-number.number (record { number = c.in_ok-number.number; value = tt }) c.wait-awaited.result _ _ _ c.in_ok-number.ensures refl c.wait-awaited.ensures.same c.wait-awaited.ensures.awaited c.in_ok-settled.ensures.told c.in_ok-settled.ensures.same c.in-Committed.is)
