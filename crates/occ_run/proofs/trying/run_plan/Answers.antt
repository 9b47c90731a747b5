use Rattle.occ_run.proofs.Tries.{refused_plan, committed_plan, alone_plan}
use Rattle.occ_run.proofs.trying.run_plan.Goals as goal

pub returns-in-Refused : goal.returns-in-Refused
returns-in-Refused g c = refused_plan g.N.Name.named _ _ _ c.args.session.now c.try_up_to.new.session c.in-Refused.is c.in_ok-try_up_to.ensures

pub returns-in-Committed : goal.returns-in-Committed
returns-in-Committed g c = committed_plan g.N.Name.named _ _ _ c.args.session.now c.try_up_to.new.session c.in-Committed.is c.in_ok-try_up_to.ensures

pub returns : goal.returns
returns g c = alone_plan g.N.Name.named _ _ _ c.args.session.now c.try_up_to.new.session c.run_alone.new.session c.in-BackedUp.is c.in_ok-try_up_to.ensures c.in_ok-run_alone.ensures
