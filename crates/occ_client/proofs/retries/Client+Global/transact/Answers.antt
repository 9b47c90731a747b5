use Rattle.occ_client.specs.Transacts.{CalledAtBoth, moment}
use Rattle.occ_client.proofs.Transacting.{transacts, last}
use Rattle.occ_client.proofs.retries.Client+Global.transact.Goals as goal

pub returns-clause-tries : goal.returns-clause-tries
returns-clause-tries g c =
    transacts (CalledAtBoth g.F.FnMut) g.E.From.from_gives _ c.at_least_one.result c.args.body _ (moment c.prepare.new.self c.prepare.new.store) c.try_up_to.result c.try_up_to.new.body _ c.prepare.ensures c.at_least_one.ensures.most c.try_up_to.ensures

pub returns-clause-last : goal.returns-clause-last
returns-clause-last g c =
    last (CalledAtBoth g.F.FnMut) g.E.From.from_gives _ c.args.body _ c.try_up_to.result (moment c.try_up_to.new.self c.try_up_to.new.store)
    (transacts (CalledAtBoth g.F.FnMut) g.E.From.from_gives _ c.at_least_one.result c.args.body _ (moment c.prepare.new.self c.prepare.new.store) c.try_up_to.result c.try_up_to.new.body _ c.prepare.ensures c.at_least_one.ensures.most c.try_up_to.ensures)
