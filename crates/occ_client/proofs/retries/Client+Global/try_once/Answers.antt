use Rattle.std.proofs.Common.{refl, sym}
use Rattle.occ_client.specs.Transacts.{CalledAtBoth, moment}
use Rattle.occ_client.proofs.Transacting.{ended_so, not_ended, body_fails}
use Rattle.occ_client.proofs.retries.Client+Global.try_once.Goals as goal

pub returns-in-Ok-end_try-clause-tries : goal.returns-in-Ok-end_try-clause-tries
returns-in-Ok-end_try-clause-tries g c =
    ended_so (CalledAtBoth g.F.FnMut) g.E.From.from_gives _ _ (moment c.begin.new.self c.args.store.now) c.in-Ok.value c.run_body.new.body (moment c.run_body.new.self c.run_body.new.store) c.in-Ok-end_try.ended _
    (record { may = sym c.in_default.ensures.fault; begun = c.in_default.ensures.ok; same = refl })
    c.in-Ok.ensures.called
    c.in-Ok-end_try.ensures

pub returns-in-Err-end_try-clause-tries : goal.returns-in-Err-end_try-clause-tries
returns-in-Err-end_try-clause-tries g c =
    not_ended (CalledAtBoth g.F.FnMut) g.E.From.from_gives _ _ (moment c.begin.new.self c.args.store.now) c.in-Ok.value c.run_body.new.body (moment c.run_body.new.self c.run_body.new.store) _ c.in-Err-end_try.fault _
    (record { may = sym c.in_default.ensures.fault; begun = c.in_default.ensures.ok; same = refl })
    c.in-Ok.ensures.called
    c.in-Err-end_try.ensures
    c.from-in-Err-end_try.ensures

pub returns-in-Err-run_body-clause-tries : goal.returns-in-Err-run_body-clause-tries
returns-in-Err-run_body-clause-tries g c =
    body_fails (CalledAtBoth g.F.FnMut) g.E.From.from_gives _ _ (moment c.begin.new.self c.args.store.now) c.in-Err-run_body.error _ c.run_body.new.body (moment c.run_body.new.self c.run_body.new.store) _
    (record { may = sym c.in_default.ensures.fault; begun = c.in_default.ensures.ok; same = refl })
    c.in-Err-run_body.ensures.called
    c.give_up_for.ensures.gives_up
    c.give_up_for.ensures.why
