use Rattle.std.proofs.Common.{◌≡◌, ◌+◌, suc, length, arith}
use Rattle.occ_store.specs.Accounts.{are_hired}
use Rattle.occ_store.proofs.AccountLines.{hired_on, hired_not, hired_all}
use Rattle.occ_store.proofs.accounts.are_hired.Goals as goal

pub loop-place-preserved : goal.loop-place-preserved
loop-place-preserved g c =
    let place = c.loop-place.place in
    let next : place + 1 ≡ suc place = omega arith in
    hired_on c.args.workers.now place (place + 1) c.session.result c.index-workers-place.result (are_hired 1 c.args.workers.now) c.loop-place-test.true c.index-workers-place.is c.session.ensures next c.loop-place.invariant c.if-session-place.false

pub returns-then-session-place : goal.returns-then-session-place
returns-then-session-place g c =
    let place = c.loop-place.place in
    let next : place + 1 ≡ suc place = omega arith in
    hired_not c.args.workers.now place (place + 1) c.session.result c.index-workers-place.result (are_hired 1 c.args.workers.now) c.loop-place-test.true c.index-workers-place.is c.session.ensures next c.loop-place.invariant c.if-session-place.true

pub returns : goal.returns
returns g c =
    let below = c.loop-place.auto.place-end in
    let above = c.loop-place-test.false in
    let end : c.loop-place.place ≡ length c.args.workers.now = omega arith in
    hired_all c.args.workers.now c.loop-place.place (are_hired 1 c.args.workers.now) end c.loop-place.invariant
