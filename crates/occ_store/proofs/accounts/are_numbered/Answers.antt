use Rattle.std.proofs.Common.{◌≡◌, ◌+◌, ◌<◌, suc, length, subst, ap, ◌∙◌, arith}
use Rattle.std.specs.Prelude.{drop}
use Rattle.occ_store.specs.Accounts.{are_numbered}
use Rattle.occ_store.proofs.AccountLines.{numbered_on, numbered_not, numbered_all}
use Rattle.occ_store.proofs.accounts.are_numbered.Goals as goal

pub loop-place-init : goal.loop-place-init
loop-place-init g c =
    let first : suc (c.args.workers + 0) ≡ suc c.args.workers = omega arith in
    ap (λ n. are_numbered n c.args.lanes.now c.args.sessions.now) first

pub loop-place-preserved : goal.loop-place-preserved
loop-place-preserved g c =
    let place = c.loop-place.place in
    let second = subst (λ n. place < n) c.requires.same c.loop-place-test.true in
    let number : c.args.workers + place + 1 ≡ suc (c.args.workers + place) = omega arith in
    let next : suc (suc (c.args.workers + place)) ≡ suc (c.args.workers + (place + 1)) = omega arith in
    numbered_on c.args.lanes.now c.args.sessions.now place (suc (c.args.workers + place)) (c.args.workers + place + 1) (suc (c.args.workers + (place + 1))) c.index-lanes-place.result c.index-sessions-place.result c.have_number.result
    (are_numbered (suc c.args.workers) c.args.lanes.now c.args.sessions.now) c.loop-place-test.true second c.index-lanes-place.is c.index-sessions-place.is c.have_number.ensures number next c.loop-place.invariant
    c.if-not-have_number.false

pub returns-then-not-have_number : goal.returns-then-not-have_number
returns-then-not-have_number g c =
    let place = c.loop-place.place in
    let second = subst (λ n. place < n) c.requires.same c.loop-place-test.true in
    let number : c.args.workers + place + 1 ≡ suc (c.args.workers + place) = omega arith in
    let next : suc (suc (c.args.workers + place)) ≡ suc (c.args.workers + (place + 1)) = omega arith in
    numbered_not c.args.lanes.now c.args.sessions.now place (suc (c.args.workers + place)) (c.args.workers + place + 1) (suc (c.args.workers + (place + 1))) c.index-lanes-place.result c.index-sessions-place.result c.have_number.result
    (are_numbered (suc c.args.workers) c.args.lanes.now c.args.sessions.now) c.loop-place-test.true second c.index-lanes-place.is c.index-sessions-place.is c.have_number.ensures number next c.loop-place.invariant
    c.if-not-have_number.true

pub returns : goal.returns
returns g c =
    let below = c.loop-place.auto.place-end in
    let above = c.loop-place-test.false in
    let end : c.loop-place.place ≡ length c.args.lanes.now = omega arith in
    numbered_all c.args.lanes.now c.args.sessions.now c.loop-place.place (suc (c.args.workers + c.loop-place.place)) (are_numbered (suc c.args.workers) c.args.lanes.now c.args.sessions.now) end c.requires.same c.loop-place.invariant
