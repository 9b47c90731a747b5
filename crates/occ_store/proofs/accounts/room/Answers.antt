use Rattle.std.proofs.Common.{◌<◌, subst}
use Rattle.occ_store.proofs.AccountLines.{rooms_taken, rooms_all}
use Rattle.occ_store.proofs.accounts.room.Goals as goal

pub loop-place-preserved : goal.loop-place-preserved
loop-place-preserved g c =
    let place = c.loop-place.place in
    let second = subst (λ n. place < n) c.requires c.loop-place-test.true in
    rooms_taken c.args.lanes.now c.args.sessions.now _ _ place c.index-lanes-place.result c.index-sessions-place.result _ c.loop-place-test.true second c.index-lanes-place.is c.index-sessions-place.is c.loop-place.invariant
    c.in_ok-room_for.ensures.room c.in_ok-push.ensures.items

pub returns-clause-rooms : goal.returns-clause-rooms
returns-clause-rooms g c = rooms_all c.args.lanes.now c.args.sessions.now _ c.loop-place.place c.loop-place-test.false c.requires c.loop-place.invariant
