use Rattle.std.proofs.Common.{◌≡◌, List, ◌+◌, ◌≤◌, ◌<◌, length, subst, sym, ap, ◌∙◌, rules, arith, length-append}
use Rattle.std.proofs.lemmas.Iterator.Consumers.{YieldsList-turn}
use Rattle.std.proofs.lemmas.Iterator.Adapters.{YieldsList-from_vec}
use Rattle.std.specs.Arc.{arc_value}
use Rattle.occ_store.specs.Frames.{PlaceView, ArePlaces}
use Rattle.occ_store.proofs.PartsMade.{seat_at, places_more}
use Rattle.occ_store.proofs.frames.places.Goals as goal

pub loop-seat-preserved : goal.loop-seat-preserved
loop-seat-preserved g c =
    let turn = YieldsList-turn (YieldsList-from_vec {s = c.into_iter-seat-iterator.result} c.args.seats.items (search rules) (search rules))
    c.loop-seat.yielded c.loop-seat.seat-iterator c.loop-seat.yielded_by c.next.result c.next.new.self c.in-Some.seat c.in-Some.is c.next.ensures.steps in
    let count = c.loop-seat.invariant.0 in
    let seen = c.len-session.ensures ∙ c.loop-seat.invariant.1 in
    let below = turn.0 in
    let session = c.len-session.result + 1 in
    let number : session ≡ 1 + length c.loop-seat.places.items = omega arith in
    let at : 1 + length c.loop-seat.yielded ≡ session = omega arith in
    let some : 0 < session = omega arith in
    let within : session ≤ length c.args.seats.items = omega arith in (
      ap length c.in_ok-push.ensures.items ∙ length-append _ _ ∙ ap (λ n. n + 1) count ∙ sym (length-append _ _),
      c.in_ok-push.ensures.len ∙ ap (λ n. n + 1) c.loop-seat.invariant.1 ∙ sym (length-append _ _),
      λ board are room.
          subst (λ (l : List PlaceView). ArePlaces board (arc_value c.args.tables.now) c.args.base.now.base 1 l) (sym c.in_ok-push.ensures.items)
          (places_more board _ c.args.base.now.base 1 _ session _ _ (c.loop-seat.invariant.2 board are room) number (c.lane_begin-last.ensures.last (room session some within))
          (c.in_ok-place.ensures.place board (seat_at board 1 c.args.seats.items (length c.loop-seat.yielded) session c.in-Some.seat are turn.0 turn.1 at))),
    )
