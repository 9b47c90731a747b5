use Rattle.std.proofs.Common.{◌≡◌, suc, List, ◌+◌, ◌≤◌, ◌<◌, length, subst, sym, ap, ◌∙◌, rules, arith, length-append}
use Rattle.std.proofs.lemmas.Iterator.Consumers.{YieldsList-turn}
use Rattle.std.proofs.lemmas.Iterator.Adapters.{YieldsList-from_vec}
use Rattle.std.proofs.lemmas.List.Elements.{All-push}
use Rattle.std.specs.Arc.{arc_value}
use Rattle.occ_store.specs.Frames.{PartView, AreParts, HasRoomFor, HaveRoomFor}
use Rattle.occ_store.proofs.PartsMade.{seat_at, parts_more}
use Rattle.occ_store.proofs.frames.parts.Goals as goal

pub overflow_add-session : goal.overflow_add-session
overflow_add-session g c =
    let turn = YieldsList-turn (YieldsList-from_vec {s = c.into_iter-seat-iterator.result} c.args.seats.items (search rules) (search rules))
    c.loop-seat.yielded c.loop-seat.seat-iterator c.loop-seat.yielded_by c.next.result c.next.new.self c.in-Some.seat c.in-Some.is c.next.ensures.steps in
    let below = turn.0 in
    let seen = c.len-in-loop-seat.ensures ∙ c.loop-seat.invariant.1 in
    let fits = c.requires in
    omega arith

pub loop-seat-preserved : goal.loop-seat-preserved
loop-seat-preserved g c =
    let turn = YieldsList-turn (YieldsList-from_vec {s = c.into_iter-seat-iterator.result} c.args.seats.items (search rules) (search rules))
    c.loop-seat.yielded c.loop-seat.seat-iterator c.loop-seat.yielded_by c.next.result c.next.new.self c.in-Some.seat c.in-Some.is c.next.ensures.steps in
    let count = c.loop-seat.invariant.0 in
    let seen = c.len-in-loop-seat.ensures ∙ c.loop-seat.invariant.1 in
    let below = turn.0 in
    let session = c.args.workers + c.len-in-loop-seat.result + 1 in
    let number : session ≡ suc c.args.workers + length c.loop-seat.parts.items = omega arith in
    let at : suc c.args.workers + length c.loop-seat.yielded ≡ session = omega arith in
    let some : 0 < session = omega arith in
    let within : session ≤ c.args.workers + length c.args.seats.items = omega arith in (
      ap length c.in_ok-push.ensures.items ∙ length-append _ _ ∙ ap (λ n. n + 1) count ∙ sym (length-append _ _),
      c.in_ok-push.ensures.len ∙ ap (λ n. n + 1) c.loop-seat.invariant.1 ∙ sym (length-append _ _),
      λ board are room.
          subst (λ (l : List PartView). AreParts board (arc_value c.args.tables.now) c.args.base.now.base (suc c.args.workers) l) (sym c.in_ok-push.ensures.items)
          (parts_more board _ c.args.base.now.base (suc c.args.workers) _ session _ _ (c.loop-seat.invariant.2 board are room) number (c.lane_begin-last.ensures.last (room session some within))
          (c.in_ok-part.ensures.part board (seat_at board (suc c.args.workers) c.args.seats.items (length c.loop-seat.yielded) session c.in-Some.seat are turn.0 turn.1 at))),
      subst (HaveRoomFor c.args.capacity) (sym c.in_ok-push.ensures.items)
          (All-push (λ (p : PartView). HasRoomFor c.args.capacity p.receiver.lane) _ _ c.loop-seat.invariant.3 c.in_ok-part.ensures.room),
    )
