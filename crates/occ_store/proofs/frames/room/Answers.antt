use Rattle.std.proofs.Common.{◌≡◌, ◌+◌, ◌≤◌, suc, length, map, subst, ap, sym, ◌∙◌, arith}
use Rattle.std.specs.Prelude.{min}
use Rattle.std.specs.List.{range_with_len}
use Rattle.std.proofs.lemmas.List.FromFn.{length-map-range_with_len}
use Rattle.occ_types.specs.Schema.{Schema}
use Rattle.occ_board.specs.Rule.{fresh}
use Rattle.occ_store.specs.Frames.{ArePlaces, AreParts}
use Rattle.occ_store.proofs.PartsMade.{first_seats, other_seats, fewer_have_room}
use Rattle.occ_store.proofs.frames.room.Goals as goal

pub returns-clause-count : goal.returns-clause-count
returns-clause-count g c =
    let len = c.len.ensures in
    let seats = c.in_ok-publisher.seats.ok.0 in
    let all = ap length c.in_ok-publisher.ensures.seats ∙ length-map-range_with_len (fresh c.in_ok-publisher.publisher.board) 1 c.args.sessions in
    let within = c.first_ones-hired.ensures.within in
    let first = (first_seats c.in_ok-publisher.publisher.board _ _ c.first_ones-hired.result c.args.sessions c.in_ok-publisher.ensures.seats (omega arith) c.in_ok-others.ensures.items).1 in
    let other = (other_seats c.in_ok-publisher.publisher.board _ _ c.first_ones-hired.result c.args.sessions c.in_ok-publisher.ensures.seats (omega arith) c.in_ok-others.ensures.tail).1 in
    let places = c.in_ok-places.ensures.count in
    let parts = c.in_ok-parts.ensures.count in
    omega arith

pub returns-clause-workers : goal.returns-clause-workers
returns-clause-workers g c =
    let len = c.len.ensures in
    let seats = c.in_ok-publisher.seats.ok.0 in
    let all = ap length c.in_ok-publisher.ensures.seats ∙ length-map-range_with_len (fresh c.in_ok-publisher.publisher.board) 1 c.args.sessions in
    let within = c.first_ones-hired.ensures.within in
    let total : c.len.result ≡ c.args.sessions = omega arith in
    let first = (first_seats c.in_ok-publisher.publisher.board _ _ c.first_ones-hired.result c.args.sessions c.in_ok-publisher.ensures.seats (omega arith) c.in_ok-others.ensures.items).1 in
    c.in_ok-places.ensures.count ∙ first ∙ c.first_ones-hired.ensures.is ∙ ap (min c.args.workers) total

pub returns-clause-places : goal.returns-clause-places
returns-clause-places g c = λ room.
    let board = c.in_ok-publisher.publisher.board in
    let len = c.len.ensures in
    let seats = c.in_ok-publisher.seats.ok.0 in
    let all = ap length c.in_ok-publisher.ensures.seats ∙ length-map-range_with_len (fresh board) 1 c.args.sessions in
    let within = c.first_ones-hired.ensures.within in
    let below : c.first_ones-hired.result ≤ c.args.sessions = omega arith in
    let first = first_seats board _ _ c.first_ones-hired.result c.args.sessions c.in_ok-publisher.ensures.seats below c.in_ok-others.ensures.items in
    let count = first.1 in
    subst (λ (s : Schema). ArePlaces board s c.args.base.now.base 1 c.in_ok-places.places.items) (c.in_ok-tables-2.ensures.ok ∙ c.in_ok-tables.ensures.cases)
    (c.in_ok-places.ensures.places board first.0 (fewer_have_room c.args.base.now.base c.args.sessions _ room (omega arith)))

pub returns-clause-parts : goal.returns-clause-parts
returns-clause-parts g c = λ room.
    let board = c.in_ok-publisher.publisher.board in
    let len = c.len.ensures in
    let seats = c.in_ok-publisher.seats.ok.0 in
    let all = ap length c.in_ok-publisher.ensures.seats ∙ length-map-range_with_len (fresh board) 1 c.args.sessions in
    let within = c.first_ones-hired.ensures.within in
    let below : c.first_ones-hired.result ≤ c.args.sessions = omega arith in
    let first = (first_seats board _ _ c.first_ones-hired.result c.args.sessions c.in_ok-publisher.ensures.seats below c.in_ok-others.ensures.items).1 in
    let other = other_seats board _ _ c.first_ones-hired.result c.args.sessions c.in_ok-publisher.ensures.seats below c.in_ok-others.ensures.tail in
    let many = other.1 in
    subst (λ n. AreParts board c.args.schema.now c.args.base.now.base (suc n) c.in_ok-parts.parts.items) (sym (c.in_ok-places.ensures.count ∙ first))
    (subst (λ (s : Schema). AreParts board s c.args.base.now.base (suc c.first_ones-hired.result) c.in_ok-parts.parts.items) (c.in_ok-tables-2.ensures.ok ∙ c.in_ok-tables.ensures.cases)
    (c.in_ok-parts.ensures.parts board other.0 (fewer_have_room c.args.base.now.base c.args.sessions _ room (omega arith))))
