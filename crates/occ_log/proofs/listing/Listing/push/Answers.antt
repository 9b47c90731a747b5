use Rattle.std.proofs.Common.{◌-◌, [], ◌∷◌, ◌++◌, cond, ap, ◌∙◌, arith, ◌==◌}
use Rattle.occ_log.proofs.Common.{listed_at, ltb-true}
use Rattle.occ_log.proofs.Listed.{room-at, places-now}
use Rattle.occ_log.proofs.listing.Listing.push.Goals as goal

pub push_reserved-requires : goal.push_reserved-requires
push_reserved-requires g c =
    ltb-true _ _ (room-at c.self.inside.lists.items c.args.self.now c.args.session c.index_mut-places.result.now c.self.view_is c.requires.from c.requires.room c.index_mut-places.ensures.value).1

pub returns-clause-places : goal.returns-clause-places
returns-clause-places g c = λ other.
    let from = c.requires.from in
    let room = room-at c.self.inside.lists.items c.args.self.now c.args.session c.index_mut-places.result.now c.self.view_is from c.requires.room c.index_mut-places.ensures.value in
    places-now c.self.inside.lists.items (c.args.session - 1) c.index_mut-places.result.now c.push_reserved.new.self room.0 c.index_mut-places.ensures.value
    (λ places. places ++ c.args.place ∷ []) c.args.session other c.push_reserved.ensures.items (omega arith)
    ∙ ap (λ lists. cond (c.args.session == other) ((listed_at lists other).places ++ c.args.place ∷ []) (listed_at lists other).places) c.self.view_is
