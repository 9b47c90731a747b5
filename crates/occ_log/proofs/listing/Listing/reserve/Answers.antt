use Rattle.std.proofs.Common.{◌≡◌, ◌-◌, length, sym, ap, ◌∙◌, arith}
use Rattle.occ_log.proofs.Common.{length-map, listed_at, listed_of, lt-ltb, on_ok_weaker}
use Rattle.occ_log.proofs.Listed.{places-now, free-now, either}
use Rattle.occ_log.proofs.listing.Listing.reserve.Goals as goal

pub returns-clause-room : goal.returns-clause-room
returns-clause-room g c =
    let from = c.requires.from in
    let below = c.requires.below in
    let same : length c.self.inside.lists.items ≡ length c.args.self.now = sym (length-map c.self.inside.lists.items listed_of) ∙ ap length c.self.view_is in
    on_ok_weaker c.reserve.result (λ room. free-now c.self.inside.lists.items (c.args.session - 1) c.index_mut-places.result.now c.reserve.new.self (omega arith) c.index_mut-places.ensures.value
    c.args.session (omega arith) (lt-ltb _ _ (omega arith))) c.reserve.ensures.ok

pub returns-clause-places : goal.returns-clause-places
returns-clause-places g c = λ other.
    let from = c.requires.from in
    let below = c.requires.below in
    let same : length c.self.inside.lists.items ≡ length c.args.self.now = sym (length-map c.self.inside.lists.items listed_of) ∙ ap length c.self.view_is in
    places-now c.self.inside.lists.items (c.args.session - 1) c.index_mut-places.result.now c.reserve.new.self (omega arith) c.index_mut-places.ensures.value
    (λ places. places) c.args.session other c.reserve.ensures.items (omega arith)
    ∙ either _ _ ∙ ap (λ lists. (listed_at lists other).places) c.self.view_is
