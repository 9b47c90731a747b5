use Rattle.std.proofs.Common.{◌≡◌, ◌+◌, ◌≤◌, ◌-◌, suc, length, refl, sym, ap, subst, ◌∙◌, arith}
use Rattle.occ_store.specs.Frames.{workers_from, sessions_from, lanes_from, seating}
use Rattle.occ_store.proofs.PartsMade.{places_named, parts_named, lanes_named, workers_named, count_named, others_named, cut_named, frame_place, frame_locked}
use Rattle.occ_store.proofs.stores.Store.open.Goals as goal

pub open-rows-requires-clause-name : goal.open-rows-requires-clause-name
open-rows-requires-clause-name g c = ap (λ f. f.ledger) c.frame.view_is ∙ c.requires.ledger.0

pub open-rows-requires-clause-parts : goal.open-rows-requires-clause-parts
open-rows-requires-clause-parts g c = ap (λ f. f.parts) c.frame.view_is ∙ c.requires.ledger.1

pub named-story-requires : goal.named-story-requires
named-story-requires g c = ap (λ f. f.named.story) c.frame.view_is ∙ ap (λ n. n.story) c.requires.named

pub hire-requires-clause-places : goal.hire-requires-clause-places
hire-requires-clause-places g c = places_named _ _ _ _ _ _ _ c.frame.invariant _ (ap (λ f. f.named) c.frame.view_is ∙ c.requires.named)

pub hire-requires-clause-story : goal.hire-requires-clause-story
hire-requires-clause-story g c = c.named-story.ensures

pub hire-requires-clause-ledger : goal.hire-requires-clause-ledger
hire-requires-clause-ledger g c =
    let names = ap (λ f. f.named) c.frame.view_is ∙ c.requires.named in
    let count = count_named _ _ _ _ _ _ _ c.frame.invariant _ names in
    let cut = cut_named _ _ _ _ _ _ _ c.frame.invariant _ names in
    let own = ap (λ f. f.parts) c.frame.view_is ∙ c.requires.ledger.1 in
    let parts = c.open-rows.ensures.parts in
    (omega arith, c.open-rows.ensures.amount)

pub hire-requires-clause-empty : goal.hire-requires-clause-empty
hire-requires-clause-empty g c = (c.in-Ok.ensures.empty.0, c.in-Ok.ensures.none.0)

pub hire-requires-clause-room : goal.hire-requires-clause-room
hire-requires-clause-room g c =
    let here = c.len.ensures in
    let seen = c.frame.inside.places.ok.0 in
    let room = c.in-Ok.ensures.room.0 in
    omega arith

pub seat-requires-clause-parts : goal.seat-requires-clause-parts
seat-requires-clause-parts g c = parts_named _ _ _ _ _ _ _ c.frame.invariant _ (ap (λ f. f.named) c.frame.view_is ∙ c.requires.named)

pub seat-requires-clause-lanes : goal.seat-requires-clause-lanes
seat-requires-clause-lanes g c = lanes_named _ _ _ _ _ _ _ c.frame.invariant _ (ap (λ f. f.named) c.frame.view_is ∙ c.requires.named)

pub seat-requires-clause-story : goal.seat-requires-clause-story
seat-requires-clause-story g c = c.hire.ensures.story ∙ ap seating (workers_named _ _ _ _ _ _ _ c.frame.invariant _ (ap (λ f. f.named) c.frame.view_is ∙ c.requires.named))

pub seat-requires-clause-ledger : goal.seat-requires-clause-ledger
seat-requires-clause-ledger g c =
    let names = ap (λ f. f.named) c.frame.view_is ∙ c.requires.named in
    let count = count_named _ _ _ _ _ _ _ c.frame.invariant _ names in
    let cut = cut_named _ _ _ _ _ _ _ c.frame.invariant _ names in
    let own = ap (λ f. f.parts) c.frame.view_is ∙ c.requires.ledger.1 in
    let parts = c.open-rows.ensures.parts in
    let given = c.hire.ensures.ledger.0 in
    (omega arith, c.hire.ensures.ledger.1)

pub seat-requires-clause-empty : goal.seat-requires-clause-empty
seat-requires-clause-empty g c = (c.in-Ok.ensures.empty.1, c.in-Ok.ensures.empty.2)

pub seat-requires-clause-none : goal.seat-requires-clause-none
seat-requires-clause-none g c = (c.in-Ok.ensures.none.1, c.in-Ok.ensures.none.2)

pub seat-requires-clause-room : goal.seat-requires-clause-room
seat-requires-clause-room g c =
    let here = c.len-2.ensures in
    let seen = c.frame.inside.parts.ok.0 in
    let first = c.in-Ok.ensures.room.1 in
    let second = c.in-Ok.ensures.room.2 in
    (omega arith, omega arith)

pub new-origin-requires : goal.new-origin-requires
new-origin-requires g c =
    c.place-origin.ensures ∙ ap (λ b. b.place) c.base.ensures.base ∙ ap (λ w. w.base.place) c.core.ensures.world
    ∙ frame_place _ _ _ _ _ _ _ c.frame.invariant _ (ap (λ f. f.named) c.frame.view_is ∙ c.requires.named)

pub new-store-requires-clause-locked : goal.new-store-requires-clause-locked
new-store-requires-clause-locked g c =
    let none = c.open-rows.ensures.total in
    let own = c.new-origin.ensures in
    let place = c.place-origin.ensures ∙ ap (λ b. b.place) c.base.ensures.base ∙ ap (λ w. w.base.place) c.core.ensures.world in
    frame_locked _ _ _ _ _ _ _ c.frame.invariant _ (ap (λ f. f.named) c.frame.view_is ∙ c.requires.named) _ _ _ _ _ (omega arith) c.seat.ensures.story refl refl

pub new-store-requires-clause-file : goal.new-store-requires-clause-file
new-store-requires-clause-file g c = c.frame.invariant.shared ∙ ap (λ n. n.file) (ap (λ f. f.named) c.frame.view_is ∙ c.requires.named)

pub new-store-requires-clause-cut : goal.new-store-requires-clause-cut
new-store-requires-clause-cut g c =
    let cut = cut_named _ _ _ _ _ _ _ c.frame.invariant _ (ap (λ f. f.named) c.frame.view_is ∙ c.requires.named) in
    let own = ap (λ f. f.parts) c.frame.view_is ∙ c.requires.ledger.1 in
    omega arith

pub returns-clause-workers : goal.returns-clause-workers
returns-clause-workers g c =
    let names = ap (λ f. f.named) c.frame.view_is ∙ c.requires.named in
    c.hire.ensures.workers ∙ ap (workers_from g.N.Name.named) (workers_named _ _ _ _ _ _ _ c.frame.invariant _ names)

pub returns-clause-sessions : goal.returns-clause-sessions
returns-clause-sessions g c =
    let names = ap (λ f. f.named) c.frame.view_is ∙ c.requires.named in
    c.seat.ensures.sessions ∙ ap (sessions_from g.N.Name.named) (others_named _ _ _ _ _ _ _ c.frame.invariant _ names)

pub returns-clause-lanes : goal.returns-clause-lanes
returns-clause-lanes g c =
    let names = ap (λ f. f.named) c.frame.view_is ∙ c.requires.named in
    c.seat.ensures.lanes ∙ ap (lanes_from g.N.Name.named) (others_named _ _ _ _ _ _ _ c.frame.invariant _ names)
