use Rattle.std.proofs.Common.{arith, sym, ap, subst, ◌∙◌}
use mathlib.Core.List.{IsPrefix}
use Rattle.occ_history.specs.History.{StoryView}
use Rattle.occ_history.proofs.Asked.{asks_shown, shown_is, asks_catch, still_shown, asks_back, back_is, front_back, one_front}
use Rattle.occ_history.proofs.stories.Story.catch_up.Goals as goal

pub join_seat-requires : goal.join_seat-requires
join_seat-requires g c = let i = c.self.invariant in let words = i.2 in let p = c.take-front.ensures.pass in
    (i.0 ∙ sym i.1, p.0 ∙ sym i.1, ap (λ m. m.1) p.1, omega arith, asks_shown _ _ _ _ _ _ i.3 p.1)

pub load-requires : goal.load-requires
load-requires g c = let i = c.self.invariant in let words = i.2 in let p = c.take-front.ensures.pass in let j = c.join_seat.ensures in
    (j.0 ∙ i.0 ∙ sym i.1, omega arith, asks_catch _ _ _ _ _ (shown_is _ _ _ _ _ i.3 p.1 j.2))

pub split_seat-front-requires : goal.split_seat-front-requires
split_seat-front-requires g c = let i = c.self.invariant in let words = i.2 in let p = c.take-front.ensures.pass in let j = c.join_seat.ensures in let l = c.load.ensures in
    let shown = shown_is _ _ _ _ _ i.3 p.1 j.2 in
    let told = l.2 _ _ (ap (λ m. m.0) shown) in
    (l.0 ∙ j.0 ∙ i.0 ∙ sym i.1, omega arith, asks_back _ _ _ _ (still_shown _ _ _ _ _ _ shown told.2))

pub of-requires : goal.of-requires
of-requires g c = let i = c.self.invariant in let p = c.take-front.ensures.pass in let j = c.join_seat.ensures in let l = c.load.ensures in let s = c.split_seat-front.ensures in
    let shown = shown_is _ _ _ _ _ i.3 p.1 j.2 in
    let told = l.2 _ _ (ap (λ m. m.0) shown) in
    (_, (s.3 ∙ l.0 ∙ j.0 ∙ i.0, front_back _ _ _ _ (still_shown _ _ _ _ _ _ shown told.2) s.4, c.requires))

pub invariant_of-self : goal.invariant_of-self
invariant_of-self g c = let i = c.self.invariant in let p = c.take-front.ensures.pass in let j = c.join_seat.ensures in let l = c.load.ensures in let s = c.split_seat-front.ensures in
    let shown = shown_is _ _ _ _ _ i.3 p.1 j.2 in
    let told = l.2 _ _ (ap (λ m. m.0) shown) in
    (s.0 ∙ l.0 ∙ j.0 ∙ i.0, i.1, i.2, (back_is _ _ _ _ (still_shown _ _ _ _ _ _ shown told.2) s.2).0)

pub returns-clause-same : goal.returns-clause-same
returns-clause-same g c = let i = c.self.invariant in let p = c.take-front.ensures.pass in let j = c.join_seat.ensures in let l = c.load.ensures in let s = c.split_seat-front.ensures in
    let shown = shown_is _ _ _ _ _ i.3 p.1 j.2 in
    let told = l.2 _ _ (ap (λ m. m.0) shown) in
    (back_is _ _ _ _ (still_shown _ _ _ _ _ _ shown told.2) s.2).1 ∙ c.self.view_is

pub returns-clause-before : goal.returns-clause-before
returns-clause-before g c = let i = c.self.invariant in let p = c.take-front.ensures.pass in let told = c.load.ensures.2 _ _ (ap (λ m. m.0) (shown_is _ _ _ _ _ i.3 p.1 c.join_seat.ensures.2)) in
    subst (λ (k : StoryView). IsPrefix c.args.me.now.seen k.log) c.self.view_is told.0

pub returns-clause-seen : goal.returns-clause-seen
returns-clause-seen g c = let i = c.self.invariant in let p = c.take-front.ensures.pass in let j = c.join_seat.ensures in let l = c.load.ensures in let s = c.split_seat-front.ensures in
    let shown = shown_is _ _ _ _ _ i.3 p.1 j.2 in
    let told = l.2 _ _ (ap (λ m. m.0) shown) in
    one_front _ _ _ (front_back _ _ _ _ (still_shown _ _ _ _ _ _ shown told.2) s.4) c.of.ensures.1 ∙ ap (λ (k : StoryView). record c.args.me.now { seen = k.log }) c.self.view_is
