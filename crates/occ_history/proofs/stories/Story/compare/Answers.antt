use Rattle.std.proofs.Common.{arith, sym, ap, ◌∙◌}
use Rattle.occ_history.proofs.Asked.{asks_compare, compared_is, asks_find, asks_apart, first_back, second_back, one_front}
use Rattle.occ_history.proofs.stories.Story.compare.Goals as goal

pub join_seat-requires : goal.join_seat-requires
join_seat-requires g c = let i = c.self.invariant in let words = i.2 in let p = c.take-pass.ensures.pass in let q = c.take-other.ensures.pass in
    (p.0 ∙ sym i.1, q.0 ∙ sym i.1, ap (λ m. m.1) q.1, omega arith, asks_compare _ _ _ _ _ _ p.1 q.1)

pub load-requires : goal.load-requires
load-requires g c = let i = c.self.invariant in let words = i.2 in let p = c.take-pass.ensures.pass in let q = c.take-other.ensures.pass in let j = c.join_seat.ensures in
    (j.0 ∙ p.0 ∙ sym i.1, omega arith, asks_find _ _ _ _ _ (compared_is _ _ _ _ _ p.1 q.1 j.2))

pub split_seat-other-requires : goal.split_seat-other-requires
split_seat-other-requires g c = let i = c.self.invariant in let words = i.2 in let p = c.take-pass.ensures.pass in let q = c.take-other.ensures.pass in let j = c.join_seat.ensures in let l = c.load.ensures in
    let both = compared_is _ _ _ _ _ p.1 q.1 j.2 in
    let told = l.2 _ _ (ap (λ m. m.0) both) in
    (l.0 ∙ j.0 ∙ p.0 ∙ sym i.1, omega arith, asks_apart _ _ _ _ (told.1 ∙ both))

pub of-requires : goal.of-requires
of-requires g c = let p = c.take-pass.ensures.pass in let q = c.take-other.ensures.pass in let j = c.join_seat.ensures in let l = c.load.ensures in let s = c.split_seat-other.ensures in
    let both = compared_is _ _ _ _ _ p.1 q.1 j.2 in
    let told = l.2 _ _ (ap (λ m. m.0) both) in
    (_, (s.0 ∙ l.0 ∙ j.0 ∙ p.0, first_back _ _ _ _ (told.1 ∙ both) s.2, p.2))

pub of-requires-2 : goal.of-requires-2
of-requires-2 g c = let p = c.take-pass.ensures.pass in let q = c.take-other.ensures.pass in let j = c.join_seat.ensures in let l = c.load.ensures in let s = c.split_seat-other.ensures in
    let both = compared_is _ _ _ _ _ p.1 q.1 j.2 in
    let told = l.2 _ _ (ap (λ m. m.0) both) in
    (_, (s.3 ∙ l.0 ∙ j.0 ∙ p.0, second_back _ _ _ _ (told.1 ∙ both) s.4, q.2))

pub returns-clause-same : goal.returns-clause-same
returns-clause-same g c = let p = c.take-pass.ensures.pass in let q = c.take-other.ensures.pass in let j = c.join_seat.ensures in let l = c.load.ensures in let s = c.split_seat-other.ensures in
    let both = compared_is _ _ _ _ _ p.1 q.1 j.2 in
    let told = l.2 _ _ (ap (λ m. m.0) both) in
    (one_front _ _ _ (first_back _ _ _ _ (told.1 ∙ both) s.2) c.of.ensures.1, one_front _ _ _ (second_back _ _ _ _ (told.1 ∙ both) s.4) c.of-2.ensures.1)
