use Rattle.std.proofs.Common.{arith, sym, ap, ◌∙◌}
use Rattle.occ_history.specs.Rule.{one_more, next_front}
use Rattle.occ_history.proofs.Asked.{asks_next, kept_after, one_front}
use Rattle.occ_history.proofs.stories.Story.next_session.Goals as goal

pub split_seat-pass-requires : goal.split_seat-pass-requires
split_seat-pass-requires g c = let i = c.self.invariant in let words = i.2 in (i.0 ∙ sym i.1, omega arith, asks_next _ _ _ i.3)

pub of-requires : goal.of-requires
of-requires g c = let i = c.self.invariant in let s = c.split_seat-pass.ensures in (_, (s.3 ∙ i.0, s.4, tt))

pub invariant_of-self : goal.invariant_of-self
invariant_of-self g c = let i = c.self.invariant in let s = c.split_seat-pass.ensures in (s.0 ∙ i.0, i.1, i.2, (kept_after _ _ _ _ i.3 s.2).0)

pub returns-clause-more : goal.returns-clause-more
returns-clause-more g c = let i = c.self.invariant in let s = c.split_seat-pass.ensures in (kept_after _ _ _ _ i.3 s.2).1 ∙ ap one_more c.self.view_is

pub returns-clause-front : goal.returns-clause-front
returns-clause-front g c = let s = c.split_seat-pass.ensures in one_front _ _ _ s.4 c.of.ensures.1 ∙ ap next_front c.self.view_is
