use Rattle.std.proofs.Common.{ap, ◌∙◌, arith}
use Rattle.std.specs.List.{slice_range}
use Rattle.occ_text.proofs.Line.{takes_whole, takes_long}
use Rattle.occ_text.proofs.input.Input.take_unread.Goals as goal

pub returns-then-len-gt-MAX_LINE-clause-takes : goal.returns-then-len-gt-MAX_LINE-clause-takes
returns-then-len-gt-MAX_LINE-clause-takes g c =
    let i = c.self.inside in
    takes_long _ i.line.items _ _ c.find-len.result
    (ap (λ l. slice_range l i.from i.to) c.deref.ensures.value ∙ ap (λ s. s.unread) c.self.view_is)
    (ap (λ s. s.line) c.self.view_is) c.find-len.ensures.before c.find-len.ensures.within (omega (arith, i.line.ok.0))

pub returns-then-len-unread-clause-takes : goal.returns-then-len-unread-clause-takes
returns-then-len-unread-clause-takes g c =
    let i = c.self.inside in
    takes_whole i.block.items _ i.line.items _ _ _ i.from i.to c.find-len.result
    (ap (λ l. slice_range l i.from i.to) c.deref.ensures.value ∙ ap (λ s. s.unread) c.self.view_is)
    (ap (λ s. s.unread) c.self.view_is) (ap (λ s. s.line) c.self.view_is) c.self.invariant.ordered c.self.invariant.within
    c.find-len.ensures.before c.if-len-unread.true c.find-len.ensures.found (rw c.unwrap.ensures at c.extend_from_slice.ensures.items)
    (omega (arith, i.line.ok.0))
