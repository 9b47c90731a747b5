use Rattle.std.proofs.Common.{◌≤◌, length, ap, ◌∙◌, ◌++◌, arith}
use Rattle.occ_book.proofs.MarkViews.{marked-more, filled-up}
use Rattle.occ_book.proofs.marks.Marks.for_sessions.Goals as goal

pub returns-clause-ok : goal.returns-clause-ok
returns-clause-ok g c =
    let slots = c.self.inside.slots.items in
    let fewer : length slots ≤ c.args.sessions = omega (arith, c.if-sessions-len.false, c.len.ensures, c.self.inside.slots.ok.0) in
    let nothing = c.in_ok-slots.slots.items in
    let grown = c.extend_from_slice.new.self in
    let taken = c.in_ok-extend_from_slice.ensures.items ∙ ap (λ xs. nothing ++ xs) c.deref.ensures.value in
    marked-more slots c.resize.new.self.items c.args.sessions c.args.self.now c.self.view_is fewer
    (filled-up slots nothing grown.items c.resize.new.self.items c.args.sessions _ c.in_ok-slots.ensures.items taken grown.ok.0 fewer c.in_ok-resize.ensures.items)
