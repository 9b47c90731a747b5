use Rattle.std.proofs.Common.{Some, None, arith}
use Rattle.occ_book.proofs.MarkViews.{mark-found, mark-none}
use Rattle.occ_sets.proofs.LookUps.{table-at}
use Rattle.occ_book.proofs.marks.Marks.get.Goals as goal

pub returns-then-session-eq0 : goal.returns-then-session-eq0
returns-then-session-eq0 g c = mark-none c.self.inside.slots.items c.args.self.now c.self.view_is c.args.session c.if-session-eq0.true

pub returns-in-None : goal.returns-in-None
returns-in-None g c =
    mark-found c.self.inside.slots.items c.args.self.now c.self.view_is c.args.session (omega arith) None (table-at _ _ _ _ _ c.as_slice-slots.ensures.value c.get.ensures.lookup c.in-None.is)

pub returns-in-Some : goal.returns-in-Some
returns-in-Some g c =
    mark-found c.self.inside.slots.items c.args.self.now c.self.view_is c.args.session (omega arith) (Some c.in-Some.slot.now) (table-at _ _ _ _ _ c.as_slice-slots.ensures.value c.get.ensures.lookup c.in-Some.is)
