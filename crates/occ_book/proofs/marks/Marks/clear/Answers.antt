use Rattle.occ_book.proofs.MarkViews.{marked-cleared, only-none}
use Rattle.occ_book.proofs.marks.Marks.clear.Goals as goal

pub returns : goal.returns
returns g c =
    marked-cleared c.self.inside.slots.items c.fill.new.self.items _ c.args.self.now c.self.view_is c.self.inside.slots.ok.0 (c.fill.ensures.items (only-none _ (λ n is. is)))
