use Rattle.occ_book.proofs.MarkViews.{marked-set}
use Rattle.occ_book.proofs.marks.Marks.set.Goals as goal

pub returns : goal.returns
returns g c =
    marked-set c.self.inside.slots.items c.args.session c.args.number c.args.self.now c.self.view_is c.requires.first c.requires.last
