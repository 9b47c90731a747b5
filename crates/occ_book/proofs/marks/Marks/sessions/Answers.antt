use Rattle.occ_book.proofs.MarkViews.{marked-listed}
use Rattle.occ_book.proofs.marks.Marks.sessions.Goals as goal

pub returns-clause-listed : goal.returns-clause-listed
returns-clause-listed g c = marked-listed c.self.inside.slots.items c.args.self.now c.self.view_is
