use Rattle.std.proofs.Common.{count_by, is_some, ap, ◌∙◌}
use Rattle.occ_book.proofs.MarkViews.{marked-counted}
use Rattle.occ_book.proofs.marks.Marks.len.Goals as goal

pub returns : goal.returns
returns g c =
    c.count_marks.ensures ∙ ap (count_by is_some) c.as_slice.ensures.value ∙ marked-counted c.self.inside.slots.items c.args.self.now c.self.view_is
