use Rattle.std.proofs.Common.{[], ◌∷◌, ◌++◌, ap, ◌∙◌}
use Rattle.occ_book.proofs.Common.{object_of, put, apply}
use Rattle.occ_book.specs.Folded.{due_writes, objects_of}
use Rattle.occ_book.proofs.FoldedEntries.{due-done}
use Rattle.occ_book.proofs.folded_writes.note_write.Goals as goal

pub returns-clause-noted : goal.returns-clause-noted
returns-clause-noted g c = λ state.
    let news = c.place_of.new.map.entries in
    let was = c.args.due.now.items in
    let object = object_of c.args.object.now in
    let kept = c.in_ok-place.ensures.kept was c.requires in
    ap (λ due. apply state (due_writes news due)) (c.push_reserved.ensures.items ∙ ap (λ due. due ++ (c.in_ok-place.place, c.in_ok-copy.copy) ∷ []) c.in_ok-reserve.ensures.items)
    ∙ due-done state (objects_of news) was c.in_ok-place.place c.in_ok-copy.copy object c.in_ok-place.ensures.place
    ∙ ap (λ writes. put (apply state writes) (object, c.in_ok-copy.copy)) kept.1
    ∙ ap (λ row. put (apply state (due_writes c.args.map.now.entries was)) (object, row)) c.in_ok-copy.ensures.copied
