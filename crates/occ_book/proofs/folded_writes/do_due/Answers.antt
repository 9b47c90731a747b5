use Rattle.std.proofs.Common.{[], ◌∷◌, sym, ap, ◌∙◌}
use Rattle.occ_book.proofs.Common.{apply}
use Rattle.occ_sets.specs.PlainSets.{writes_of}
use Rattle.occ_book.specs.Folded.{due_at, objects_of}
use Rattle.occ_book.proofs.FoldedEntries.{apply-append, due-push}
use Rattle.occ_book.proofs.folded_writes.do_due.Goals as goal

pub loop-place-preserved : goal.loop-place-preserved
loop-place-preserved g c =
    let old = c.args.map.now.entries in
    let done = c.loop-place.yielded in
    record {
      objects = c.set_row.ensures.objects ∙ c.loop-place.invariant.objects;
      done = λ state.
          let start = apply state (writes_of old) in
          c.set_row.ensures.done state
          ∙ ap (λ os. apply (apply state (writes_of c.loop-place.map.entries)) (due_at os ((c.in-Some.place, c.in-Some.row) ∷ []))) c.loop-place.invariant.objects
          ∙ ap (λ s. apply s (due_at (objects_of old) ((c.in-Some.place, c.in-Some.row) ∷ []))) (c.loop-place.invariant.done state)
          ∙ sym (apply-append start (due_at (objects_of old) done) (due_at (objects_of old) ((c.in-Some.place, c.in-Some.row) ∷ [])))
          ∙ ap (apply start) (sym (due-push (objects_of old) done (c.in-Some.place, c.in-Some.row)));
    }
