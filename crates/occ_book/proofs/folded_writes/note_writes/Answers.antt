use Rattle.std.proofs.Common.{sym, ap, subst, ◌∙◌, arith, option_copied}
use Rattle.occ_book.proofs.Common.{Row, object_of, apply, ArePlaced}
use Rattle.occ_sets.specs.PlainSets.{writes_of}
use Rattle.occ_book.specs.Folded.{due_writes, AreThere}
use Rattle.occ_book.proofs.Parted.{placed-at}
use Rattle.occ_book.proofs.LastNotes.{write-more, no_write}
use Rattle.occ_book.proofs.folded_writes.note_writes.Goals as goal
use Rattle.occ_book.proofs.folded_writes.note_writes.Goals.{in-Some+in_ok-note_write, in_default}

pub returns-in_err-note_write-clause-placed : goal.returns-in_err-note_write-clause-placed
returns-in_err-note_write-clause-placed g c = λ tables are all.
    c.note_write.ensures.placed tables (c.loop-place.invariant.placed tables are all) (placed-at tables c.args.writes.now c.loop-place.place (object_of c.in-Some.object.now) (option_copied {T = Row} c.in-Some.row) all c.in-Some.ensures.value)

pub loop-place-preserved : goal.loop-place-preserved
loop-place-preserved g c =
    let writes = c.args.writes.now in
    let place = c.loop-place.place in
    let before = c.loop-place.invariant in
    elim c.match-write_at.branch [
      | in-Some+in_ok-note_write w ↦ record {
        same = ap (λ m. apply c.args.origin.now.state (writes_of m.entries)) w.map-is ∙ w.note_write.ensures.same ∙ before.same;
        placed = λ tables are all.
            let here = placed-at tables writes place (object_of w.in-Some.object.now) (option_copied {T = Row} w.in-Some.row) all w.in-Some.ensures.value in
            subst (λ m. ArePlaced tables (writes_of m.entries)) (sym w.map-is) (w.note_write.ensures.placed tables (before.placed tables are all) here);
        there = subst (λ m. AreThere m.entries c.match-write_at.due.items) (sym w.map-is) (subst (λ d. AreThere w.note_write.new.map.entries d.items) (sym w.due-is) w.in_ok-note_write.ensures.there);
        left = λ state.
            write-more (apply state (due_writes c.loop-place.map.entries c.loop-place.due.items)) _ writes place _ (sym w.in-Some.ensures.value)
            (ap (λ m. apply state (due_writes m.entries c.match-write_at.due.items)) w.map-is ∙ ap (λ d. apply state (due_writes w.note_write.new.map.entries d.items)) w.due-is ∙ w.in_ok-note_write.ensures.noted state)
            ∙ before.left state;
      }
      | in_default w ↦ absurd (no_write writes place (omega arith) (sym w.in_default.ensures.value))
    ]
