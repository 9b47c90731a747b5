use Rattle.std.proofs.Common.{sym, ap, subst, ◌∙◌, arith, option_copied}
use Rattle.occ_book.proofs.Common.{Row, object_of, apply, writes_in, ArePlaced}
use Rattle.occ_book.proofs.Parted.{placed-at}
use Rattle.occ_book.proofs.LastNotes.{write-more, no_write, noted, noted-placed}
use Rattle.occ_book.proofs.lasts.note_writes.Goals as goal
use Rattle.occ_book.proofs.lasts.note_writes.Goals.{in-Some+in_ok-insert, in_default}

pub loop-place-preserved : goal.loop-place-preserved
loop-place-preserved g c =
    let writes = c.args.writes.now in
    let place = c.loop-place.place in
    let before = c.loop-place.last in
    elim c.match-write_at.branch [
      | in-Some+in_ok-insert w ↦ record {
        left = λ state.
            let more = noted before w.insert.new.self w.in-Some.object w.in-Some.row w.in_ok-insert.ensures.updates.0 w.in_ok-insert.ensures.was_ordered w.in_ok-insert.ensures.ordered state in
            write-more (apply state (writes_in before.entries)) _ writes place _ (sym w.in-Some.ensures.value) (ap (λ m. apply state (writes_in m.entries)) w.last-is ∙ more)
            ∙ c.loop-place.invariant.left state;
        placed = λ tables were all.
            let here = placed-at tables writes place (object_of w.in-Some.object.now) (option_copied {T = Row} w.in-Some.row) all w.in-Some.ensures.value in
            subst (λ m. ArePlaced tables (writes_in m.entries)) (sym w.last-is)
            (noted-placed before w.insert.new.self w.in-Some.object w.in-Some.row w.in_ok-insert.ensures.updates.0 tables (c.loop-place.invariant.placed tables were all) here);
      }
      | in_default w ↦ absurd (no_write writes place (omega arith) (sym w.in_default.ensures.value))
    ]
