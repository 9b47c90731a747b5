use Rattle.std.proofs.Common.{ℕ, ◌+◌, ◌-◌, ◌∙◌, ap, ◌∷◌, arith, []}
use Rattle.occ_reading.proofs.Common.{EntryFits, Marked, NumberOf, Place, books, entries, failed, frame_of, gathered_all, gathered_fails, gathered_more, gathered_none, next_fails, next_taken, number_line, numbers_to_come, read_fault, single_lines, spelled}
use Rattle.occ_reading.proofs.Rising.{no_entries, none_yet}
use Rattle.occ_reading.proofs.Sections.{mark_added, mark_last}
use Rattle.occ_reading.proofs.whole_books.take_numbers.Goals as goal

pub loop-init : goal.loop-init
loop-init g c =
    let made = rw c.in_ok-marks.ensures.given at c.new.ensures.empty in
    let empty = ap (λ (m : Marked). m.marks) made in
    record {
      so_far = none_yet c.in_ok-marks.marks.marks empty;
      all = ap (λ (m : Marked). m.sessions) made;
      taken = λ version schema rows. gathered_none books (λ mark. number_line c.args.section mark ∷ []) (EntryFits c.args.sessions) (λ _ left. numbers_to_come c.args.section (frame_of version schema c.args.sessions) rows left 0) (entries c.in_ok-marks.marks.marks) c.args.count
          (no_entries c.in_ok-marks.marks.marks empty);
    }

pub loop-preserved : goal.loop-preserved
loop-preserved g c =
    let mark = c.in_ok-mark.mark in
    let next = c.in_ok-mark.ensures.taken in
    let added = mark_added c.loop.last c.loop.counter c.loop.marks c.set.new.self mark c.loop.invariant.so_far next.1.1 c.set.ensures in
    record {
      so_far = mark_last c.loop.last (c.loop.counter + 1) mark c.set.new.self.marks next.1.1 added.so_far;
      all = ap (λ (m : Marked). m.sessions) c.set.ensures ∙ c.loop.invariant.all;
      taken = λ version schema rows.
          let frame = frame_of version schema c.args.sessions in
          let one = next_taken books (NumberOf c.args.section frame rows (c.args.count - (c.loop.counter + 1)) c.loop.last) mark next in
          gathered_more books (λ left. numbers_to_come c.args.section frame rows left c.loop.last) (entries c.loop.marks.marks) (entries c.set.new.self.marks) (mark.session, mark.number) c.args.count c.loop.counter c.loop-test.true added.more
          (c.loop.invariant.taken version schema rows) (one.0, (one.1.0.session, one.1.0.number));
    }

pub returns-clause-taken : goal.returns-clause-taken
returns-clause-taken g c = λ version schema rows.
    let at : ℕ → Place = λ left. numbers_to_come c.args.section (frame_of version schema c.args.sessions) rows left c.loop.last in
    let all = gathered_all books at c.args.count c.loop.counter (omega arith) c.loop.invariant.so_far.number (c.loop.invariant.taken version schema rows) in
    (spelled (single_lines (number_line c.args.section) (entries c.loop.marks.marks)) all.0, all.1)

pub returns-in_err-mark-clause-taken : goal.returns-in_err-mark-clause-taken
returns-in_err-mark-clause-taken g c = λ version schema rows.
    let frame = frame_of version schema c.args.sessions in
    let fault = read_fault c.in_err-mark.field-0.0 in
    failed books fault c.from_residual-in_err-mark.result _ _ _ _ _ _ c.from_residual-in_err-mark.ensures.1
    (gathered_fails books fault _ (λ left. numbers_to_come c.args.section frame rows left c.loop.last) c.args.count c.loop.counter c.loop-test.true (c.loop.invariant.taken version schema rows)
    (next_fails books (NumberOf c.args.section frame rows (c.args.count - (c.loop.counter + 1)) c.loop.last) fault _ _ _ (λ may. may) c.in_err-mark.ensures.taken))
