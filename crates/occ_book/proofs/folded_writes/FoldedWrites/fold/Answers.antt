use Rattle.std.proofs.Common.{sym, ap, subst, ◌∙◌}
use Rattle.occ_book.proofs.Common.{apply, written, ArePlaced}
use Rattle.occ_sets.specs.PlainSets.{writes_of}
use Rattle.occ_book.specs.Folded.{due_writes}
use Rattle.occ_book.proofs.FoldedEntries.{placed-alike}
use Rattle.occ_book.proofs.folded_writes.FoldedWrites.fold.Goals as goal

pub returns-in_err-note_rows-clause-placed : goal.returns-in_err-note_rows-clause-placed
returns-in_err-note_rows-clause-placed g c = λ tables sessions are.
    c.note_rows.ensures.placed tables sessions (subst (ArePlaced tables) (sym c.self.view_is) are)

pub returns-clause-ok : goal.returns-clause-ok
returns-clause-ok g c =
    let state = c.args.origin.now.state in
    let rows = c.args.rows.now in
    let noted = apply state (writes_of c.note_rows.new.map.entries) in
    c.forget_deleted.ensures.same ∙ c.do_due.ensures.done state
    ∙ c.in_ok-note_rows.ensures.noted noted
    ∙ ap (λ due. written (apply noted (due_writes c.self.inside.map.entries due)) rows) c.new-due.ensures.items
    ∙ ap (λ s. written s rows) (c.note_rows.ensures.same ∙ ap (apply state) c.self.view_is)

pub returns-clause-placed : goal.returns-clause-placed
returns-clause-placed g c = λ tables sessions are all.
    c.forget_deleted.ensures.placed tables (placed-alike tables (writes_of c.note_rows.new.map.entries) (writes_of c.do_due.new.map.entries) c.do_due.ensures.objects
    (c.note_rows.ensures.placed tables sessions (subst (ArePlaced tables) (sym c.self.view_is) are) all))
