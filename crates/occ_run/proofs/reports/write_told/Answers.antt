use Rattle.occ_print.specs.Books.{book_of}
use Rattle.occ_run.proofs.Reporting.{whole_told, sessions_told}
use Rattle.occ_run.proofs.reports.write_told.Goals as goal

pub returns-then-whole-clause-printed : goal.returns-then-whole-clause-printed
returns-then-whole-clause-printed g c = λ opened.
    whole_told c.write_book.result c.args.whole _ _ _ _ (book_of opened c.args.limits c.args.schema.now c.args.book.now) c.args.refused.now c.if-whole.true (c.write_book.ensures.printed opened)

pub returns-clause-printed : goal.returns-clause-printed
returns-clause-printed g c = λ opened.
    sessions_told c.write_sessions.result c.args.whole _ _ _ _ (book_of opened c.args.limits c.args.schema.now c.args.book.now) c.args.refused.now c.if-whole.false (c.write_sessions.ensures.printed opened)
