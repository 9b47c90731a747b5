use Rattle.std.proofs.Common.{◌∙◌, ap, sym, refl}
use Rattle.occ_sets.specs.LogRows.{log_of}
use Rattle.occ_print.specs.Books.{book_of}
use Rattle.occ_print.specs.Ends.{unworded}
use Rattle.occ_print.proofs.Readable.{begun_book, refused_book}
use Rattle.occ_print.proofs.ends.write_readable_book.Goals as goal

pub returns-in-Some-clause-gives : goal.returns-in-Some-clause-gives
returns-in-Some-clause-gives g c = λ opened.
    refused_book (Unit {0}) c.in-Some.fault (book_of opened c.args.limits c.args.schema.now c.args.book.now) _ _ _ _
    (sym (ap (λ tables. unworded c.args.limits.version tables (log_of opened c.args.book.now.log.now)) c.tables.ensures.value) ∙ sym (c.in-Some.ensures.exact opened)) refl refl

pub returns-in-Some-clause-cause : goal.returns-in-Some-clause-cause
returns-in-Some-clause-cause g c = λ is. absurd (c.in-Some.ensures.words is)

pub returns-in_err-write_book-clause-gives : goal.returns-in_err-write_book-clause-gives
returns-in_err-write_book-clause-gives g c = λ opened.
    begun_book c.in_err-write_book.field-0.0 c.from_residual.result (book_of opened c.args.limits c.args.schema.now c.args.book.now) _ _ _ _ c.from_residual.ensures.1
    (sym (ap (λ tables. unworded c.args.limits.version tables (log_of opened c.args.book.now.log.now)) c.tables.ensures.value) ∙ sym (c.in_default.ensures.exact opened)) (c.in_err-write_book.ensures.printed opened)

pub returns-clause-gives : goal.returns-clause-gives
returns-clause-gives g c = λ opened.
    (sym (ap (λ tables. unworded c.args.limits.version tables (log_of opened c.args.book.now.log.now)) c.tables.ensures.value) ∙ sym (c.in_default.ensures.exact opened), c.in_ok-write_book.ensures.printed opened)
