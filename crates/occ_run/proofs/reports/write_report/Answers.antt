use Rattle.occ_log.specs.Rows.{opened}
use Rattle.occ_model.specs.Log.{Audited}
use Rattle.occ_print.specs.Books.{book_of}
use Rattle.occ_run.specs.Reports.{told_lines, book_at}
use Rattle.occ_run.proofs.Reporting.{same_book, cut_in_told, behind_told, report_same, audited_same}
use Rattle.occ_run.proofs.reports.write_report.Goals as goal

pub returns-in_err-write_told-clause-gives : goal.returns-in_err-write_told-clause-gives
returns-in_err-write_told-clause-gives g c =
    let said = book_of opened c.args.limits c.schema.result.now c.view-book.result in
    let same = same_book c.args.limits _ _ _ _ _ _ _ _ _ _ _ _ _ _ c.schema.ensures c.view-book.ensures.base c.view-book.ensures.log c.view-book.ensures.marks c.view-book.ensures.state c.view-book.ensures.tnc c.view-book.ensures.low in
    report_same _ _ _ _ c.from_residual.result c.args.whole said (book_at c.args.limits c.args.core.now.world) c.args.refused.now same
    (cut_in_told _ c.from_residual.result _ _ _ _ (told_lines c.args.whole said c.args.refused.now) c.from_residual.ensures.1 (c.in_err-write_told.ensures.printed opened))

pub returns-clause-gives : goal.returns-clause-gives
returns-clause-gives g c =
    let said = book_of opened c.args.limits c.schema.result.now c.view-book.result in
    let book = book_at c.args.limits c.args.core.now.world in
    let same = same_book c.args.limits _ _ _ _ _ _ _ _ _ _ _ _ _ _ c.schema.ensures c.view-book.ensures.base c.view-book.ensures.log c.view-book.ensures.marks c.view-book.ensures.state c.view-book.ensures.tnc c.view-book.ensures.low in
    report_same _ _ _ _ c.write_audit.result c.args.whole said book c.args.refused.now same
    (behind_told c.write_audit.result _ _ _ _ _ _ (told_lines c.args.whole said c.args.refused.now) (Audited said.base said.marks said.state said.log)
    (audited_same said book same c.law.ensures.audited) (c.in_ok-write_told.ensures.printed opened) c.write_audit.ensures.gives)
