use Rattle.std.proofs.Common.{subst}
use Rattle.occ_audit.proofs.Common.{log_of}
use Rattle.occ_audit.specs.Counting.{RowsGive}
use Rattle.occ_audit.proofs.OrderedRows.{disorder-found, marks-found}
use Rattle.occ_audit.proofs.disorders.first_disorder.Goals as goal

pub returns-in-To : goal.returns-in-To
returns-in-To g c =
    let base = c.args.book.now.base.now.base in
    let log = log_of c.args.book.now.log.now in
    disorder-found base c.args.book.now.marks.now.marks log c.in-To.disorder (subst (RowsGive base log) c.in-To.is c.in_ok-counted.ensures)

pub returns-in-Whole : goal.returns-in-Whole
returns-in-Whole g c =
    let base = c.args.book.now.base.now.base in
    let log = log_of c.args.book.now.log.now in
    let rows = subst (RowsGive base log) c.in-Whole.is c.in_ok-counted.ensures in
    marks-found base c.args.book.now.marks.now.marks c.in-Whole.last log rows.0 rows.1 c.first_open_mark-found.result c.first_open_mark-found.ensures
