use Rattle.occ_audit.proofs.Unasked.{decides-asked}
use Rattle.occ_audit.proofs.Common.{log_of}
use Rattle.std.proofs.Common.{is_none}
use Rattle.occ_audit.proofs.Found.{finding-decides}
use Rattle.occ_audit.proofs.explaining.explain_book.Goals as goal

-- what is held of open rows is not asked for
pub returns-clause-agrees : goal.returns-clause-agrees
returns-clause-agrees g c = λ opened.
    let base = c.args.book.now.base.now.base in
    let marks = c.args.book.now.marks.now.marks in
    let table = c.args.book.now.table.now.state in
    decides-asked opened base marks table c.args.book.now.log.now (is_none c.in_ok-found.found)
    (finding-decides base marks table (log_of c.args.book.now.log.now) c.in_ok-found.found c.in_ok-found.ensures)
