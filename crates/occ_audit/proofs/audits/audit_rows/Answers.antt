use Rattle.std.proofs.Common.{false, true, ◌≡◌}
use Rattle.occ_audit.proofs.Common.{clash}
use Rattle.occ_audit.proofs.Unasked.{decides-asked}
use Rattle.occ_audit.proofs.audits.audit_rows.Goals as goal

-- what is held of open rows is not asked for
pub returns-then-not-branch-clause-ok : goal.returns-then-not-branch-clause-ok
returns-then-not-branch-clause-ok g c = λ opened.
    decides-asked opened c.args.book.now.base.now.base c.args.book.now.marks.now.marks c.args.book.now.table.now.state c.args.book.now.log.now false (
      λ (e : false ≡ true). cc,
      λ a. clash c.in_ok-is_in_order.field-0 (c.in_ok-is_in_order.ensures.1 a.in_order) c.if-not-branch.true,
    )

pub returns-clause-ok : goal.returns-clause-ok
returns-clause-ok g c = λ opened.
    decides-asked opened c.args.book.now.base.now.base c.args.book.now.marks.now.marks c.args.book.now.table.now.state c.args.book.now.log.now c.in_ok-replayed.replayed (
      λ e. let all = c.in_ok-replayed.ensures.0 e in record { in_order = c.in_ok-is_in_order.ensures.0 c.if-not-branch.false; explained = all.0; replayed = all.1 },
      λ a. c.in_ok-replayed.ensures.1 (a.explained, a.replayed),
    )
