use Rattle.std.proofs.Common.{List, subst}
use Rattle.occ_reading.proofs.Common.{Audited, BaseContent, Content, Decides, Marked, log_of, without_case}
use Rattle.occ_sets.specs.declared.log_rows.LogRow.{LogRow}
use Rattle.occ_reading.proofs.audits.judge.Goals as goal

pub returns-in-Ok-clause-ok : goal.returns-in-Ok-clause-ok
returns-in-Ok-clause-ok g c =
    let book = c.args.printed.now.book in
    let lent = c.view.result in
    let verdict = c.in-Ok.verdict in
    subst (λ (base : BaseContent). Decides verdict (Audited base.base book.marks.marks book.table.state (log_of book.log.items))) c.view.ensures.base
    (subst (λ (marks : Marked). Decides verdict (Audited lent.base.now.base marks.marks book.table.state (log_of book.log.items))) c.view.ensures.marks
    (subst (λ (table : Content). Decides verdict (Audited lent.base.now.base lent.marks.now.marks table.state (log_of book.log.items))) c.view.ensures.table
    (subst (λ (log : List (LogRow g.row.A.Denot (Unit {0}))). Decides verdict (Audited lent.base.now.base lent.marks.now.marks lent.table.now.state (log_of log))) c.view.ensures.log (c.in-Ok.ensures.ok without_case))))
