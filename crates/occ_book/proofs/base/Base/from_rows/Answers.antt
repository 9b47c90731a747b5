use Rattle.std.proofs.Common.{sym, ap, subst}
use Rattle.occ_book.specs.Loaded.{HasEach, plain_rows}
use Rattle.occ_book.proofs.Common.{BaseContent}
use Rattle.occ_book.proofs.LoadedRows.{has-each}
use Rattle.occ_book.proofs.base.Base.from_rows.Goals as goal

pub returns-in-Ok-clause-each : goal.returns-in-Ok-clause-each
returns-in-Ok-clause-each g c =
    let lent = plain_rows c.deref.result.now in
    let rows = plain_rows c.args.rows.items in
    let same = ap plain_rows c.deref.ensures.value in
    let each = subst (λ (b : BaseContent). HasEach b.base.state lent) (sym c.in-Ok.ensures.ok) (has-each c.args.tables lent c.in-Ok.ensures.fault) in
    subst (λ rs. HasEach c.in-Ok.base.base.state rs) same each
