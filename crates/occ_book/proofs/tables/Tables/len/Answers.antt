use Rattle.std.proofs.Common.{◌+◌, ◌-◌, ◌^◌, min, ap, ◌∙◌}
use Rattle.occ_book.proofs.Common.{content_of}
use Rattle.occ_book.proofs.Sizes.{summed-none, summed-more, summed-all}
use Rattle.occ_book.proofs.tables.Tables.len.Goals as goal

pub loop-table-init : goal.loop-table-init
loop-table-init g c = summed-none (2 ^ 64 - 1) c.deref-table-items.result.now

pub loop-table-preserved : goal.loop-table-preserved
loop-table-preserved g c =
    summed-more (2 ^ 64 - 1) c.loop-table.table-index c.loop-table.rows c.deref-table-items.result.now c.table-item.result c.loop-table.invariant c.loop-table-test.true c.table-item.is c.len.ensures.ordered c.saturating_add-rows.result
    (c.saturating_add-rows.ensures ∙ ap (λ n. min (c.loop-table.rows + n) (2 ^ 64 - 1)) c.len.ensures.len)

pub returns : goal.returns
returns g c =
    summed-all (2 ^ 64 - 1) c.loop-table.table-index c.loop-table.rows c.deref-table-items.result.now c.args.self.now (ap content_of c.deref-table-items.ensures.value ∙ c.self.view_is) c.loop-table.invariant c.loop-table-test.false
