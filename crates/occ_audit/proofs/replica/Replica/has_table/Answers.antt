use Rattle.std.proofs.Common.{[], None, refl, sym, ◌∙◌}
use Rattle.occ_audit.proofs.Common.{answer-nowhere}
use Rattle.occ_audit.proofs.Ranges.{answer-all, none-decides, rows-decide}
use Rattle.occ_audit.proofs.replica.Replica.has_table.Goals as goal

pub returns-in-Some-Some : goal.returns-in-Some-Some
returns-in-Some-Some g c =
    let rows = c.in-Some-Some.rows.now in
    rows-decide _ _ c.in-Some-Some.kept rows c.are_kept.result (sym c.in-Some-Some.ensures)
    (answer-all c.args.self.now c.args.table rows c.are_kept.ensures.ordered c.in-Some-Some.ensures')
    c.are_kept.ensures.same

pub returns-in-Some-None : goal.returns-in-Some-None
returns-in-Some-None g c =
    rows-decide _ _ c.in-Some-None.kept [] _ (sym c.in-Some-None.ensures) (answer-nowhere c.args.self.now c.args.table None None c.in-Some-None.ensures')
    c.is_none_left.ensures

pub returns-in-None-Some : goal.returns-in-None-Some
returns-in-None-Some g c =
    let rows = c.in-None-Some.rows.now in
    let d = none-decides rows c.len.result _ c.len.ensures.len refl in
    rows-decide _ _ [] rows _
    (answer-nowhere c.args.tables.now.state c.args.table None None (λ k. c.count-count.ensures.no_more (c.args.table, k) c.in-None-Some.ensures))
    (answer-all c.args.self.now c.args.table rows c.len.ensures.ordered c.in-None-Some.ensures')
    (λ e. sym (d.0 e), λ e. d.1 (sym e))

pub returns-in-None-None : goal.returns-in-None-None
returns-in-None-None g c = (
  λ _. answer-nowhere c.args.tables.now.state c.args.table None None (λ k. c.count-count.ensures.no_more (c.args.table, k) c.in-None-None.ensures)
      ∙ sym (answer-nowhere c.args.self.now c.args.table None None c.in-None-None.ensures'),
  λ _. refl,
)
