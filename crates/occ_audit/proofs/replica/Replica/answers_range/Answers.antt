use Rattle.std.proofs.Common.{[], refl, sym, ap, ◌∙◌, option_copied}
use Rattle.occ_book.proofs.TableEntries.{answer-rows}
use Rattle.occ_audit.proofs.Common.{end_of, rows_of, seen, length-map, Rows, answer-nowhere}
use Rattle.occ_audit.proofs.Ranges.{none-decides, rows-decide}
use Rattle.occ_audit.proofs.replica.Replica.answers_range.Goals as goal

pub returns-in-Some : goal.returns-in-Some
returns-in-Some g c =
    let a = end_of (option_copied c.args.lower) in
    let b = end_of (option_copied c.args.upper) in
    rows-decide _ _ (rows_of c.args.given.now) c.range.result c.are_given.result refl
    (answer-rows c.args.self.now c.args.table a b c.in-Some.rows.now c.range.ensures.ordered c.in-Some.ensures
    ∙ ap Rows (sym c.range.ensures.rows))
    c.are_given.ensures

pub returns-in-None : goal.returns-in-None
returns-in-None g c =
    let a = end_of (option_copied c.args.lower) in
    let b = end_of (option_copied c.args.upper) in
    rows-decide _ _ (rows_of c.args.given.now) [] c.is_empty.result refl
    (answer-nowhere c.args.self.now c.args.table a b c.in-None.ensures)
    (none-decides (rows_of c.args.given.now) _ c.is_empty.result (sym (length-map c.args.given.now seen)) c.is_empty.ensures)
