use Rattle.std.proofs.Common.{sym, ap, ◌∙◌, option_copied}
use Rattle.std.proofs.lemmas.Result.{IfOk-weaker}
use Rattle.occ_book.proofs.TableEntries.{answer-rows}
use Rattle.occ_audit.proofs.Common.{end_of, rows_of, Rows, answer-nowhere}
use Rattle.occ_audit.proofs.replica.Replica.rows_between.Goals as goal

pub returns-in-Some : goal.returns-in-Some
returns-in-Some g c =
    let a = end_of (option_copied c.args.lower) in
    let b = end_of (option_copied c.args.upper) in
    IfOk-weaker c.copies.result _ _
    (λ copies same. ap Rows (same ∙ c.range.ensures.rows) ∙ sym (answer-rows c.args.self.now c.args.table a b c.in-Some.rows.now c.range.ensures.ordered c.in-Some.ensures))
    c.copies.ensures

pub returns-in-None : goal.returns-in-None
returns-in-None g c =
    let a = end_of (option_copied c.args.lower) in
    let b = end_of (option_copied c.args.upper) in
    ap Rows (ap rows_of c.new.ensures.items) ∙ sym (answer-nowhere c.args.self.now c.args.table a b c.in-None.ensures)
