use Rattle.std.proofs.Common.{sym, ap, ◌∙◌}
use Rattle.occ_book.specs.Table.{numbers_within}
use Rattle.occ_book.proofs.PageEnds.{none-within}
use Rattle.occ_book.proofs.rows_between.numbers_backward.Goals as goal

pub returns-in-None : goal.returns-in-None
returns-in-None g c =
    let none = sym c.number_ends.ensures ∙ c.in-None.is in
    c.range_backward-in-None.ensures ∙ none-within c.args.numbers.now ∙ ap (λ ends. numbers_within ends c.args.numbers.now) (sym none)
