use Rattle.std.proofs.Common.{sym, ◌∙◌, ◌+◌, arith, option_copied}
use Rattle.occ_book.proofs.Common.{end_of}
use Rattle.occ_book.proofs.TableRanges.{within-many, within-short}
use Rattle.occ_book.proofs.table.Table.count.Goals as goal

pub returns-clause-count : goal.returns-clause-count
returns-clause-count g c =
    (λ i. c.count_numbers.ensures i + c.count_between.ensures i)
    ∙ sym (within-many (end_of (option_copied c.args.lower)) (end_of (option_copied c.args.upper)) c.self.inside.numbers c.self.inside.others.entries c.args.self.now c.self.view_is)

pub overflow_add-result : goal.overflow_add-result
overflow_add-result g c =
    let a = end_of (option_copied c.args.lower) in
    let b = end_of (option_copied c.args.upper) in
    let all = within-many a b c.self.inside.numbers c.self.inside.others.entries c.args.self.now c.self.view_is in
    let short = within-short a b c.args.self.now in
    omega (arith, all, short, c.count_numbers.ensures, c.count_between.ensures, c.len-rows.ensures.len, c.len-rows.type_inv)
