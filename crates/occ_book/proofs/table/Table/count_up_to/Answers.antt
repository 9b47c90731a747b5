use Rattle.std.proofs.Common.{arith, option_copied}
use Rattle.occ_book.proofs.Common.{end_of}
use Rattle.occ_book.proofs.TableRanges.{within-many}
use Rattle.occ_book.proofs.table.Table.count_up_to.Goals as goal

pub returns-then-numbers-most : goal.returns-then-numbers-most
returns-then-numbers-most g c =
    let all = within-many (end_of (option_copied c.args.lower)) (end_of (option_copied c.args.upper)) c.self.inside.numbers c.self.inside.others.entries c.args.self.now c.self.view_is in
    omega (arith, all, c.count_numbers-numbers.ensures, c.if-numbers-most.true)

pub returns-in_default : goal.returns-in_default
returns-in_default g c =
    let all = within-many (end_of (option_copied c.args.lower)) (end_of (option_copied c.args.upper)) c.self.inside.numbers c.self.inside.others.entries c.args.self.now c.self.view_is in
    omega (arith, all, c.count_numbers-numbers.ensures, c.in_default.ensures, c.if-numbers-most.false)

pub returns : goal.returns
returns g c =
    let all = within-many (end_of (option_copied c.args.lower)) (end_of (option_copied c.args.upper)) c.self.inside.numbers c.self.inside.others.entries c.args.self.now c.self.view_is in
    (omega (arith, all, c.count_numbers-numbers.ensures, c.in-Some.ensures.0), omega (arith, c.in-Some.ensures.1, c.if-numbers-most.false))
