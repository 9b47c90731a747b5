use Rattle.std.proofs.Common.{◌++◌, length, length-append, map, ap, ◌∙◌, arith, option_copied}
use Rattle.occ_book.proofs.Common.{end_of, seen, entries_within, length-map}
use Rattle.occ_book.specs.Table.{under_number, numbers_within, number_ends}
use Rattle.occ_book.proofs.TableRanges.{within-many, rows-seen}
use Rattle.occ_book.proofs.table.Table.copies.Goals as goal

pub push_numbers-requires : goal.push_numbers-requires
push_numbers-requires g c =
    let all = within-many (end_of (option_copied c.args.lower)) (end_of (option_copied c.args.upper)) c.self.inside.numbers c.self.inside.others.entries c.args.self.now c.self.view_is in
    omega (arith, all, c.requires, c.in_ok-rows.ensures.len, c.in_ok-rows.ensures.capacity)

pub push_others-requires : goal.push_others-requires
push_others-requires g c =
    let a = end_of (option_copied c.args.lower) in
    let b = end_of (option_copied c.args.upper) in
    let ns = numbers_within (number_ends a b) c.self.inside.numbers in
    let all = within-many a b c.self.inside.numbers c.self.inside.others.entries c.args.self.now c.self.view_is in
    let pushed = ap length c.in_ok-push_numbers.ensures.items in
    let parts = length-append c.in_ok-rows.rows.items (map (under_number {Z = g.row.A.Denot}) ns) in
    let many = length-map ns (under_number {Z = g.row.A.Denot}) in
    omega (arith, all, c.requires, pushed, parts, many, ap length c.in_ok-rows.ensures.items, c.in_ok-rows.ensures.capacity, c.in_ok-push_numbers.ensures.capacity, c.push_numbers.new.rows.ok.0)

pub returns-clause-rows : goal.returns-clause-rows
returns-clause-rows g c =
    let a = end_of (option_copied c.args.lower) in
    let b = end_of (option_copied c.args.upper) in
    let ns = numbers_within (number_ends a b) c.self.inside.numbers in
    let es = entries_within a b c.self.inside.others.entries in
    let pushed = c.in_ok-push_numbers.ensures.items ∙ ap (λ xs. xs ++ map under_number ns) c.in_ok-rows.ensures.items in
    ap (map seen) (c.in_ok-push_others.ensures.items ∙ ap (λ xs. xs ++ es) pushed)
    ∙ rows-seen a b c.self.inside.numbers c.self.inside.others.entries c.args.self.now c.self.view_is
