use Rattle.std.proofs.Common.{sym, ap, ◌∙◌, option_copied}
use Rattle.occ_book.proofs.Common.{end_of}
use Rattle.occ_book.specs.Table.{rows_within}
use Rattle.occ_book.proofs.TableRanges.{within-rows}
use Rattle.occ_book.proofs.table.Table.backward.Goals as goal

pub returns : goal.returns
returns g c =
    let a = end_of (option_copied c.args.lower) in
    let b = end_of (option_copied c.args.upper) in
    c.new.ensures ∙ sym (within-rows a b c.self.inside.numbers c.self.inside.others.entries) ∙ ap (rows_within a b) c.self.view_is
