use Rattle.std.proofs.Common.{ap, ◌∙◌, Some, option_copied}
use Rattle.occ_audit.proofs.Common.{end_of, key_of}
use Rattle.occ_book.specs.Table.{number_ends}
use Rattle.occ_audit.proofs.Lending.{number_range-none}
use Rattle.occ_audit.proofs.lent_rows.number_range.Goals as goal

pub returns-in-Text : goal.returns-in-Text
returns-in-Text g c =
    let end = end_of (option_copied c.args.upper) in
    number_range-none (end_of (option_copied c.args.lower)) end
    (ap (λ lower. number_ends (end_of (option_copied lower)) end) c.in-Some.is ∙ ap (λ key. number_ends (Some (key_of key)) end) c.in-Text.is)

pub returns-in-Pair : goal.returns-in-Pair
returns-in-Pair g c =
    let end = end_of (option_copied c.args.upper) in
    number_range-none (end_of (option_copied c.args.lower)) end
    (ap (λ lower. number_ends (end_of (option_copied lower)) end) c.in-Some.is ∙ ap (λ key. number_ends (Some (key_of key)) end) c.in-Pair.is)
