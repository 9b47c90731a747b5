use Rattle.std.proofs.Common.{ap, map, ◌∙◌, option_copied}
use Rattle.occ_audit.proofs.Common.{end_of}
use Rattle.occ_audit.specs.LentRows.{at_number}
use Rattle.occ_audit.proofs.Lending.{numbers-lent}
use Rattle.occ_audit.proofs.lent_rows.numbers_between.Goals as goal

pub returns : goal.returns
returns g c =
    ap (map at_number) c.range.ensures
    ∙ numbers-lent (end_of (option_copied c.args.lower)) (end_of (option_copied c.args.upper)) c.number_range-first.result c.args.numbers.now c.number_range-first.ensures
