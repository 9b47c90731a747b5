use Rattle.std.proofs.Common.{◌∙◌, filter, option_copied}
use Rattle.occ_types.specs.PlainData.{key_of}
use Rattle.occ_book.proofs.Views.{between-is}
use Rattle.occ_book.proofs.rows_between.others_between.Goals as goal

pub returns : goal.returns
returns g c =
    c.range.ensures.between tt
    ∙ between-is (option_copied c.forward_lower-lower.result) (option_copied c.args.upper) _ _ c.args.others.now.entries c.lower_bound.ensures c.upper_bound.ensures
    ∙ (λ i. filter (λ e. c.forward_lower-lower.ensures.same (key_of e.0) i) c.args.others.now.entries)
