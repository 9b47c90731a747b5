use Rattle.std.proofs.Common.{◌∙◌, option_copied}
use Rattle.occ_book.proofs.Common.{count_from_yields_List, YieldsList-from_rest, end_of, entries_within}
use Rattle.occ_book.proofs.Views.{between-is}
use Rattle.occ_book.proofs.ranges.count_between.Goals as goal

pub returns : goal.returns
returns g c = count_from_yields_List c.range.result c.count.result c.count.ensures.ran
    (YieldsList-from_rest (entries_within (end_of (option_copied c.args.lower)) (end_of (option_copied c.args.upper)) c.args.map.now.entries)
    (c.range.ensures.between tt ∙ between-is (option_copied c.args.lower) (option_copied c.args.upper) _ _ c.args.map.now.entries c.lower_bound.ensures c.upper_bound.ensures))
