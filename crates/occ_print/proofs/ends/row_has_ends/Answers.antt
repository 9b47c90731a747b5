use Rattle.std.proofs.lemmas.Iterator.Consumers.{YieldsList-from_first}
use Rattle.std.proofs.lemmas.Iterator.Search.{all_from_yields_List}
use Rattle.std.proofs.Common.{drop, rules, tests}
use Rattle.occ_sets.specs.Entries.{observation_lent}
use Rattle.occ_print.specs.Ends.{has_both_ends}
use Rattle.occ_print.proofs.ends.row_has_ends.Goals as goal

-- each read is tested
pub returns : goal.returns
returns g c =
    all_from_yields_List (λ seen. has_both_ends seen.0) c.all.new.self _ c.all.result c.all.ensures.ran
    (YieldsList-from_first observation_lent (λ iter. drop iter.place iter.set.now) c.args.row.now.reads c.iter.ensures) (λ x b q k. search (rules, tests))
