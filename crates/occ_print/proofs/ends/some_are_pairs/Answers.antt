use Rattle.std.proofs.lemmas.Iterator.{YieldsList-from_slice}
use Rattle.std.proofs.lemmas.Iterator.Search.{any_from_yields_List}
use Rattle.std.proofs.Common.{◌∙◌, sym, rules, tests}
use Rattle.occ_types.specs.PlainData.{table_of}
use Rattle.occ_print.specs.Ends.{is_pair}
use Rattle.occ_print.proofs.Readable.{pairs_viewed}
use Rattle.occ_print.proofs.ends.some_are_pairs.Goals as goal

-- each table is tested, and a plain table has the same kind of keys
pub returns : goal.returns
returns g c =
    any_from_yields_List (λ table. is_pair table.key) _ _ c.any.result c.any.ensures.ran (YieldsList-from_slice c.args.tables.now cc) (λ x b q k. search (rules, tests))
    ∙ sym (pairs_viewed (table_of {Z = g.row.A.Denot}) c.args.tables.now)
