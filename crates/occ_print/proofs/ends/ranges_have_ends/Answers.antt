use Rattle.std.proofs.lemmas.Iterator.{YieldsList-from_slice}
use Rattle.std.proofs.lemmas.Iterator.Search.{all_from_yields_List}
use Rattle.std.proofs.lemmas.List.Folds.{list_all-map}
use Rattle.std.proofs.Common.{◌∙◌, sym, rules, tests}
use Rattle.occ_sets.specs.LogRows.{log_row_of}
use Rattle.occ_print.specs.Ends.{reads_have_ends}
use Rattle.occ_print.proofs.ends.ranges_have_ends.Goals as goal

-- each row is tested, and a plain row has the same reads
pub returns : goal.returns
returns g c = λ opened.
    all_from_yields_List (λ row. reads_have_ends row.reads) _ _ c.all.result c.all.ensures.ran (YieldsList-from_slice c.args.log.now cc) (λ x b q k. search (rules, tests))
    ∙ sym (list_all-map (λ row. reads_have_ends row.reads) (log_row_of {Z = g.row.A.Denot} opened) c.args.log.now)
