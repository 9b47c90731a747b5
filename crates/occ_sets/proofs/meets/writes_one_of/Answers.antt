use Rattle.std.proofs.Common.{◌∙◌, ap, sym}
use Rattle.occ_model.specs.State.{meets_writes}
use Rattle.occ_sets.specs.PlainSets.{write_of, writes_of}
use Rattle.occ_sets.specs.ShortList.{values}
use Rattle.occ_sets.specs.declared.short_list.ShortList.TheVariants.{Few}
use Rattle.occ_sets.proofs.Meetings.{meets_one}
use Rattle.occ_sets.proofs.meets.writes_one_of.Goals as goal

-- one object is looked up
pub returns-in-None : goal.returns-in-None
returns-in-None g c =
    c.writes.ensures
    ∙ meets_one c.args.writes.now (write_of c.in-Few.first)
    ∙ ap (λ o. meets_writes c.args.writes.now (writes_of (values o))) (sym (c.in-Few.is ∙ ap (Few c.in-Few.first) c.in-None.is))
