use Rattle.std.proofs.Common.{ap, map, ◌∙◌}
use Rattle.std.specs.Map.Iter.{deref_pair}
use Rattle.occ_audit.proofs.Common.{lower_bound, upper_bound}
use Rattle.occ_audit.proofs.Lending.{forward, others-lent}
use Rattle.occ_audit.proofs.lent_rows.others_between.Goals as goal

pub range-requires : goal.range-requires
range-requires g c =
    forward c.args.lower c.args.upper _ _
    (c.lower_bound.ensures ∙ ap lower_bound c.as_ref.ensures.value)
    (c.upper_bound.ensures ∙ ap upper_bound c.as_ref-2.ensures.value)
    c.requires

pub returns : goal.returns
returns g c =
    ap (map deref_pair) (c.range.ensures.between tt)
    ∙ others-lent c.args.lower c.args.upper _ _ c.args.others.now.entries
    (c.lower_bound.ensures ∙ ap lower_bound c.as_ref.ensures.value)
    (c.upper_bound.ensures ∙ ap upper_bound c.as_ref-2.ensures.value)
