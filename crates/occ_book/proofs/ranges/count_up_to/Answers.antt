use Rattle.std.proofs.Common.{length, ap, sym, ◌∙◌, arith, option_copied}
use Rattle.occ_book.proofs.Views.{between-is}
use Rattle.occ_book.proofs.ranges.count_up_to.Goals as goal

pub loop-init : goal.loop-init
loop-init g c =
    let start = c.into_iter-iterator.ensures.into_iter_gives ∙ c.range-items.ensures.between tt ∙ between-is (option_copied c.args.lower) (option_copied c.args.upper) _ _ c.args.map.now.entries c.lower_bound.ensures c.upper_bound.ensures in
    record { counted = omega (arith, ap length start); few = omega arith }

pub loop-preserved : goal.loop-preserved
loop-preserved g c = record {
  counted = omega (arith, ap length c.in-Some.ensures.steps, c.loop.invariant.counted);
  few = omega (arith, c.if-count-most.false);
}

pub returns-then-has_none_between : goal.returns-then-has_none_between
returns-then-has_none_between g c = (sym (ap length (c.has_none_between.ensures.none c.if-has_none_between.true)), omega arith)

pub returns-then-count-most : goal.returns-then-count-most
returns-then-count-most g c = omega (arith, ap length c.in-Some.ensures.steps, c.loop.invariant.counted, c.if-count-most.true)

pub returns : goal.returns
returns g c = (omega (arith, ap length c.in-None.ensures.steps.0, c.loop.invariant.counted), c.loop.invariant.few)
