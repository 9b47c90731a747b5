use Rattle.std.proofs.Common.{◌<◌, ◌+◌, ◌-◌, ◌/◌, length, arith}
use Rattle.occ_pages.proofs.Halves.{all-below, none-below}
use Rattle.occ_pages.proofs.search.rank.Goals.{then-keys-base, else-keys-base}
use Rattle.occ_pages.proofs.search.rank.Goals as goal

pub loop-size-preserved : goal.loop-size-preserved
loop-size-preserved c =
    let keys = c.args.keys.now in
    let middle = c.loop-size.base + c.loop-size.size / 2 - 1 in
    let there : middle < length keys = omega arith in
    elim c.if-keys-base.branch [
      | then-keys-base w ↦ record {
        within = omega (arith, w.base-is);
        below = λ i h. all-below keys c.args.key middle c.requires there w.if-keys-base.true i (omega (arith, w.base-is));
        from = λ i h less. c.loop-size.invariant.from i (omega (arith, w.base-is)) less;
      }
      | else-keys-base w ↦ record {
        within = omega (arith, w.base-is);
        below = λ i h. c.loop-size.invariant.below i (omega (arith, w.base-is));
        from = λ i h less. none-below keys c.args.key middle c.requires w.if-keys-base.false i (omega (arith, w.base-is)) less;
      }
    ]
