use Rattle.std.proofs.Common.{◌++◌, refl, length, map, ap, ◌∙◌, arith}
use Rattle.occ_types.specs.declared.keys.Key.TheVariants as keys
use Rattle.occ_book.specs.Table.{under_number}
use Rattle.occ_book.proofs.TableRanges.{pushed, all-pushed}
use Rattle.occ_book.proofs.ranges.push_between.Goals as goal

pub loop-number-init : goal.loop-number-init
loop-number-init g c =
    let start = c.into_iter-number-iterator.ensures.into_iter_gives ∙ c.range-number-items.ensures in
    record {
      items = ap (λ ns. c.args.rows.now.items ++ map under_number ns) start;
      room = omega (arith, ap length start, c.requires);
      capacity = refl;
    }

pub push_reserved-requires : goal.push_reserved-requires
push_reserved-requires g c = omega (arith, ap length c.in-Some.ensures.steps, c.loop-number.invariant.room)

pub loop-number-preserved : goal.loop-number-preserved
loop-number-preserved g c =
    record {
      items = pushed c.loop-number.rows.items c.push_reserved.new.self.items _ _ (map under_number c.next.new.self) _ _ c.loop-number.invariant.items (ap (map under_number) c.in-Some.ensures.steps) c.push_reserved.ensures.items (ap (λ row. (keys.Num c.in-Some.number, row)) c.in_ok-clone.ensures.cases);
      room = omega (arith, ap length c.in-Some.ensures.steps, c.loop-number.invariant.room, c.push_reserved.ensures.len, c.push_reserved.ensures.capacity);
      capacity = c.push_reserved.ensures.capacity ∙ c.loop-number.invariant.capacity;
    }

pub returns-clause-items : goal.returns-clause-items
returns-clause-items g c = all-pushed c.loop-number.rows.items _ _ c.loop-number.invariant.items (ap (map under_number) c.in-None.ensures.steps.0)

pub returns-clause-capacity : goal.returns-clause-capacity
returns-clause-capacity g c = c.loop-number.invariant.capacity
