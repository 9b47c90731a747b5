use Rattle.std.proofs.Common.{◌++◌, length, ap, sym, ◌∙◌, arith, option_copied}
use Rattle.std.proofs.lemmas.List.{append-nil}
use Rattle.occ_book.proofs.Views.{between-is}
use Rattle.occ_book.proofs.TableRanges.{pushed, all-pushed}
use Rattle.occ_book.proofs.ranges.push_others.Goals as goal

pub loop-key-init : goal.loop-key-init
loop-key-init g c =
    let start = c.into_iter-key-iterator.ensures.into_iter_gives ∙ c.range-key-items.ensures.between tt ∙ between-is (option_copied c.args.lower) (option_copied c.args.upper) _ _ c.args.map.now.entries c.lower_bound.ensures c.upper_bound.ensures in
    record {
      items = ap (λ es. c.args.rows.now.items ++ es) start;
      room = omega (arith, ap length start, c.requires);
    }

pub push_reserved-requires : goal.push_reserved-requires
push_reserved-requires g c = omega (arith, ap length c.in-Some.ensures.steps, c.loop-key.invariant.room)

pub loop-key-preserved : goal.loop-key-preserved
loop-key-preserved g c =
    record {
      items = pushed c.loop-key.rows.items c.push_reserved.new.self.items _ _ c.next.new.self _ _ c.loop-key.invariant.items c.in-Some.ensures.steps c.push_reserved.ensures.items (λ i. (c.in_ok-clone.ensures.cases i, c.in_ok-clone-2.ensures.cases i));
      room = omega (arith, ap length c.in-Some.ensures.steps, c.loop-key.invariant.room, c.push_reserved.ensures.len, c.push_reserved.ensures.capacity);
    }

pub returns-then-has_none_between-clause-items : goal.returns-then-has_none_between-clause-items
returns-then-has_none_between-clause-items g c =
    sym (append-nil c.args.rows.now.items) ∙ ap (λ es. c.args.rows.now.items ++ es) (sym (c.has_none_between.ensures.none c.if-has_none_between.true))

pub returns-clause-items : goal.returns-clause-items
returns-clause-items g c = all-pushed c.loop-key.rows.items _ _ c.loop-key.invariant.items c.in-None.ensures.steps.0
