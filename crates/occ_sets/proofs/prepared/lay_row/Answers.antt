use Rattle.std.proofs.Common.{◌≡◌, false, nat_eq, subst, sym, ◌∙◌, arith}
use Rattle.std.specs.Ordering.{on, ordering_index}
use Rattle.occ_types.specs.Key.{key_cmp}
use Rattle.occ_types.specs.PlainData.{key_of}
use Rattle.occ_sets.proofs.Merging.{is_greater, lays_own, lays_row}
use Rattle.occ_sets.proofs.prepared.lay_row.Goals as goal

-- the own write of the row goes in its place
pub returns-in-Equal-clause-rows : goal.returns-in-Equal-clause-rows
returns-in-Equal-clause-rows g c = λ others.
    lays_own (on key_of key_cmp) c.args.key c.args.row c.loop-own.own.entries c.lay_first-in-Equal.new.own.entries c.loop-own.room.items c.lay_first-in-Equal.new.room.items
    (sym c.first_to-2.ensures ∙ c.in-Equal.is) c.lay_first-in-Equal.ensures.rows others
    ∙ c.loop-own.invariant.0 others

-- the row goes as it is
pub returns-in_default : goal.returns-in_default
returns-in_default g c =
    let above = is_greater c.first_to-2.result (subst (λ r. false ≡ nat_eq (ordering_index r) 0) (c.first_to.ensures ∙ sym c.first_to-2.ensures) c.loop-own-test.ensures) c.in_default.not-Equal in
    record {
      rows = λ others.
          lays_row (on key_of key_cmp) c.args.key c.args.row c.loop-own.own.entries c.loop-own.room.items c.push_reserved.new.self.items (sym c.first_to-2.ensures ∙ above) c.push_reserved.ensures.items others
          ∙ c.loop-own.invariant.0 others;
      capacity = c.push_reserved.ensures.capacity ∙ c.loop-own.invariant.1;
      len = omega (arith, c.push_reserved.ensures.len, c.loop-own.invariant.2);
    }
