use Rattle.std.proofs.Common.{◌≡◌, true, nat_eq, ap, sym, ◌∙◌}
use Rattle.std.specs.Cmp.Lexicographic.{pointwise}
use Rattle.occ_types.specs.Schema.{has_name}
use Rattle.occ_types.specs.PlainData.{table_of, tables_of}
use Rattle.occ_types.proofs.Walks.{position-hit, position-none}
use Rattle.occ_types.proofs.schemas.Schema.place.Goals as goal

-- the table here is the first that has the name
pub returns-then-eq : goal.returns-then-eq
returns-then-eq g c =
    let view = table_of {Z = g.row.A.Denot} in
    let passes : has_name c.args.name.now (view c.index-tables-place.result) ≡ true = sym (ap (λ s. pointwise nat_eq s c.args.name.now) c.as_str.ensures) ∙ sym c.eq.ensures ∙ c.if-eq.true in
    position-hit (has_name c.args.name.now) view c.as_slice-tables.result.now c.args.self.now c.loop-place.place c.index-tables-place.result (ap (tables_of {Z = g.row.A.Denot}) c.as_slice-tables.ensures.value ∙ c.self.view_is) c.loop-place.invariant c.loop-place-test.true c.index-tables-place.is passes

-- no table is left
pub returns : goal.returns
returns g c =
    position-none (has_name c.args.name.now) (table_of {Z = g.row.A.Denot}) c.as_slice-tables.result.now c.args.self.now c.loop-place.place (ap (tables_of {Z = g.row.A.Denot}) c.as_slice-tables.ensures.value ∙ c.self.view_is) c.loop-place.invariant c.loop-place-test.false
