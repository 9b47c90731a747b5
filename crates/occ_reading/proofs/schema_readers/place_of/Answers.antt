use Rattle.std.proofs.Common.{sym, ◌∙◌}
use Rattle.occ_types.specs.Schema.{has_name}
use Rattle.occ_types.specs.PlainData.{table_of}
use Rattle.occ_types.proofs.Walks.{position-hit, position-none}
use Rattle.occ_reading.proofs.TableNames.{place_any}
use Rattle.occ_reading.proofs.schema_readers.place_of.Goals as goal

-- the table here is the first that has the name
pub returns-then-is_named : goal.returns-then-is_named
returns-then-is_named g c =
    position-hit (has_name c.args.token.now) (table_of {Z = g.row.A.Denot}) c.tables-tables.result.now c.args.schema.now c.loop-place.place c.index-tables-place.result c.tables-tables.ensures.value c.loop-place.invariant c.loop-place-test.true c.index-tables-place.is (sym c.is_named.ensures ∙ c.if-is_named.true)
    ∙ place_any c.args.schema.now c.args.token.now c.tables-tables.ensures.fits

-- no table is left
pub returns : goal.returns
returns g c =
    position-none (has_name c.args.token.now) (table_of {Z = g.row.A.Denot}) c.tables-tables.result.now c.args.schema.now c.loop-place.place c.tables-tables.ensures.value c.loop-place.invariant c.loop-place-test.false
    ∙ place_any c.args.schema.now c.args.token.now c.tables-tables.ensures.fits
