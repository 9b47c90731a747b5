use Rattle.std.proofs.Common.{ap, arith}
use Rattle.std.proofs.lemmas.List.{drop_all}
use Rattle.occ_types.specs.PlainData.{tables_of}
use Rattle.occ_sharing.proofs.Copies.{never}
use Rattle.occ_sharing.proofs.schema_copies.copy_of.Goals as goal

pub unreachable-requires : goal.unreachable-requires
unreachable-requires g c = never _ _ _ _ _ c.tables-tables.ensures.value c.loop-table.invariant (ap tables_of (drop_all c.loop-table.table-index c.tables-tables.result.now (omega (arith, c.loop-table-test.false)))) c.tables-tables.ensures.fits c.in-Err.ensures.0
