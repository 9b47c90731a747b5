use Rattle.occ_reading.proofs.Common.{key_of, pair_of}
use Rattle.occ_reading.proofs.RowPlaces.{above_last}
use Rattle.occ_reading.proofs.single_lines.is_above.Goals as goal

pub returns-in-Some : goal.returns-in-Some
returns-in-Some g c = above_last (pair_of {Z = g.row.A.Denot}) c.args.rows.now c.in-Some.field-0.now (key_of c.args.key.now) c.lt.result c.in-Some.ensures.value c.lt.ensures
