use Rattle.occ_types.proofs.Beginnings.{prefix_fits}
use Rattle.occ_types.proofs.laws.a_prefix_fits_its_table.Goals as goal

pub returns : goal.returns
returns c = prefix_fits
