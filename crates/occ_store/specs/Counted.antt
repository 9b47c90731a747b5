-- What a look at the figures of a store sees (our own choice).
use Rattle.std.specs.Prelude.{◌≡◌}
use Rattle.occ_model.specs.World.{World}
use Rattle.occ_core.specs.declared.counts.Counts.{Counts}
use Rattle.occ_core.specs.declared.totals.Totals.{Totals}
use Rattle.occ_core.specs.Figures.{figures_of}
use Rattle.occ_core.specs.Totals.{AddUp}

-- these are the figures of a state, with totals that add up to the rows that entered
abbrev pub IsCountOf : Counts → World → Type 0
IsCountOf counts world = (totals : Totals) × AddUp totals world × (counts ≡ figures_of world totals)
