use Rattle.std.proofs.Common.{◌≡◌, ◌∷◌, ◌++◌, List, Some, length, option_map}
use Rattle.occ_types.specs.Row.{Cell}
use Rattle.occ_types.specs.PlainData.{cell_of, row_of}
use Rattle.occ_text.specs.Escapes.{read_cells}
use Rattle.occ_text.specs.SeparatedParts.{parts_left}
use Rattle.occ_text.proofs.texts.longer_row.Given as goal

-- the cells that were read and those of the parts to come are the whole
abbrev pub invariant-loop-part : goal.invariant-loop-part
invariant-loop-part g l =
    option_map (λ (more : List Cell). row_of l.cells.items ++ more) (read_cells l.parts) ≡ option_map (λ (more : List Cell). cell_of l.fn.first ∷ more) (read_cells (parts_left 44 (Some l.rest)))

abbrev pub decreases-loop-part : goal.decreases-loop-part
decreases-loop-part g l = length l.parts
