use Rattle.std.proofs.Common.{◌∷◌, [], ◌∙◌, ap}
use Rattle.std.proofs.lemmas.List.{map-append}
use Rattle.occ_types.specs.PlainData.{cell_of, row_of}
use Rattle.occ_bytes.proofs.Rooms.{read_more}
use Rattle.occ_bytes.proofs.Back.{pushed_back}
use Rattle.occ_bytes.proofs.reading.take_next.Goals as goal

pub returns-clause-taken : goal.returns-clause-taken
returns-clause-taken g c = read_more (row_of c.args.cells.now.items) _ (cell_of c.in_ok-cell.cell) _ _ (ap row_of c.in_ok-push.ensures.pushed ∙ map-append cell_of c.args.cells.now.items (c.in_ok-cell.cell ∷ [])) c.in_ok-cell.ensures.taken

pub returns-clause-back : goal.returns-clause-back
returns-clause-back g c = λ cell rest fits written.
    pushed_back (row_of c.args.cells.now.items) _ (cell_of c.in_ok-cell.cell) cell _ rest (ap row_of c.in_ok-push.ensures.pushed ∙ map-append cell_of c.args.cells.now.items (c.in_ok-cell.cell ∷ []))
    (c.in_ok-cell.ensures.back cell rest fits written)
