use Rattle.std.proofs.Common.{◌∙◌, ap}
use Rattle.occ_sets.specs.PlainSets.{writes_of}
use Rattle.occ_sets.proofs.WriteEntries.{set-writes_of}
use Rattle.occ_sets.proofs.Refusals.{when_ok}
use Rattle.occ_sets.proofs.inserting.put.Goals as goal

-- there is room, so the write is done
pub returns-clause-done : goal.returns-clause-done
returns-clause-done g c =
    ap writes_of (when_ok c.insert-done.result (c.insert-done.ensures.succeeds c.requires) c.insert-done.ensures.entries)
    ∙ set-writes_of c.args.object c.args.row c.args.map.now.entries
