use Rattle.std.proofs.Common.{is_some, refl, sym, ap, ◌∙◌}
use Rattle.occ_sets.specs.PlainSets.{writes_of}
use Rattle.occ_sets.proofs.WriteEntries.{own_absent, set-writes_of}
use Rattle.occ_sets.proofs.many_writes.insert_in_map.Goals as goal

-- an insert is one more write
pub returns-in-Ok-clause-ok : goal.returns-in-Ok-clause-ok
returns-in-Ok-clause-ok g c =
    ap writes_of c.in-Ok.ensures.entries
    ∙ set-writes_of c.args.write.0 c.args.write.1 c.args.map.now.entries

-- only a new object needs memory
pub returns-clause-only_new : goal.returns-clause-only_new
returns-clause-only_new g c =
    let es = c.args.map.now.entries in
    own_absent c.args.write.0 es (writes_of es) refl (sym (ap is_some c.in-Err.ensures.absent))
