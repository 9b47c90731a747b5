use Rattle.std.proofs.Common.{◌∙◌, ap, sym}
use Rattle.occ_types.specs.Object.{Object}
use Rattle.occ_types.specs.PlainData.{key_of}
use Rattle.occ_sets.specs.Sets.{is_full_for}
use Rattle.occ_sets.proofs.Refusals.{told_memory}
use Rattle.occ_sets.proofs.writes.WriteSet.set.Goals as goal

-- there was room for it
pub returns-clause-fault : goal.returns-clause-fault
returns-clause-fault g c =
    let o : Object = (c.args.table, key_of c.args.key) in
    let room = sym (c.is_full_for.ensures ∙ ap (λ ws. is_full_for ws o) c.self.view_is) ∙ c.if-is_full_for.false in
    told_memory c.insert.result (is_full_for c.args.self.now o) room c.insert.ensures.memory
