use Rattle.std.proofs.Common.{◌∙◌, sym}
use Rattle.occ_types.specs.PlainData.{object_of}
use Rattle.occ_sets.specs.Sets.{is_full_for}
use Rattle.occ_sets.proofs.WriteEntries.{full_for_new, few_set}
use Rattle.occ_sets.proofs.Refusals.{told_memory}
use Rattle.occ_sets.proofs.own_writes.OwnWrites.set.Goals as goal

-- a set is full for a new object alone
pub returns-then-is_full_for-clause-only_new : goal.returns-then-is_full_for-clause-only_new
returns-then-is_full_for-clause-only_new g c =
    full_for_new c.args.self.now (object_of c.args.write.0) (sym c.is_full_for.ensures ∙ c.if-is_full_for.true)

-- there was room for it
pub returns-clause-fault : goal.returns-clause-fault
returns-clause-fault g c =
    told_memory c.insert.result (is_full_for c.args.self.now (object_of c.args.write.0)) (sym c.is_full_for.ensures ∙ c.if-is_full_for.false) c.insert.ensures.memory

-- so at most as many as there may be are written
pub returns-clause-few : goal.returns-clause-few
returns-clause-few g c =
    few_set c.insert.result c.args.self.now c.insert.new.self (object_of c.args.write.0) c.args.write.1 (sym c.is_full_for.ensures ∙ c.if-is_full_for.false) c.insert.ensures.ok c.insert.ensures.err
