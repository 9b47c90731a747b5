use Rattle.std.proofs.Common.{ap}
use Rattle.occ_store.specs.Locked.{world_of}
use Rattle.occ_store.proofs.BaseLeft.{left, was_active}
use Rattle.occ_store.proofs.shared.Shared.into_base.Goals as goal

pub returns-in-Ok-clause-left : goal.returns-in-Ok-clause-left
returns-in-Ok-clause-left g c =
    let law = c.law.ensures in
    let came = c.in-Ok.ensures in
    left g.N.Name.named _ c.args.self.story.log c.self.inside.filed.world (world_of c.args.self) (ap world_of c.self.view_is) law.ran law.invariant law.content law.audited law.settings came.quiet came.folded came.state

pub returns-in-Err-clause-busy : goal.returns-in-Err-clause-busy
returns-in-Err-clause-busy g c =
    was_active g.N.Name.named _ c.args.self.story.log c.self.inside.filed.world (world_of c.args.self) (ap world_of c.self.view_is) c.law.ensures.ran c.law.ensures.invariant c.law.ensures.settings c.in-Err.ensures.quiet
