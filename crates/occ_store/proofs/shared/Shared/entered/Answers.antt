use Rattle.std.proofs.Common.{ap, arith}
use Rattle.occ_model.specs.World.{next_place}
use Rattle.occ_store.specs.Locked.{world_of}
use Rattle.occ_store.proofs.shared.Shared.entered.Goals as goal

pub returns-clause-counted : goal.returns-clause-counted
returns-clause-counted g c =
    let all = c.all_rows.ensures in
    let counted = c.self.invariant.shown.counted in
    let whole = c.audit.ensures.whole c.requires.all in
    let origin = c.place.ensures.same in
    omega arith

pub returns-clause-begun : goal.returns-clause-begun
returns-clause-begun g c =
    let all = c.all_rows.ensures in
    let counted = c.self.invariant.shown.counted in
    let same = c.place.ensures.same in
    let begun = c.place.ensures.begun in
    let world = ap (λ s. next_place (world_of s)) c.self.view_is in
    omega arith
