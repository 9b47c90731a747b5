use Rattle.std.proofs.Common.{◌≡◌, sym, subst, ◌∙◌}
use Rattle.occ_model.specs.Step.{Run}
use Rattle.occ_queue.specs.Items.{item_of}
use Rattle.occ_store.specs.Lanes.{Kept}
use Rattle.occ_store.specs.Locked.{Locked, world_of}
use Rattle.occ_store.specs.Names.{opened_as}
use Rattle.occ_store.specs.Workers.{holding}
use Rattle.occ_store.proofs.Ending.{happens_to}
use Rattle.occ_store.proofs.workers.Worker.hand_in.Goals as goal

-- the state that the lock lent, and what the event made of it
pub returns : goal.returns
returns g c =
    let same = c.deref.ensures ∙ sym c.deref_mut.ensures.value in
    happens_to g.N.Name.named c.deref_mut.result.now c.begin_with.new.shared (subst (λ (s : Locked). Run (opened_as g.N.Name.named) s.story.log (world_of s)) same c.law.ensures.ran)
    (holding c.args.self.now (item_of c.args.item)) c.begin_with.new.self (Kept (item_of c.args.item)) c.begin_with.result c.begin_with.ensures
