use Rattle.std.proofs.Common.{◌≡◌, sym, subst, ◌∙◌}
use Rattle.occ_model.specs.Step.{Run}
use Rattle.occ_store.specs.Locked.{Locked, world_of}
use Rattle.occ_store.specs.Names.{opened_as}
use Rattle.occ_open.specs.Replies.{forgetting}
use Rattle.occ_store.proofs.Asking.{abandons_stand}
use Rattle.occ_store.proofs.transactions.Transaction.abandon.Goals as goal

pub returns-clause-forgets : goal.returns-clause-forgets
returns-clause-forgets g c =
    let same = c.deref.ensures ∙ sym c.deref_mut.ensures.value in
    let ran = subst (λ (s : Locked). Run (opened_as g.N.Name.named) s.story.log (world_of s)) same c.law.ensures.ran in
    abandons_stand g.N.Name.named c.args.self.now c.abandon_in.new.self.front c.deref_mut.result.now c.abandon_in.new.shared (forgetting c.abandon_in.result) ran c.abandon_in.ensures.forgets
