use Rattle.std.proofs.Common.{◌≡◌, sym, subst, ◌∙◌}
use Rattle.occ_model.specs.Step.{Run}
use Rattle.occ_store.specs.Locked.{Locked, world_of}
use Rattle.occ_store.specs.Names.{opened_as}
use Rattle.occ_model.specs.Event.{Forget}
use Rattle.occ_open.specs.Replies.{forgetting}
use Rattle.occ_store.proofs.Histories.{tells_stands}
use Rattle.occ_store.proofs.transactions.Transaction.forget.Goals as goal

pub returns-clause-forgets : goal.returns-clause-forgets
returns-clause-forgets g c =
    let same = c.deref.ensures ∙ sym c.deref_mut.ensures.value in
    let ran = subst (λ (s : Locked). Run (opened_as g.N.Name.named) s.story.log (world_of s)) same c.law.ensures.ran in (
      forgetting c.forget_in-forgotten.result,
      tells_stands g.N.Name.named c.args.self.now.front c.forget_in-forgotten.new.self.front c.deref_mut.result.now c.forget_in-forgotten.new.shared (Forget c.args.self.now.session c.args.number) (forgetting c.forget_in-forgotten.result) ran c.forget_in-forgotten.ensures.forgets.1,
    )
