use Rattle.std.proofs.Common.{◌≡◌, sym, subst, ◌∙◌}
use Rattle.occ_model.specs.Event.{Checkpoint, Folded}
use Rattle.occ_model.specs.Replies.{replied}
use Rattle.occ_model.specs.Step.{Run}
use Rattle.occ_history.specs.History.{Party}
use Rattle.occ_store.specs.Locked.{Locked, world_of}
use Rattle.occ_store.specs.Names.{opened_as}
use Rattle.occ_store.specs.Standing.{StandsIn}
use Rattle.occ_store.specs.Transactions.{TransactionView, IsReader}
use Rattle.occ_store.proofs.Histories.{tells_party, tells_stands, reader_is_here}
use Rattle.occ_store.proofs.transactions.Transaction.checkpoint.Goals as goal

pub checkpoint-requires : goal.checkpoint-requires
checkpoint-requires g c = record { here = reader_is_here c.self.inside.front.party c.self.inside.session c.self.invariant.1 }

pub invariant_of-self : goal.invariant_of-self
invariant_of-self g c =
    let told = (c.checkpoint.ensures 0).2 in (
      c.self.invariant.0,
      subst (λ (p : Party). IsReader p c.self.inside.session)
          (sym (tells_party c.self.inside.front c.checkpoint.new.me c.deref_mut.result.now c.checkpoint.new.self Checkpoint (replied Folded c.checkpoint.result) told)) c.self.invariant.1,
    )

pub returns-clause-stands : goal.returns-clause-stands
returns-clause-stands g c =
    let same = c.deref.ensures ∙ sym c.deref_mut.ensures.value in
    let ran = subst (λ (s : Locked). Run (opened_as g.N.Name.named) s.story.log (world_of s)) same c.law.ensures.ran in
    subst (λ (t : TransactionView). StandsIn g.N.Name.named t.front Checkpoint (replied Folded c.checkpoint.result) c.checkpoint.new.me) c.self.view_is
    (tells_stands g.N.Name.named c.self.inside.front c.checkpoint.new.me c.deref_mut.result.now c.checkpoint.new.self Checkpoint (replied Folded c.checkpoint.result) ran (c.checkpoint.ensures 0).2)
