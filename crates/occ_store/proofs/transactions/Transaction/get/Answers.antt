use Rattle.std.proofs.Common.{◌≡◌, sym, subst, ◌∙◌}
use Rattle.occ_types.specs.PlainData.{key_of}
use Rattle.occ_types.specs.Question.{One}
use Rattle.occ_open.specs.Replies.{reading}
use Rattle.occ_model.specs.Step.{Run}
use Rattle.occ_store.specs.Locked.{Locked, world_of}
use Rattle.occ_store.specs.Names.{opened_as}
use Rattle.occ_store.proofs.Asking.{asks_stands}
use Rattle.occ_store.proofs.transactions.Transaction.get.Goals as goal

-- the state that the lock lent
pub returns-clause-asks : goal.returns-clause-asks
returns-clause-asks g c =
    let same = c.deref.ensures ∙ sym c.deref_mut.ensures.value in
    asks_stands g.N.Name.named c.args.self.now c.get_in.new.self c.deref_mut.result.now c.get_in.new.shared (One c.args.table (key_of c.args.key.now)) (reading c.get_in.result)
    (subst (λ (s : Locked). Run (opened_as g.N.Name.named) s.story.log (world_of s)) same c.law.ensures.ran) (subst (λ (s : Locked). (world_of s).settings ≡ g.N.Name.named.settings) same c.law.ensures.settings) c.get_in.ensures.asks
