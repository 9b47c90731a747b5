use Rattle.std.proofs.Common.{sym, ap, subst, ◌∙◌}
use Rattle.occ_history.specs.History.{FrontView, Begins}
use Rattle.occ_store.specs.Transactions.{TransactionView, IsReader}
use Rattle.occ_store.proofs.Histories.{reader_is_here}
use Rattle.occ_store.proofs.transactions.Transaction.catch_up.Goals as goal

pub show_to-requires : goal.show_to-requires
show_to-requires g c = reader_is_here _ _ c.self.invariant.1

pub invariant_of-self : goal.invariant_of-self
invariant_of-self g c = (c.self.invariant.0, subst (λ (f : FrontView). IsReader f.party c.self.inside.session) (sym c.show_to.ensures.seen) c.self.invariant.1)
