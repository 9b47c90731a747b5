use Rattle.std.proofs.Common.{◌≡◌, sym, ap, subst, ◌∙◌}
use Rattle.std.specs.Prelude.{◌⊎◌}
use Rattle.occ_history.specs.History.{FrontView, Begins}
use Rattle.occ_store.specs.Transactions.{TransactionView, IsReader}
use Rattle.occ_store.proofs.Histories.{reader_is_here}
use Rattle.occ_store.proofs.transactions.Transaction.compare.Goals as goal

pub compare-requires : goal.compare-requires
compare-requires g c = (reader_is_here _ _ c.self.invariant.1, reader_is_here _ _ c.other.invariant.1)

pub invariant_of-self : goal.invariant_of-self
invariant_of-self g c = (c.self.invariant.0, subst (λ (f : FrontView). IsReader f.party c.self.inside.session) (sym c.compare.ensures.same.0) c.self.invariant.1)

pub invariant_of-other : goal.invariant_of-other
invariant_of-other g c = (c.other.invariant.0, subst (λ (f : FrontView). IsReader f.party c.other.inside.session) (sym c.compare.ensures.same.1) c.other.invariant.1)

pub returns-clause-order : goal.returns-clause-order
returns-clause-order g c =
    subst (λ (two : TransactionView × TransactionView). Begins two.0.front two.1.front ⊎ Begins two.1.front two.0.front) (λ i. (c.self.view_is i, c.other.view_is i)) c.compare.ensures.order
