use Rattle.std.proofs.Common.{subst}
use Rattle.occ_model.specs.Event.{BackedUp}
use Rattle.occ_model.specs.Replies.{replied}
use Rattle.occ_store.specs.Locked.{BacksUp}
use Rattle.occ_store.specs.Transactions.{TransactionView}
use Rattle.occ_store.proofs.transactions.Transaction.back_up.Goals as goal

pub returns-clause-backed_up : goal.returns-clause-backed_up
returns-clause-backed_up g c =
    subst (λ (t : TransactionView). BacksUp t.front c.args.shared.now t.session c.args.cause (replied BackedUp c.back_up.result) c.back_up.new.me c.back_up.new.self) c.self.view_is c.back_up.ensures
