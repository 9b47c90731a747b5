use Rattle.std.proofs.Common.{inl, inr, sym, ap, subst, ◌∙◌}
use Rattle.occ_model.specs.World.{active_count}
use Rattle.occ_queue.specs.Items.{item_of}
use Rattle.occ_model.specs.Replies.{replied_back}
use Rattle.occ_core.specs.Replies.{outcome_of}
use Rattle.occ_store.specs.Transactions.{TransactionView}
use Rattle.occ_store.specs.Workers.{Takes}
use Rattle.occ_store.proofs.transactions.Transaction.enter.Goals as goal

pub returns-then-active-eq0-clause-step : goal.returns-then-active-eq0-clause-step
returns-then-active-eq0-clause-step g c =
    subst (λ (t : TransactionView). Takes t.front t.session (item_of c.args.item) c.args.shared.now (replied_back outcome_of c.serial_end.result) c.serial_end.new.me c.serial_end.new.self) c.self.view_is
    (inl (sym (c.active.ensures ∙ ap active_count c.core.ensures.world) ∙ c.if-active-eq0.true, c.serial_end.ensures.step))

pub returns-clause-step : goal.returns-clause-step
returns-clause-step g c =
    subst (λ (t : TransactionView). Takes t.front t.session (item_of c.args.item) c.args.shared.now (replied_back outcome_of c.enter_unfiled.result) c.enter_unfiled.new.me c.enter_unfiled.new.self) c.self.view_is
    (inr c.enter_unfiled.ensures.step)
