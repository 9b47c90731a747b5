use Rattle.std.proofs.Common.{sym, ap, ◌∙◌}
use Rattle.occ_queue.specs.Items.{item_of}
use Rattle.occ_store.specs.Lanes.{Decided, left_of}
use Rattle.occ_store.specs.Transactions.{TransactionView}
use Rattle.occ_store.proofs.Ending.{went_in, went_committing, went_backing}
use Rattle.occ_store.proofs.workers.Worker.advance.Goals as goal

pub returns-in-Kept : goal.returns-in-Kept
returns-in-Kept g c = went_in _ _ _ c.take_in-left.new.shared _ c.self.view_is (item_of c.in-Kept.item) c.take_in-left.new.self.session (ap left_of (sym c.in-Kept.ensures.value)) (ap (λ (t : TransactionView). t.session) c.take_in-left.ensures.same) _ _ c.take_in-left.new.self.front c.take_in-left.ensures.step

pub returns-in-Commit : goal.returns-in-Commit
returns-in-Commit g c =
    went_committing _ _ _ _ _ c.self.view_is _ c.in-Decided.number (ap left_of (sym c.in-Decided.ensures.value) ∙ ap (Decided c.in-Decided.number) c.in-Commit.is) _
    (ap left_of c.in-Decided.ensures.after) c.commit.ensures

pub returns : goal.returns
returns g c =
    went_backing _ _ _ _ _ c.self.view_is _ c.in-Decided.number c.in-BackUp.cause (ap left_of (sym c.in-Decided.ensures.value) ∙ ap (Decided c.in-Decided.number) c.in-BackUp.is) _
    (ap left_of c.in-Decided.ensures.after) c.back_up.ensures
