use Rattle.std.proofs.Common.{ap}
use Rattle.occ_queue.specs.Items.{item_of}
use Rattle.occ_store.specs.Transactions.{TransactionView}
use Rattle.occ_store.proofs.Ending.{begun_with}
use Rattle.occ_store.proofs.workers.Worker.begin_with.Goals as goal

pub returns : goal.returns
returns g c = begun_with _ _ c.args.shared.now c.take_in-left.new.shared _ c.self.view_is (item_of c.args.item) c.number-number.result c.take_in-left.new.self.session c.number-number.ensures (ap (λ (t : TransactionView). t.session) c.take_in-left.ensures.same) _ _ c.take_in-left.new.self.front c.take_in-left.ensures.step
