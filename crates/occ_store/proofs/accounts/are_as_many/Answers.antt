use Rattle.occ_store.proofs.AccountLines.{same_sum, too_many}
use Rattle.occ_store.proofs.accounts.are_as_many.Goals as goal

pub returns-then-workers-count : goal.returns-then-workers-count
returns-then-workers-count c = too_many c.args.workers c.args.lanes c.args.count c.if-workers-count.true

pub returns : goal.returns
returns c = same_sum c.args.workers c.args.lanes c.args.count c.if-workers-count.false
