use Rattle.std.proofs.Common.{refl, sym, ap, subst, ◌∙◌}
use Rattle.occ_queue.specs.Items.{items_of}
use Rattle.occ_history.specs.History.{FrontView, IsHere}
use Rattle.occ_store.specs.Transactions.{TransactionView}
use Rattle.occ_store.specs.Workers.{WorkerView}
use Rattle.occ_store.proofs.AccountLines.{has_seen}
use Rattle.occ_store.proofs.Accounting.{worker_line_made}
use Rattle.occ_store.proofs.accounts.worker_line.Goals as goal

pub returns-clause-line : goal.returns-clause-line
returns-clause-line g c = worker_line_made _ _ _ c.worker.view_is refl refl refl c.kept.ensures c.worker.invariant.9 (ap (items_of {Z = g.row.A.Denot}) c.new.ensures.items)

pub show_to-requires : goal.show_to-requires
show_to-requires g c = subst IsHere (sym (ap (λ (t : TransactionView). t.front.party) c.transaction.view_is ∙ c.worker.invariant.2)) tt

pub returns-clause-saw : goal.returns-clause-saw
returns-clause-saw g c = has_seen _ _ _ _ c.show_to.ensures.before c.show_to.ensures.seen (ap (λ (t : TransactionView). t.front) c.transaction.view_is ∙ ap (λ (w : WorkerView). w.front) c.worker.view_is)
