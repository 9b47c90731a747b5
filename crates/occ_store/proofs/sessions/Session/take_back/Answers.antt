use Rattle.std.proofs.Common.{Some, refl, ap, ◌∙◌}
use Rattle.occ_open.specs.Transactions.{begun}
use Rattle.occ_store.specs.Sessions.{SessionView}
use Rattle.occ_store.specs.Transactions.{TransactionView}
use Rattle.occ_store.proofs.sessions.Session.take_back.Goals as goal

-- one without a write is open in place of the one that was lent
pub returns-clause-opened : goal.returns-clause-opened
returns-clause-opened g c = (
  begun c.args.number c.args.start,
  refl,
  ap (λ (t : TransactionView). record { session = t.session; schema = g.N.Name.named.settings.schema; seat = c.self.inside.seat.seen; sender = c.self.inside.sender; draft = t.draft; front = t.front }) c.in_ok-begin.ensures.ok
      ∙ ap (λ (v : SessionView). record v { draft = Some (begun c.args.number c.args.start) }) c.self.view_is,
)
