use Rattle.std.proofs.Common.{ap, sym, ◌∙◌}
use Rattle.occ_store.specs.Sessions.{SessionView}
use Rattle.occ_store.proofs.Waiting.{lets_go}
use Rattle.occ_store.proofs.sessions.Session.let_go.Goals as goal

pub returns-then-is_open-clause-forgotten : goal.returns-then-is_open-clause-forgotten
returns-then-is_open-clause-forgotten g c =
    lets_go g.N.Name.named c.args.self.now c.self.inside.transaction.draft c.give_up_open.new.self.front (sym (ap (λ (v : SessionView). v.draft) c.self.view_is)) (sym c.is_open.ensures ∙ c.if-is_open.true) c.give_up_open.ensures.0
