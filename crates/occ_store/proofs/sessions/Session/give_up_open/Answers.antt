use Rattle.std.proofs.Common.{None, ap, sym, subst, ◌∙◌}
use Rattle.occ_open.specs.Replies.{forgetting}
use Rattle.occ_history.specs.History.{FrontView}
use Rattle.occ_store.specs.Sessions.{SessionView}
use Rattle.occ_store.specs.Tries.{lent}
use Rattle.occ_store.specs.Transactions.{AbandonsIn}
use Rattle.occ_store.proofs.sessions.Session.give_up_open.Goals as goal

pub returns : goal.returns
returns g c =
    let front = ap (λ (v : SessionView). v.front) c.lend-none.ensures.left in (
      (
        forgetting c.abandon-forgotten.result,
        subst (λ (f : FrontView). AbandonsIn g.N.Name.named (lent c.args.self.now) (forgetting c.abandon-forgotten.result) f) (sym front) c.abandon-forgotten.ensures.forgets,
      ),
      c.lend-none.ensures.left ∙ ap (λ (v : SessionView). record v { draft = None }) c.abandon-forgotten.ensures.left
          ∙ ap (λ (f : FrontView). record c.args.self.now { draft = None; front = f }) (sym front),
    )
