use Rattle.std.proofs.Common.{◌≡◌, sym, ap, subst, ◌∙◌}
use Rattle.std.specs.Prelude.{◌⊎◌}
use Rattle.occ_history.specs.History.{Begins}
use Rattle.occ_store.specs.Workers.{WorkerView}
use Rattle.occ_store.proofs.workers.Worker.compare.Goals as goal

pub returns-clause-order : goal.returns-clause-order
returns-clause-order g c =
    subst (λ (two : WorkerView × WorkerView). Begins two.0.front two.1.front ⊎ Begins two.1.front two.0.front) (λ i. (c.self.view_is i, c.other.view_is i)) c.compare.ensures.order
