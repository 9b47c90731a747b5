use Rattle.std.proofs.Common.{ap, ◌∙◌}
use Rattle.occ_store.specs.Tries.{most_tries}
use Rattle.occ_store.specs.Workers.{WorkerView, count_tried}
use Rattle.occ_store.proofs.WorkerTries.{ended_after, few_after, fewer_after}
use Rattle.occ_store.proofs.workers.Worker.transact.Goals as goal

pub returns-clause-ended : goal.returns-clause-ended
returns-clause-ended g c =
    ended_after g.N.Name.named c.args.self.now c.checkpoint_if_due.new.self c.checkpoint_if_due.ensures.0 c.checkpoint_if_due.ensures.1 c.checkpoint_if_due.ensures.2 c.checkpoint_if_due.ensures.3
    (g.B.Body.makes c.args.body.now) g.B.Error.From.from_gives c.at_least_one.result (most_tries c.args.tries) c.at_least_one.ensures.most c.try_and_count.new.self c.try_and_count.result c.try_and_count.ensures.ended

pub returns-clause-few : goal.returns-clause-few
returns-clause-few g c =
    few_after g.N.Name.named c.args.self.now c.checkpoint_if_due.new.self c.checkpoint_if_due.ensures.0 c.checkpoint_if_due.ensures.1 c.checkpoint_if_due.ensures.2 c.checkpoint_if_due.ensures.3
    (g.B.Body.makes c.args.body.now) g.B.Error.From.from_gives c.at_least_one.result (most_tries c.args.tries) c.at_least_one.ensures.most c.try_and_count.new.self c.try_and_count.result c.try_and_count.ensures.few

pub returns-clause-fewer : goal.returns-clause-fewer
returns-clause-fewer g c =
    fewer_after g.N.Name.named c.args.self.now c.checkpoint_if_due.new.self c.checkpoint_if_due.ensures.0 c.checkpoint_if_due.ensures.1 c.checkpoint_if_due.ensures.2 c.checkpoint_if_due.ensures.3
    (g.B.Body.makes c.args.body.now) g.B.Error.From.from_gives c.at_least_one.result (most_tries c.args.tries) c.at_least_one.ensures.most c.try_and_count.new.self c.try_and_count.result c.try_and_count.ensures.fewer

pub returns-clause-counts : goal.returns-clause-counts
returns-clause-counts g c = (
  c.checkpoint_if_due.ensures.0,
  c.checkpoint_if_due.ensures.1,
  c.try_and_count.ensures.counts ∙ ap (λ (w : WorkerView). count_tried c.try_and_count.result w.checkpoints) c.checkpoint_if_due.ensures.3,
)
