use Rattle.std.proofs.Common.{◌≡◌, Some, ap, subst, ◌∙◌}
use Rattle.occ_core.specs.AutoCheckpoints.{is_due, checked_point}
use Rattle.occ_core.specs.declared.auto_checkpoints.AutoCheckpoint.{AutoCheckpoint}
use Rattle.occ_model.specs.Event.{Checkpoint, Folded}
use Rattle.occ_model.specs.Replies.{replied}
use Rattle.occ_store.specs.Standing.{StandsIn}
use Rattle.occ_store.specs.Lanes.{left_of}
use Rattle.occ_store.specs.Transactions.{TransactionView}
use Rattle.occ_store.specs.Workers.{WorkerView}
use Rattle.occ_store.proofs.workers.Worker.checkpoint_if_due.Goals as goal

pub returns : goal.returns
returns g c = (
  Some c.checkpoint.result,
  c.if-not-is_due.ensures ∙ ap (λ (w : WorkerView). is_due w.checkpoints) c.self.view_is,
  subst (λ (w : WorkerView). StandsIn g.N.Name.named w.front Checkpoint (replied Folded c.checkpoint.result) c.checkpoint.new.self.front) c.self.view_is c.checkpoint.ensures.stands,
  ap (λ (r : TransactionView × AutoCheckpoint). record { session = r.0.session; schema = g.N.Name.named.settings.schema; seat = c.self.inside.seat.seen; first = c.self.inside.first; last = c.self.inside.last; entered = c.self.inside.entered; left = left_of c.self.inside.left; checkpoints = r.1; front = c.checkpoint.new.self.front }) (λ i. (c.checkpoint.ensures.same i, c.note.ensures i))
      ∙ ap (λ (w : WorkerView). record w { checkpoints = checked_point (Some c.checkpoint.result) w.checkpoints; front = c.checkpoint.new.self.front }) c.self.view_is,
)
