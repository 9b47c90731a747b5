use Rattle.std.proofs.Common.{refl, ap, sym, subst}
use Rattle.occ_model.specs.Event.{Refused}
use Rattle.occ_history.specs.History.{FrontView}
use Rattle.occ_store.specs.Locked.{BacksUp}
use Rattle.occ_store.specs.Transactions.{TransactionView}
use Rattle.occ_store.specs.Workers.{WorkerView}
use Rattle.occ_store.proofs.Ending.{kept_so}
use Rattle.occ_store.proofs.workers.Worker.back_up.Goals as goal

pub returns-in-Err : goal.returns-in-Err
returns-in-Err g c = (
  Refused c.in-Err.fault,
  subst (λ (f : FrontView). BacksUp c.args.self.now.front c.args.shared.now c.args.self.now.session c.args.cause (Refused c.in-Err.fault) f c.back_up.new.shared) (sym (ap (λ (w : WorkerView). w.front) c.keep.ensures))
      (subst (λ (w : WorkerView). BacksUp w.front c.args.shared.now w.session c.args.cause (Refused c.in-Err.fault) c.back_up.new.self.front c.back_up.new.shared) c.self.view_is c.in-Err.ensures.backed_up),
  refl,
  kept_so _ _ _ _ _ _ c.self.view_is (ap (λ (t : TransactionView). t.session) c.in-Err.ensures.same) c.keep.ensures,
)
