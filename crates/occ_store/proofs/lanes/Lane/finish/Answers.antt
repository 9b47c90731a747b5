use Rattle.std.proofs.Common.{refl, ap, subst, ◌∙◌}
use Rattle.occ_model.specs.Event.{Finish, Finished}
use Rattle.occ_store.specs.Locked.{Happens}
use Rattle.occ_store.specs.Lanes.{LaneView, Left}
use Rattle.occ_store.proofs.lanes.Lane.finish.Goals as goal

pub returns-in-Ok : goal.returns-in-Ok
returns-in-Ok g c = (
  Finished c.in-Ok._tn,
  subst (λ (l : LaneView). Happens l.front c.args.shared.now l.session (Finish l.session) (Finished c.in-Ok._tn) c.finish.new.me c.finish.new.self) c.self.view_is c.in-Ok.ensures,
  refl,
  ap (λ (l : LaneView). record l { front = c.finish.new.me }) c.self.view_is ∙ ap (λ (x : Left). record c.args.self.now { left = x; front = c.finish.new.me }) c.requires.taken,
)
