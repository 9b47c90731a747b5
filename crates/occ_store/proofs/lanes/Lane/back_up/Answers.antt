use Rattle.std.proofs.Common.{refl, ap, subst, ◌∙◌}
use Rattle.occ_model.specs.Event.{BackedUp, Refused}
use Rattle.occ_history.specs.History.{FrontView}
use Rattle.occ_store.specs.Locked.{BacksUp}
use Rattle.occ_store.specs.Lanes.{LaneView, Left}
use Rattle.occ_store.proofs.LaneSteps.{kept_told, kept_lane}
use Rattle.occ_store.proofs.lanes.Lane.back_up.Goals as goal

pub returns-in-Ok : goal.returns-in-Ok
returns-in-Ok g c = (
  BackedUp c.in-Ok._number,
  subst (λ (l : LaneView). BacksUp l.front c.args.shared.now l.session c.args.cause (BackedUp c.in-Ok._number) c.back_up.new.me c.back_up.new.self) c.self.view_is c.in-Ok.ensures,
  refl,
  ap (λ (l : LaneView). record l { front = c.back_up.new.me }) c.self.view_is ∙ ap (λ (x : Left). record c.args.self.now { left = x; front = c.back_up.new.me }) c.requires.taken,
)

pub returns-in-Err : goal.returns-in-Err
returns-in-Err g c = (
  Refused c.in-Err.fault,
  kept_told _ _ c.self.view_is _ _ _ c.keep.ensures (λ (l : LaneView) (f : FrontView). BacksUp l.front c.args.shared.now l.session c.args.cause (Refused c.in-Err.fault) f c.back_up.new.self) c.in-Err.ensures,
  refl,
  kept_lane _ _ c.self.view_is _ _ _ c.keep.ensures,
)
