use Rattle.std.proofs.Common.{is_some, ap, ◌∙◌}
use Rattle.occ_core.specs.Replies.{next_object}
use Rattle.occ_store.specs.Locked.{world_of}
use Rattle.occ_store.specs.Lanes.{LaneView}
use Rattle.occ_store.proofs.LaneSteps.{goes_writing, goes_finishing}
use Rattle.occ_store.proofs.lanes.Lane.write_or_finish.Goals as goal

pub returns-then-writes_left : goal.returns-then-writes_left
returns-then-writes_left g c =
    goes_writing c.writes_left.result _ c.args.self.now c.args.shared.now _ _ c.write.new.shared
    (c.writes_left.ensures ∙ ap (λ (l : LaneView). is_some (next_object (world_of c.args.shared.now) l.session)) c.self.view_is) c.if-writes_left.true c.write.ensures

pub returns-else-writes_left : goal.returns-else-writes_left
returns-else-writes_left g c =
    goes_finishing c.writes_left.result _ c.args.self.now c.args.shared.now _ _ c.finish.new.shared
    (c.writes_left.ensures ∙ ap (λ (l : LaneView). is_some (next_object (world_of c.args.shared.now) l.session)) c.self.view_is) c.if-writes_left.false c.finish.ensures
