use Rattle.std.proofs.Common.{Ok, ◌+◌, refl, sym, ap, ◌∙◌, arith}
use Rattle.occ_model.specs.Event.{Refused}
use Rattle.occ_queue.specs.Items.{item_of}
use Rattle.occ_core.specs.Replies.{outcome_of}
use Rattle.occ_store.specs.Lanes.{Kept, left_entering}
use Rattle.occ_store.proofs.LaneSteps.{reached_outcome}
use Rattle.occ_store.proofs.Accounting.{own_left, room_left, adds_up_left}
use Rattle.occ_store.proofs.advancing.enter.Goals as goal

pub returns-in-Ok-clause-step : goal.returns-in-Ok-clause-step
returns-in-Ok-clause-step g c = (
  outcome_of c.in-Ok.outcome,
  c.in-Ok.ensures.step,
  ap Ok c.point_by.ensures ∙ sym (reached_outcome c.in-Ok.outcome),
  c.left_by.ensures (item_of c.args.item) c.number-number.ensures ∙ ap (λ t. left_entering (item_of c.args.item) t (outcome_of c.in-Ok.outcome)) c.token-token.ensures.token,
  ap (λ n. c.args.entered.now + n) c.rows_in.ensures,
)

pub returns-in-Ok-clause-own : goal.returns-in-Ok-clause-own
returns-in-Ok-clause-own g c = own_left g.N.Name.named.file (item_of c.args.item) _ c.in-Ok.outcome _ (c.left_by.ensures (item_of c.args.item) c.number-number.ensures) c.token-token.ensures.own

pub returns-in-Ok-clause-room : goal.returns-in-Ok-clause-room
returns-in-Ok-clause-room g c = room_left (item_of c.args.item) _ c.in-Ok.outcome _ _ _ (c.left_by.ensures (item_of c.args.item) c.number-number.ensures) c.rows_in.ensures

pub returns-in-Ok-clause-adds_up : goal.returns-in-Ok-clause-adds_up
returns-in-Ok-clause-adds_up g c =
    adds_up_left (item_of c.args.item) _ c.in-Ok.outcome _ _ _ (c.left_by.ensures (item_of c.args.item) c.number-number.ensures) c.rows_in.ensures c.in-Ok.ensures.outcome

pub returns-in-Err-clause-step : goal.returns-in-Err-clause-step
returns-in-Err-clause-step g c = (
  Refused c.in-Err.refused.fault,
  c.in-Err.ensures.step,
  refl,
  ap Kept c.in-Err.ensures.handed_back,
  omega arith,
)
