use Rattle.std.proofs.Common.{None, sym, ap, ◌∙◌, arith}
use Rattle.occ_queue.specs.Items.{item_of}
use Rattle.occ_store.specs.Lanes.{Decided, left_of}
use Rattle.occ_store.proofs.LaneSteps.{went_committing, went_backing, takes_on}
use Rattle.occ_store.proofs.Accounting.{went_in, was_kept}
use Rattle.occ_store.proofs.lanes.Lane.advance.Goals as goal

-- whose events they are stays
pub invariant_of-self-in-Kept : goal.invariant_of-self-in-Kept
invariant_of-self-in-Kept g c =
    let step = c.enter-left.ensures.step in
    let at = ap left_of (sym c.in-Kept.ensures.value) in
    let room = c.enter-left.ensures.room in
    let before = c.self.invariant.5 in (
      c.self.invariant.0,
      (takes_on c.self.inside.session c.self.inside.files c.self.inside.serial (item_of c.in-Kept.item) c.args.shared.now c.enter-left.new.shared step.0 c.self.inside.front c.enter-left.new.me step.1).0 ∙ c.self.invariant.1,
      c.enter-left.ensures.own,
      c.enter-left.ensures.parts ∙ c.self.invariant.3,
      c.enter-left.ensures.amount,
      omega arith,
      c.enter-left.ensures.adds_up c.self.inside.receiver.taken (was_kept _ _ _ c.self.invariant.6 (item_of c.in-Kept.item) at),
    )

pub returns-in-Kept : goal.returns-in-Kept
returns-in-Kept g c = went_in _ _ c.args.judged c.args.shared.now c.enter-left.new.shared _ c.self.view_is (item_of c.in-Kept.item) (ap left_of (sym c.in-Kept.ensures.value)) _ _ _ c.enter-left.ensures.step

pub returns-in-Commit : goal.returns-in-Commit
returns-in-Commit g c =
    went_committing _ _ c.args.judged None c.args.shared.now c.write_or_finish.new.shared _ _ c.self.view_is c.in-Decided.number (ap left_of (sym c.in-Decided.ensures.value) ∙ ap (Decided c.in-Decided.number) c.in-Commit.is) _
    (ap left_of c.in-Decided.ensures.after) c.write_or_finish.ensures

pub returns : goal.returns
returns g c =
    went_backing _ _ c.args.judged None c.args.shared.now c.back_up.new.shared _ _ c.self.view_is c.in-Decided.number c.in-BackUp.cause (ap left_of (sym c.in-Decided.ensures.value) ∙ ap (Decided c.in-Decided.number) c.in-BackUp.is) _
    (ap left_of c.in-Decided.ensures.after) c.back_up.ensures
