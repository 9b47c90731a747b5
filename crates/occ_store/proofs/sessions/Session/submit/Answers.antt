use Rattle.std.proofs.Common.{◌≡◌, Some, [], ◌∷◌, subst}
use Rattle.occ_types.specs.declared.fault.Fault.TheVariants as faults
use Rattle.occ_types.specs.Schema.{fault_if, first_fault}
use Rattle.occ_queue.specs.Lanes.{as_queue}
use Rattle.occ_queue.specs.Numbering.{is_full}
use Rattle.occ_open.specs.Transactions.{none_open}
use Rattle.occ_store.specs.Sessions.{SessionView}
use Rattle.occ_store.proofs.Submittable.{back_again, submit_refused, open_again, same_one}
use Rattle.occ_store.proofs.sessions.Session.submit.Goals as goal

-- the transaction is open again as it was
pub invariant_of-self-in-Err : goal.invariant_of-self-in-Err
invariant_of-self-in-Err g c =
    let draft = back_again _ _ _ _ _ _ c.in_ok-number.ensures.ok c.in-Err.ensures.handed_back c.reopened.ensures in
    same_one g.N.Name.named c.self.inside.seat.board c.self.inside.seat.seen c.self.inside.sender _ c.self.inside.transaction c.put_back.new.transaction c.in-Err.ensures.err
    (open_again c.self.inside.transaction c.into_request.new.self c.put_back.new.transaction c.reopened.result c.into_request.ensures.none c.put_back.ensures draft) c.self.invariant

-- it is refused since the queue is full
pub returns-in-Err-clause-fault : goal.returns-in-Err-clause-fault
returns-in-Err-clause-fault g c =
    subst (λ (v : SessionView). first_fault (first_fault (fault_if (as_queue v.sender).closed faults.Closed ∷ none_open v.draft ∷ []) ∷ fault_if (is_full (as_queue v.sender)) faults.QueueFull ∷ []) ≡ Some c.in-Err.refused.fault)
    c.self.view_is
    (submit_refused c.self.inside.sender c.self.inside.transaction.draft _ _ _ _ c.in_ok-number.ensures.ok c.self.invariant.3 c.in-Err.ensures.fault)
