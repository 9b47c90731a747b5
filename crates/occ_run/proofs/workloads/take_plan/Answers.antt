use Rattle.occ_run.specs.Plans.{plan_of, transaction_of}
use Rattle.occ_run.proofs.PlansTaken.{no_line, plan_unread, plan_barred, plan_read}
use Rattle.occ_run.proofs.workloads.take_plan.Goals as goal

pub returns-in_err-next_line-clause-taken : goal.returns-in_err-next_line-clause-taken
returns-in_err-next_line-clause-taken g c =
    no_line (plan_of {Z = g.row.A.Denot}) c.in_err-next_line.field-0.0 c.from_residual.result c.args.settings c.args.schema.now c.args.before _ _ c.args.input.now _ _ c.from_residual.ensures.1 c.in_err-next_line.ensures.gives

pub returns-in-End-clause-taken : goal.returns-in-End-clause-taken
returns-in-End-clause-taken g c = let e = rw c.in-End.is at c.in_ok-next_line.ensures.gives in (e.0, (e.1, e.2))

pub returns-in_err-transaction-clause-taken : goal.returns-in_err-transaction-clause-taken
returns-in_err-transaction-clause-taken g c =
    let l = rw c.in-Line.is at c.in_ok-next_line.ensures.gives in
    plan_unread (plan_of {Z = g.row.A.Denot}) (transaction_of {Z = g.row.A.Denot}) c.read_transaction.result c.in_err-transaction.field-0.0 c.from_residual-in_err-transaction.result c.args.settings c.args.schema.now c.args.before c.line.result.now _ _ _ c.number-2.result _ _
    l c.line.ensures c.read_transaction.ensures.again c.in_err-transaction.ensures.exact c.from_residual-in_err-transaction.ensures.1 c.number-2.ensures

pub returns-then-not-has_room-clause-taken : goal.returns-then-not-has_room-clause-taken
returns-then-not-has_room-clause-taken g c =
    let l = rw c.in-Line.is at c.in_ok-next_line.ensures.gives in
    plan_barred (plan_of {Z = g.row.A.Denot}) c.args.settings c.args.schema.now c.args.before _ _ _ c.number.result _ _ c.has_room.result l c.has_room.ensures c.if-not-has_room.true c.number.ensures

pub returns-clause-taken : goal.returns-clause-taken
returns-clause-taken g c =
    let l = rw c.in-Line.is at c.in_ok-next_line.ensures.gives in
    plan_read (plan_of {Z = g.row.A.Denot}) c.args.settings c.args.schema.now c.args.before c.line.result.now _ (transaction_of c.in_ok-transaction.transaction) c.in_ok-plan.plan _ _ _ _ c.has_room.result
    l c.line.ensures (rw c.in_ok-transaction.ensures.taken at c.read_transaction.ensures.found) c.has_room.ensures c.if-not-has_room.false c.in_ok-plan.ensures
