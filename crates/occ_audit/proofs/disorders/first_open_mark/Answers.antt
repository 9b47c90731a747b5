use Rattle.std.proofs.Common.{arith}
use Rattle.occ_audit.proofs.Orders.{closed-none, closed-all}
use Rattle.occ_audit.proofs.disorders.first_open_mark.Goals as goal

pub loop-before-init : goal.loop-before-init
loop-before-init g c =
    closed-none c.args.base.now.base c.args.marks.now.marks c.args.marks.now.sessions c.args.last.now c.sessions-before-end.ensures.listed

pub returns : goal.returns
returns g c =
    closed-all c.args.base.now.base c.args.marks.now.marks c.args.marks.now.sessions c.loop-before.before c.args.last.now c.sessions-before-end.ensures.listed (omega (arith, c.loop-before-test.false, c.sessions-before-end.ensures.value)) c.loop-before.invariant
