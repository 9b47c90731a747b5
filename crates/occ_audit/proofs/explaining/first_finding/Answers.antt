use Rattle.std.proofs.lemmas.Result.{IfOk-weaker}
use Rattle.occ_audit.proofs.Common.{MatchOption-at_none, MatchOption-at_some, log_of}
use Rattle.occ_model.specs.Log.{InOrder}
use Rattle.occ_audit.specs.Findings.{IsDisorder}
use Rattle.occ_audit.proofs.Found.{behind-order}
use Rattle.occ_audit.proofs.explaining.first_finding.Goals as goal

pub returns-in-Some : goal.returns-in-Some
returns-in-Some g c =
    let base = c.args.book.now.base.now.base in
    let marks = c.args.book.now.marks.now.marks in
    let log = log_of c.args.book.now.log.now in
    MatchOption-at_some (InOrder base marks log) (IsDisorder base marks log) c.in-Some.disorder c.in-Some.is c.in_ok-disorder.ensures

pub returns : goal.returns
returns g c =
    let base = c.args.book.now.base.now.base in
    let marks = c.args.book.now.marks.now.marks in
    let log = log_of c.args.book.now.log.now in
    let order = MatchOption-at_none (InOrder base marks log) (IsDisorder base marks log) c.in_default.is c.in_ok-disorder.ensures in
    IfOk-weaker _ _ _ (λ found behind. behind-order base marks c.args.book.now.table.now.state log order found behind) c.replay_finding.ensures
