use Rattle.std.proofs.Common.{ap, ◌∙◌, subst}
use Rattle.occ_audit.proofs.Common.{Explained, log_row_of, serial}
use Rattle.occ_audit.specs.Replaying.{RowPlays}
use Rattle.occ_audit.proofs.Prefixes.{prefix-all}
use Rattle.occ_audit.proofs.WrongReads.{row-found, row-played}
use Rattle.occ_audit.proofs.first_read.replay_rows.Goals as goal

pub returns-in-Some : goal.returns-in-Some
returns-in-Some g c =
    row-found c.args.base.now.base.state c.loop-index.replica c.args.log.now c.loop-index.index c.index-log-index.result c.loop-index-test.true c.index-log-index.is c.loop-index.invariant.0 c.loop-index.invariant.1 c.play.new.replica c.in-Some.wrong (subst (RowPlays c.loop-index.replica c.play.new.replica c.loop-index.index (log_row_of c.index-log-index.result)) c.in-Some.is c.in_ok-found.ensures)

pub loop-index-preserved : goal.loop-index-preserved
loop-index-preserved g c =
    let plays = subst (RowPlays c.loop-index.replica c.play.new.replica c.loop-index.index (log_row_of c.index-log-index.result)) c.in_default.is c.in_ok-found.ensures in
    row-played c.args.base.now.base.state c.loop-index.replica c.args.log.now c.loop-index.index c.index-log-index.result c.loop-index-test.true c.index-log-index.is c.loop-index.invariant.0 c.loop-index.invariant.1 c.play.new.replica plays.0 plays.1

pub returns : goal.returns
returns g c =
    let all = prefix-all log_row_of c.args.log.now c.loop-index.index c.loop-index-test.false in
    (subst (Explained c.args.base.now.base.state) all c.loop-index.invariant.0, c.loop-index.invariant.1 ∙ ap (serial c.args.base.now.base.state) all)
