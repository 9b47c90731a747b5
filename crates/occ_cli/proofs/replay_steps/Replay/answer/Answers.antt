use Rattle.std.proofs.Common.{Ok, Err}
use Rattle.occ_cli.proofs.Common.{step_of}
use Rattle.occ_cli.specs.Answers.{answer_of, refused}
use Rattle.occ_cli.proofs.Replaying.{ends_ok, ends_fed, ends_err}
use Rattle.occ_cli.proofs.replay_steps.Replay.answer.Goals as goal

pub returns-in-Ok-clause-ok : goal.returns-in-Ok-clause-ok
returns-in-Ok-clause-ok g c =
    ends_ok c.args.self.now (step_of c.args.step) c.play.new.self (Ok c.in-Ok.answer) c.answered.result c.answered.ensures c.in-Ok.ensures

pub returns-in-Ok-clause-fed : goal.returns-in-Ok-clause-fed
returns-in-Ok-clause-fed g c = ends_fed (answer_of c.in-Ok.answer) c.answered.result c.answered.ensures

pub returns-in-Ok-clause-err : goal.returns-in-Ok-clause-err
returns-in-Ok-clause-err g c =
    ends_err c.args.self.now (step_of c.args.step) c.play.new.self (Ok c.in-Ok.answer) c.answered.result c.answered.ensures c.in-Ok.ensures

pub returns-in-Err-clause-ok : goal.returns-in-Err-clause-ok
returns-in-Err-clause-ok g c =
    ends_ok c.args.self.now (step_of c.args.step) c.play.new.self (Err c.in-Err.fault) c.refused.result c.refused.ensures c.in-Err.ensures

pub returns-in-Err-clause-fed : goal.returns-in-Err-clause-fed
returns-in-Err-clause-fed g c = ends_fed (refused c.in-Err.fault) c.refused.result c.refused.ensures

pub returns-in-Err-clause-err : goal.returns-in-Err-clause-err
returns-in-Err-clause-err g c =
    ends_err c.args.self.now (step_of c.args.step) c.play.new.self (Err c.in-Err.fault) c.refused.result c.refused.ensures c.in-Err.ensures
