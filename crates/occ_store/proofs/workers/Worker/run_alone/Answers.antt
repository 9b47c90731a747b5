use Rattle.std.proofs.Common.{ap, subst, List, ◌∙◌, ◌+◌, Option, Some}
use Rattle.occ_core.specs.AutoCheckpoints.{counted}
use Rattle.occ_model.specs.Operations.{Operation}
use Rattle.occ_model.specs.Event.{Alone}
use Rattle.occ_sets.specs.Operations.{ops_of}
use Rattle.occ_store.specs.Workers.{WorkerView, End, holding, LeftOver}
use Rattle.occ_store.proofs.WorkerTries.{on_err_any, left_ended, holds_left, holds_none, holds_alone, ran_alone}
use Rattle.occ_store.proofs.workers.Worker.run_alone.Goals as goal

pub returns-in_err-_ended-clause-few : goal.returns-in_err-_ended-clause-few
returns-in_err-_ended-clause-few g c =
    on_err_any _ (holds_left (ops_of c.args.operations.now) c.args.self.now c.resume.new.self c.in_err-_ended.ensures.kept.1 c.resume.ensures.seen)

pub returns-in_err-check_alone-clause-few : goal.returns-in_err-check_alone-clause-few
returns-in_err-check_alone-clause-few g c =
    on_err_any _ (holds_none (ops_of c.args.operations.now) c.args.self.now c.resume.new.self c.in_ok-_ended.ensures.nothing_left c.resume.ensures.seen)

pub returns-in_err-operations-clause-few : goal.returns-in_err-operations-clause-few
returns-in_err-operations-clause-few g c =
    on_err_any _ (holds_none (ops_of c.args.operations.now) c.args.self.now c.resume.new.self c.in_ok-_ended.ensures.nothing_left c.resume.ensures.seen)

pub returns-in_err-ended-clause-few : goal.returns-in_err-ended-clause-few
returns-in_err-ended-clause-few g c =
    on_err_any _ (holds_alone g.N.Name.named c.args.self.now c.resume.new.self c.hold.new.self c.resume-2.new.self (c.self.inside.last + 1) (ops_of c.args.operations.now)
    c.in_ok-_ended.ensures.nothing_left (ap (λ (w : WorkerView). w.last + 1) c.self.view_is)
    (c.hold.ensures ∙ ap (λ (list : List Operation). holding c.resume.new.self (Alone (c.self.inside.last + 1) list)) c.in_ok-operations.ensures.same)
    c.resume.ensures.seen c.in_err-ended.ensures.kept.1 c.resume-2.ensures.seen c.in_err-ended.ensures.left)

pub returns-clause-committed : goal.returns-clause-committed
returns-clause-committed g c =
    ran_alone g.N.Name.named c.args.self.now c.resume.new.self c.hold.new.self c.resume-2.new.self (c.self.inside.last + 1) (ops_of c.args.operations.now)
    c.in_ok-_ended.ensures.nothing_left (ap (λ (w : WorkerView). w.last + 1) c.self.view_is)
    (c.hold.ensures ∙ ap (λ (list : List Operation). holding c.resume.new.self (Alone (c.self.inside.last + 1) list)) c.in_ok-operations.ensures.same)
    c.count_commit.new.self (counted c.resume-2.new.self.checkpoints) c.in-Committed.tn
    (left_ended g.N.Name.named c.args.self.now c.in_ok-_ended._ended c.resume.new.self.front c.in_ok-_ended.ensures.over)
    c.in_ok-ended.ensures.nothing_left
    (subst (λ (o : Option End). LeftOver g.N.Name.named c.hold.new.self o c.resume-2.new.self.front) (c.in-Some.is ∙ ap Some c.in-Committed.is) c.in_ok-ended.ensures.over) c.count_commit.ensures
