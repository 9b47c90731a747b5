use Rattle.std.proofs.Common.{◌≡◌, ◌+◌, Some, ap, subst, ◌∙◌}
use Rattle.occ_open.specs.Transactions.{begun}
use Rattle.occ_history.specs.History.{Session}
use Rattle.occ_store.specs.Workers.{WorkerView}
use Rattle.occ_store.proofs.WorkerTries.{run_fails}
use Rattle.occ_store.proofs.workers.Worker.make.Goals as goal

pub returns-clause-error : goal.returns-clause-error
returns-clause-error g c =
    let begins : c.begin.new.self ≡ record { session = c.args.self.now.session; draft = Some (begun (c.self.inside.last + 1) c.start-start.result); front = c.args.self.now.front } =
    c.in_default.ensures.ok
    ∙ ap (λ (w : WorkerView). record { session = w.session; draft = Some (begun (c.self.inside.last + 1) c.start-start.result); front = w.front }) c.self.view_is in
    run_fails g.N.Name.named (g.B.Body.makes c.args.body.now) g.B.Error.From.from_gives c.args.self.now (c.self.inside.last + 1) c.start-start.result
    c.begin.new.self c.run-ran.new.work c.requested.new.transaction c.run-ran.result
    (ap (λ (w : WorkerView). w.last + 1) c.self.view_is) begins c.run-ran.ensures.made c.requested.ensures.same
    c.forget.new.self.front c.in-Err-requested.error
    (subst (λ (w : WorkerView). w.front.party ≡ Session w.session) c.self.view_is c.self.invariant.2) c.run-ran.ensures.own c.session-session.ensures.reader
    c.in-Err-requested.ensures.error c.forget.ensures.forgets
