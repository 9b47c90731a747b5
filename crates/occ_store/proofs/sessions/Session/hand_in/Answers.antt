use Rattle.std.proofs.Common.{Some, ap, sym, ◌∙◌, ℕ}
use Rattle.occ_open.specs.Transactions.{begun as no_writes}
use Rattle.occ_store.specs.Sessions.{SessionView}
use Rattle.occ_store.proofs.Working.{none_handed_in, not_begun}
use Rattle.occ_store.proofs.Waiting.{hands_in_pending}
use Rattle.occ_store.proofs.sessions.Session.hand_in.Goals as goal

-- none may begin
pub returns-in-Err-clause-none : goal.returns-in-Err-clause-none
returns-in-Err-clause-none g c =
    not_begun (g.B.Body.makes c.args.body.now) g.B.Error.From.from_gives g.N.Name.named c.args.self.now c.begin.new.self c.in-Err.fault c.from.result c.in-Err.ensures.err c.in-Err.ensures.fault c.from.ensures

pub run_body-ran-requires : goal.run_body-ran-requires
run_body-ran-requires g c = record {
  begun = ap (λ (v : SessionView). v.draft) c.in-Ok.ensures.ok.1 ∙ ap (λ (n : ℕ). Some (no_writes n c.in-Ok.begun.1)) (sym c.in-Ok.ensures.ok.0);
}

pub returns-clause-ok : goal.returns-clause-ok
returns-clause-ok g c =
    hands_in_pending (g.B.Body.makes c.args.body.now) c.args.self.now c.begin.new.self c.run_body-ran.new.self c.submit_run.new.self
    c.in-Ok.begun.1 c.in-Ok.begun.0 c.run_body-ran.result c.submit_run.result
    c.in-Ok.ensures.ok.0 c.in-Ok.ensures.ok.1 c.run_body-ran.ensures.made c.run_body-ran.ensures.again c.submit_run.ensures.ok

pub returns-clause-none : goal.returns-clause-none
returns-clause-none g c =
    none_handed_in (g.B.Body.makes c.args.body.now) g.B.Error.From.from_gives g.N.Name.named c.args.self.now c.begin.new.self c.run_body-ran.new.self c.submit_run.new.self
    c.in-Ok.begun.1 c.in-Ok.begun.0 c.run_body-ran.result c.submit_run.result
    c.in-Ok.ensures.ok.1 c.run_body-ran.ensures.made c.run_body-ran.ensures.error c.run_body-ran.ensures.again c.submit_run.ensures.given_up c.submit_run.ensures.error
