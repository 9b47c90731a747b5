use Rattle.std.proofs.Common.{Option, Some, ap, sym, subst, ◌∙◌}
use Rattle.occ_sets.specs.Sets.{Copied}
use Rattle.occ_open.specs.Transactions.{begun as no_writes}
use Rattle.occ_store.specs.Sessions.{SessionView, IsNext}
use Rattle.occ_store.proofs.Working.{body_made, body_refused, came_back}
use Rattle.occ_store.proofs.sessions.Session.run_body.Goals as goal

pub take_back-came_back-requires-clause-next : goal.take_back-came_back-requires-clause-next
take_back-came_back-requires-clause-next g c =
    subst (λ (v : SessionView). IsNext v.sender (no_writes c.args.number c.args.start)) (sym (c.run_in-ran.ensures.same ∙ ap (λ (v : SessionView). record v { front = c.run_in-ran.new.self.front }) c.lend-open.ensures.left))
    (c.lend-open.ensures.next (no_writes c.args.number c.args.start) c.requires.begun)

pub returns-clause-made : goal.returns-clause-made
returns-clause-made g c =
    body_made (g.B.Body.makes c.args.body.now) c.args.self.now (record c.lend-open.new.self { draft = c.lend-open.result }) c.take_back-came_back.new.self c.run_in-ran.result.1 c.run_in-ran.new.self.front c.run_in-ran.result.0 c.in-Ok.value
    (ap (λ (v : SessionView). record v { draft = c.lend-open.result }) c.lend-open.ensures.left ∙ ap (λ (d : Option Copied). record c.args.self.now { draft = d }) c.lend-open.ensures.lent)
    c.run_in-ran.ensures.made c.in-Ok.is c.in_ok-came_back.ensures.ok (ap (λ (v : SessionView). v.front) c.take_back-came_back.ensures.opened.2)

pub returns-in-Err-clause-error : goal.returns-in-Err-clause-error
returns-in-Err-clause-error g c =
    body_refused (g.B.Body.makes c.args.body.now) g.B.Error.From.from_gives c.args.self.now (record c.lend-open.new.self { draft = c.lend-open.result }) c.take_back-came_back.new.self c.run_in-ran.result.1 c.run_in-ran.new.self.front c.run_in-ran.result.0 c.in-Err.error
    (ap (λ (v : SessionView). record v { draft = c.lend-open.result }) c.lend-open.ensures.left ∙ ap (λ (d : Option Copied). record c.args.self.now { draft = d }) c.lend-open.ensures.lent)
    c.run_in-ran.ensures.made c.in-Err.is (ap (λ (v : SessionView). v.front) c.take_back-came_back.ensures.opened.2)

pub returns-in_err-came_back-clause-error : goal.returns-in_err-came_back-clause-error
returns-in_err-came_back-clause-error g c =
    came_back (g.B.Body.makes c.args.body.now) g.B.Error.From.from_gives c.args.self.now (record c.lend-open.new.self { draft = c.lend-open.result }) c.take_back-came_back.new.self c.run_in-ran.result.1 c.run_in-ran.new.self.front c.run_in-ran.result.0 c.from_residual.result c.in_err-came_back.field-0.0
    (ap (λ (v : SessionView). record v { draft = c.lend-open.result }) c.lend-open.ensures.left ∙ ap (λ (d : Option Copied). record c.args.self.now { draft = d }) c.lend-open.ensures.lent)
    c.run_in-ran.ensures.made (ap (λ (v : SessionView). v.front) c.take_back-came_back.ensures.opened.2) c.from_residual.ensures.1 c.in_err-came_back.ensures.fault
