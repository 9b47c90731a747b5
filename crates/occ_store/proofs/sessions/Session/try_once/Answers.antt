use Rattle.occ_store.proofs.Waiting.{awaited_one}
use Rattle.occ_store.proofs.sessions.Session.try_once.Goals as goal

pub returns-clause-awaited : goal.returns-clause-awaited
returns-clause-awaited g c =
    awaited_one (g.B.Body.makes c.args.body.now) c.args.self.now c.hand_in.new.self c.wait.new.self c.in_ok-pending.pending c.wait.result
    c.in_ok-pending.ensures.ok c.wait.ensures.same c.wait.ensures.awaited
