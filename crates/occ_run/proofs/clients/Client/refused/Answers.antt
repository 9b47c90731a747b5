use Rattle.std.proofs.Common.{sym, ◌∙◌}
use Rattle.occ_run.proofs.Playing.{closed_has_played, ended_still}
use Rattle.occ_run.proofs.clients.Client.refused.Goals as goal

pub invariant_of-self : goal.invariant_of-self
invariant_of-self g c = ended_still g.N.Name.named _ _ c.self.inside.end c.self.inside.refused _ c.self.inside.session c.catch_up.new.self c.self.invariant c.in-Closed.is c.catch_up.ensures.seen c.catch_up.ensures.before

pub returns-clause-played : goal.returns-clause-played
returns-clause-played g c =
    closed_has_played g.N.Name.named _ _ c.self.inside.end c.self.inside.refused _ _ c.self.inside.session c.catch_up.new.self c.self.invariant c.in-Closed.is (sym c.session-own.ensures ∙ c.if-own-session.false) c.catch_up.ensures.seen c.catch_up.ensures.before
