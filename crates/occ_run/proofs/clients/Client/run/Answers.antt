use Rattle.occ_run.proofs.Playing.{ends_as, unstarted_is_fresh}
use Rattle.occ_run.proofs.clients.Client.run.Goals as goal

pub play-requires : goal.play-requires
play-requires g c = unstarted_is_fresh g.N.Name.named _ _ c.self.inside.end c.self.inside.refused c.self.inside.session c.self.invariant c.in-Unstarted.is

pub invariant_of-self : goal.invariant_of-self
invariant_of-self g c = ends_as g.N.Name.named g.L.Load.retries g.L.Load.plans c.play.result _ c.play.new.session c.ended-end.ensures c.play.ensures
