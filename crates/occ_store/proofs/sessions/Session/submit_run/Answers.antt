use Rattle.std.proofs.Common.{subst}
use Rattle.occ_store.specs.Sessions.{SessionView}
use Rattle.occ_store.specs.Tries.{GivesUp}
use Rattle.occ_store.proofs.sessions.Session.submit_run.Goals as goal

pub returns-clause-given_up : goal.returns-clause-given_up
returns-clause-given_up g c = subst (λ (v : SessionView). GivesUp g.N.Name.named v c.give_up_open.new.self) c.in-Err.ensures.err c.give_up_open.ensures
