use Rattle.occ_store.proofs.Waiting.{gave_up, gave_up_unclosed, gave_up_refused, gave_up_front}
use Rattle.occ_store.proofs.sessions.Session.give_up.Goals as goal

pub returns-clause-ok : goal.returns-clause-ok
returns-clause-ok g c = gave_up c.args.self.now c.let_go.new.self c.close_patiently.new.self c.close_patiently.result c.let_go.ensures.none c.close_patiently.ensures.ok

pub returns-clause-err : goal.returns-clause-err
returns-clause-err g c = gave_up_unclosed c.args.self.now c.let_go.new.self c.close_patiently.new.self c.close_patiently.result c.let_go.ensures.none c.close_patiently.ensures.err

pub returns-clause-fault : goal.returns-clause-fault
returns-clause-fault g c = gave_up_refused c.args.self.now c.let_go.new.self c.close_patiently.result c.let_go.ensures.none c.close_patiently.ensures.fault

pub returns-clause-forgotten : goal.returns-clause-forgotten
returns-clause-forgotten g c = gave_up_front g.N.Name.named c.args.self.now c.let_go.new.self c.close_patiently.new.self c.close_patiently.result c.close_patiently.ensures.ok c.close_patiently.ensures.err c.let_go.ensures.forgotten
