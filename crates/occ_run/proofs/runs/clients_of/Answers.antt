use Rattle.std.proofs.Common.{length, rules}
use Rattle.std.proofs.lemmas.Iterator.Consumers.{YieldsList-turn}
use Rattle.std.proofs.lemmas.Iterator.Adapters.{YieldsList-from_vec}
use Rattle.occ_run.proofs.Playing.{fresh_at}
use Rattle.occ_run.proofs.runs.clients_of.Goals as goal

pub new-requires : goal.new-requires
new-requires g c =
    let turn = YieldsList-turn (YieldsList-from_vec {s = c.into_iter-session-iterator.result} c.args.sessions.items (search rules) (search rules))
    c.loop-session.yielded c.loop-session.session-iterator c.loop-session.yielded_by c.next.result c.next.new.self c.in-Some.session c.in-Some.is c.next.ensures.steps in
    fresh_at c.args.sessions.items (length c.loop-session.yielded) c.in-Some.session turn.0 turn.1 c.requires
