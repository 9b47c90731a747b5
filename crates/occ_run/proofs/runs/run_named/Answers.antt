use Rattle.std.proofs.Common.{◌-◌}
use Rattle.occ_run.proofs.Playing.{all_fresh}
use Rattle.occ_run.proofs.runs.run_named.Goals as goal

pub run_opened-requires-clause-fresh : goal.run_opened-requires-clause-fresh
run_opened-requires-clause-fresh g c = λ bounds lives. all_fresh g.N.Name.named (g.N.Name.named.settings.sessions - g.N.Name.named.workers) c.in-Ok.sessions.items c.in-Ok.ensures.sessions
