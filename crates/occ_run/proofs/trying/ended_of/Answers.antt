use Rattle.occ_run.proofs.Tries.{comes_now, comes_behind}
use Rattle.occ_run.proofs.trying.ended_of.Goals as goal

pub returns-in-Settled-clause-told : goal.returns-in-Settled-clause-told
returns-in-Settled-clause-told g c = comes_now c.args.awaited c.in-Settled.ended c.args.session.now c.in-Settled.is

pub returns-in-Pending-clause-told : goal.returns-in-Pending-clause-told
returns-in-Pending-clause-told g c = comes_behind c.args.awaited c.in-Pending.pending c.ended_behind.result c.args.session.now c.ended_behind.new.session c.in-Pending.is c.ended_behind.ensures.told
