use Rattle.std.proofs.Common.{map}
use Rattle.occ_run.specs.Plans.{plan_of}
use Rattle.occ_run.proofs.runs.run_in.Given as goal

-- the name that the store of the frame has
abbrev pub ghosts-run_named-N-Ledger : goal.ghosts-run_named-N-Ledger
ghosts-run_named-N-Ledger g a = record { name = a.frame.ledger; parts = a.frame.parts }

abbrev pub ghosts-run_named-N-Name : goal.ghosts-run_named-N-Name
ghosts-run_named-N-Name g a = record { named = a.frame.named }

-- the workload that was read
abbrev pub ghosts-run_named-L-Load : goal.ghosts-run_named-L-Load
ghosts-run_named-L-Load g a = record { retries = a.settings.retries; plans = map plan_of a.plans.items }
