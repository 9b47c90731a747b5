use Rattle.std.proofs.Common.{◌+◌, ◌*◌, length}
use Rattle.occ_store.proofs.validator_threads.+groups.Given as goal

-- each takes the groups that are left by one step more
abbrev pub decreases-run_groups : goal.decreases-run_groups
decreases-run_groups g l = length l.groups.now * 5

abbrev pub decreases-run_parts : goal.decreases-run_parts
decreases-run_parts g l = length l.others.now * 5 + 4

abbrev pub decreases-run_lent : goal.decreases-run_lent
decreases-run_lent g l = length l.others.now * 5 + 3

abbrev pub decreases-run_lent-scope : goal.decreases-run_lent-scope
decreases-run_lent-scope g l = length l.others.now * 5 + 2

abbrev pub decreases-run_in : goal.decreases-run_in
decreases-run_in g l = length l.others.now * 5 + 1
