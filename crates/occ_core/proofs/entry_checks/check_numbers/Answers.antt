use Rattle.std.proofs.Common.{◌<◌, ◌-◌, length, sym, arith}
use Rattle.occ_types.specs.declared.limits.TheConstants.{MAX_COUNTER}
use Rattle.occ_log.specs.Logs.{row_at}
use Rattle.occ_core.proofs.Counting.{counter_free}
use Rattle.occ_core.proofs.entry_checks.check_numbers.Goals as goal

pub returns-then-len-saturating_sub : goal.returns-then-len-saturating_sub
returns-then-len-saturating_sub g c =
    let sessions = c.len.ensures in
    let room = c.saturating_sub.ensures in
    let less : length c.args.sessions.now < MAX_COUNTER - c.args.counter = omega arith in
    sym (counter_free (row_at c.args.log.now) c.args.sessions.now c.args.counter less)
