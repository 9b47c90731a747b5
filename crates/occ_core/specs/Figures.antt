-- The figures of a store (our own choice).
use Rattle.std.specs.Prelude.{◌≡◌, ℕ, zero, suc, ◌+◌, ◌-◌, ◌≤◌, cond, length, Option, None, Some}
use Rattle.std.specs.FinMap.{FinMap}
use Rattle.occ_types.specs.declared.limits.TheConstants.{MAX_COUNTER, MAX_NUMBER}
use Rattle.occ_model.specs.World.{World, ReadPhase, phase_cmp, active_count, has_session, last_entered}
use Rattle.occ_log.specs.Phases.{is_reading}
use Rattle.occ_core.specs.declared.totals.Totals.{Totals}
use Rattle.occ_core.specs.declared.counts.Counts.{Counts}

-- how many of so many sessions, from one on, have a read phase under way
abbrev pub reading_from : FinMap phase_cmp ReadPhase → ℕ → ℕ → ℕ
reading_from phases session zero = 0
reading_from phases session (suc count) = cond (is_reading phases session) 1 0 + reading_from phases (suc session) count

-- the figures of a world with its totals
abbrev pub figures_of : World → Totals → Counts
figures_of world totals = record {
  committed = totals.committed;
  alone = totals.alone;
  conflicts = totals.conflicts;
  too_old = totals.too_old;
  active = active_count world;
  folded = world.base.place - totals.first_place;
  rows = length world.log;
  reading = reading_from world.phases 1 world.settings.sessions;
  counter = world.counter;
  counter_left = MAX_COUNTER - world.counter;
}

-- The figures add up. Each row that entered has ended or is active, was folded or stands in the log; those that ran alone are among the committed; and each that committed took a number, as each active one still can.
pub record IsBalanced (counts : Counts) : Type 0 where
  pub rows : counts.committed + counts.conflicts + counts.too_old + counts.active ≡ counts.folded + counts.rows
  pub among : counts.alone ≤ counts.committed
  pub numbered : counts.committed ≤ counts.counter
  pub numbers : counts.counter + counts.counter_left ≡ MAX_COUNTER
  pub room : counts.active ≤ counts.counter_left

-- how many numbers a session has left, where it is there
abbrev pub numbers_left : World → ℕ → Option ℕ
numbers_left world session = cond (has_session world session) (Some (MAX_NUMBER - last_entered world session)) None
