-- How the transactions of a store ended, counted (our own choice).
use Rattle.std.specs.Prelude.{◌≡◌, ℕ, ◌+◌, ◌-◌, ◌^◌, ◌<◌, ◌≤◌, ◌==◌, not, Bool, List, length, filter, Option, None, Some, if◌then◌else◌}
use Rattle.std.specs.List.{range_with_len}
use Rattle.std.specs.FinMap as finite
use Rattle.occ_types.specs.declared.limits.TheConstants.{MAX_COUNTER, MAX_NUMBER}
use Rattle.occ_model.specs.World.{World, next_place, active_count, has_session, last_entered}
use Rattle.occ_model.specs.Event.{Reply, Decided, Finished, EndedBack, RanAlone}
use Rattle.occ_model.specs.declared.verdict.Verdict.{Verdict}
use Rattle.occ_model.specs.declared.verdict.Verdict.TheVariants.{Commit, BackUp}
use Rattle.occ_model.specs.declared.verdict.Cause.{Cause}
use Rattle.occ_model.specs.declared.verdict.Cause.TheVariants.{Conflict, TooOld}
use Rattle.occ_core.specs.declared.totals.Totals.{Totals}
use Rattle.occ_core.specs.declared.totals.OneStep.{OneStep}
use Rattle.occ_core.specs.declared.totals.OneStep.TheVariants as steps

-- nothing ended yet, in a store whose first row enters at this place
abbrev pub no_totals : ℕ → Totals
no_totals place = record { first_place = place; committed = 0; alone = 0; conflicts = 0; too_old = 0 }

-- one more committed
abbrev pub with_commit : Totals → Totals
with_commit totals = record totals { committed = totals.committed + 1 }

-- and did so as operations that ran alone
abbrev pub with_alone : Totals → Totals
with_alone totals = record totals { committed = totals.committed + 1; alone = totals.alone + 1 }

-- one more committed in one step, by this event
abbrev pub with_one_step : Totals → OneStep → Totals
with_one_step totals steps.SerialEnd = with_commit totals
with_one_step totals steps.RunAlone = with_alone totals

-- one more is to be backed up
abbrev pub with_cause : Totals → Cause → Totals
with_cause totals Conflict = record totals { conflicts = totals.conflicts + 1 }
with_cause totals TooOld = record totals { too_old = totals.too_old + 1 }

-- One more was decided. One that commits is counted as it finishes.
abbrev pub with_verdict : Totals → Verdict → Totals
with_verdict totals Commit = totals
with_verdict totals (BackUp cause) = with_cause totals cause

-- What a step makes of the totals is told by its reply. A back-up is counted where its cause is told, which is at the decision or at the serial end.
abbrev pub moved : Totals → Reply → Totals
moved totals (Finished tn) = with_commit totals
moved totals (RanAlone tn answers) = with_alone totals
moved totals (Decided verdict) = with_verdict totals verdict
moved totals (EndedBack cause) = with_cause totals cause
moved totals reply = totals

-- Totals that add up, beside the number of active rows, the place of the next row to enter, the place of the log's first row and the counter: each row that entered since the first place has ended or is active, and as many numbers at least were taken as transactions committed.
pub record AddTo (totals : Totals) (active next folded counter : ℕ) : Type 0 where
  pub each : totals.first_place + (totals.committed + totals.conflicts + totals.too_old + active) ≡ next
  pub begins : totals.first_place ≤ folded
  pub numbered : totals.committed ≤ counter
  pub among : totals.alone ≤ totals.committed

-- and so beside a world
abbrev pub AddUp : Totals → World → Type 0
AddUp totals world = AddTo totals (active_count world) (next_place world) world.base.place world.counter

-- there is room in 64 bits to count one more of each
pub record CanCount (totals : Totals) : Type 0 where
  pub committed : totals.committed + 1 < 2 ^ 64
  pub alone : totals.alone + 1 < 2 ^ 64
  pub conflicts : totals.conflicts + 1 < 2 ^ 64
  pub too_old : totals.too_old + 1 < 2 ^ 64
