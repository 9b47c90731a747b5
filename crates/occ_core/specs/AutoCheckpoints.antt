-- Checkpoints after each so many commits (our own choice).
use Rattle.std.specs.Prelude.{ℕ, ◌+◌, ◌-◌, ◌^◌, ◌==◌, nat_le, Bool, false, Option, None, Some, if◌then◌else◌, option_map, Result, Ok, Err}
use Rattle.occ_types.specs.declared.fault.Fault.{Fault}
use Rattle.occ_core.specs.declared.auto_checkpoints.AutoCheckpoint.{AutoCheckpoint}

-- none is ever due, and no commit was counted
abbrev pub no_checkpoints : AutoCheckpoint
no_checkpoints = record { each = None; since = 0 }

-- a checkpoint is due
abbrev pub is_due : AutoCheckpoint → Bool
is_due auto = elim auto.each as (λ _. Bool) [ None ↦ false | Some commits ↦ nat_le commits auto.since ]

-- after how many commits, of which 0 stand for 1
abbrev pub at_least_one : ℕ → ℕ
at_least_one commits = if commits == 0 then 1 else commits

-- one is due after each so many commits, of which those that were counted count
abbrev pub due_each : Option ℕ → AutoCheckpoint → AutoCheckpoint
due_each commits auto = record auto { each = option_map at_least_one commits }

-- one more commit was counted; the greatest count stays
abbrev pub counted : AutoCheckpoint → AutoCheckpoint
counted auto = record auto { since = if auto.since == 2 ^ 64 - 1 then auto.since else auto.since + 1 }

-- the count begins anew
abbrev pub begun_anew : AutoCheckpoint → AutoCheckpoint
begun_anew auto = record auto { since = 0 }

-- after a checkpoint where one was due: one that was made begins the count anew
abbrev pub checked_point : {X : Type 0} → Option (Result X Fault) → AutoCheckpoint → AutoCheckpoint
checked_point (Some (Ok folded)) auto = begun_anew auto
checked_point (Some (Err fault)) auto = auto
checked_point None auto = auto
