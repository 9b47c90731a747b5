-- The world: all that the steps of the store read and change.
use Rattle.std.specs.Prelude.{ℕ, ◌+◌, Bool, ◌&&◌, ◌==◌, nat_le, List, [], ◌∷◌, map, length, filter, Option, None, Some, if◌then◌else◌}
use Rattle.std.specs.declared.cmp.Ordering.{Ordering}
use Rattle.std.specs.Ordering.{nat_cmp, on, then_cmp}
use Rattle.std.specs.FinMap as finite
use Rattle.std.specs.FinSet as sets
use Rattle.std.specs.FinMap.{FinMap}
use Rattle.std.specs.FinSet.{FinSet}
use Rattle.occ_types.specs.Schema.{Schema}
use Rattle.occ_types.specs.Question.{Question}
use Rattle.occ_model.specs.State.{State, Observation}
use Rattle.occ_model.specs.Log.{LogRow, Standing, Base, last_folded, is_active, numbers}
use Rattle.occ_model.specs.Validity.{window_low}

-- what a store is opened with: its sessions are 1 to `sessions`, and the last `keep` write sets are kept for testing
pub record Settings : Type 0 where
  pub schema : Schema
  pub sessions : ℕ
  pub keep : ℕ

-- a read phase under way: its start, and what was read so far (Kung and Robinson, section 2)
pub record ReadPhase : Type 0 where
  pub start : ℕ
  pub reads : List Observation

-- by session, then by number
abbrev pub phase_cmp : ℕ × ℕ → ℕ × ℕ → Ordering
phase_cmp = then_cmp (on (λ p. p.0) nat_cmp) (on (λ p. p.1) nat_cmp)

-- `counter` is the transaction counter (Kung and Robinson, section 4). `held` has the sessions whose transaction has entered and is neither finished nor backed up.
pub record World : Type 0 where
  pub settings : Settings
  pub base : Base
  pub log : List LogRow
  pub table : State
  pub counter : ℕ
  pub marks : FinMap nat_cmp ℕ
  pub phases : FinMap phase_cmp ReadPhase
  pub held : FinSet nat_cmp

abbrev pub empty_base : Base
empty_base = record { state = finite.empty; last = finite.empty; place = 0 }

-- a store that goes on from a base, with the counter where it stood
abbrev pub resumed : Settings → Base → ℕ → World
resumed settings base counter = record {
  settings = settings;
  base = base;
  log = [];
  table = base.state;
  counter = counter;
  marks = finite.empty;
  phases = finite.empty;
  held = sets.empty;
}

-- a store that was just opened
abbrev pub opened : Settings → World
opened settings = resumed settings empty_base 0

-- the lower end of the window, now
abbrev pub low : World → ℕ
low world = window_low world.counter world.settings.keep

-- the place of the next row to enter
abbrev pub next_place : World → ℕ
next_place world = world.base.place + length world.log

-- the latest row of a session in the log
abbrev pub latest : ℕ → List LogRow → Option LogRow
latest session [] = None
latest session (row ∷ rows) =
    elim (latest session rows) [ None ↦ if row.session == session then Some row else None | Some later ↦ Some later ]

-- the log with another standing for the latest row of a session
abbrev pub turn : ℕ → Standing → List LogRow → List LogRow
turn session standing [] = []
turn session standing (row ∷ rows) = elim (latest session rows) [
  | None ↦ (if row.session == session then record row { standing = standing } else row) ∷ rows
  | Some later ↦ row ∷ turn session standing rows
]

-- the number of the session's last transaction to enter, or 0
abbrev pub last_entered : World → ℕ → ℕ
last_entered world session =
    elim (latest session world.log) [ None ↦ last_folded world.base session | Some row ↦ row.number ]

-- how many transactions of the session entered, those that were folded too
abbrev pub entered_count : World → ℕ → ℕ
entered_count world session = last_folded world.base session + length (numbers session world.log)

-- the number that is due to enter
abbrev pub due : World → ℕ → ℕ
due world session = last_entered world session + 1

-- how many transactions are active
abbrev pub active_count : World → ℕ
active_count world = length (filter (λ row. is_active row.standing) world.log)

-- what was read under a number so far
abbrev pub reads_under : World → ℕ → ℕ → List Observation
reads_under world session number =
    elim (finite.get world.phases (session, number)) [ None ↦ [] | Some phase ↦ phase.reads ]

abbrev pub questions_under : World → ℕ → ℕ → List Question
questions_under world session number = map (λ o. o.0) (reads_under world session number)

abbrev pub has_session : World → ℕ → Bool
has_session world session = nat_le 1 session && nat_le session world.settings.sessions

abbrev pub has_mark : World → ℕ → Bool
has_mark world session = finite.contains_key world.marks session

abbrev pub has_phase : World → ℕ → ℕ → Bool
has_phase world session number = finite.contains_key world.phases (session, number)

abbrev pub is_held : World → ℕ → Bool
is_held world session = sets.contains world.held session
