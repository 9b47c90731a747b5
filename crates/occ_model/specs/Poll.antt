-- What a poll may show of a session: how far its transactions have come (our own choice).
use Rattle.std.specs.Prelude.{◌≡◌, ℕ, ◌-◌, ◌≤◌, ◌&&◌, ◌==◌, List, [], ◌∷◌, Option, None, Some, if◌then◌else◌, option_and_then}
use Rattle.occ_model.specs.Log.{LogRow, Standing, Open, Writing, Done, Back}
use Rattle.occ_model.specs.World.{World, last_entered, is_held}
use Rattle.occ_model.specs.declared.verdict.Verdict.{Verdict}
use Rattle.occ_model.specs.declared.verdict.Verdict.TheVariants.{Commit, BackUp}

-- The number of the last transaction of a session that is over: all that entered are, but for one that is held.
abbrev pub settled_number : World → ℕ → ℕ
settled_number world session =
    if is_held world session then last_entered world session - 1 else last_entered world session

-- the row of a session with a number
abbrev pub row_numbered : ℕ → ℕ → List LogRow → Option LogRow
row_numbered session number [] = None
row_numbered session number (row ∷ rows) =
    if row.session == session && row.number == number then Some row else row_numbered session number rows

-- how a transaction ended that is over
abbrev pub outcome : Standing → Option Verdict
outcome (Open index case) = None
outcome (Writing done) = None
outcome (Done number) = Some Commit
outcome (Back cause) = Some (BackUp cause)

-- the transaction number of one that finished
abbrev pub done_number : Standing → Option ℕ
done_number (Open index case) = None
done_number (Writing done) = None
done_number (Done number) = Some number
done_number (Back cause) = None

-- the transaction number of a session's last transaction to finish, of those whose rows stand in the log
abbrev pub last_done : ℕ → List LogRow → Option ℕ
last_done session [] = None
last_done session (row ∷ rows) = elim (last_done session rows) [
  | None ↦ if row.session == session then done_number row.standing else None
  | Some later ↦ Some later
]

-- What a poll shows: the transaction counter; the number of the session's last transaction that is over, and how it ended; and the transaction number of the session's last one to finish. The last two are shown while the row stands in the log.
pub record Poll : Type 0 where
  pub counter : ℕ
  pub settled : ℕ
  pub ended : Option Verdict
  pub finished : Option ℕ

abbrev pub poll : World → ℕ → Poll
poll world session = record {
  counter = world.counter;
  settled = settled_number world session;
  ended = option_and_then (λ row. outcome row.standing) (row_numbered session (settled_number world session) world.log);
  finished = last_done session world.log;
}

-- a later poll shows no less
pub record Rises (old new : Poll) : Type 0 where
  pub counter : old.counter ≤ new.counter
  pub settled : old.settled ≤ new.settled
  pub finished : (before after : ℕ) → old.finished ≡ Some before → new.finished ≡ Some after → before ≤ after
