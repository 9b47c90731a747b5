-- What clauses see of the log's rows and of the sessions: the plain data of the model.
use Rattle.std.specs.Prelude.{ℕ, List, map}
use Rattle.std.specs.Option.{option_map}
use Rattle.occ_model.specs.Log.{Case, LogRow, Standing}
use Rattle.occ_sets.specs.LogRows as books
use Rattle.occ_sets.specs.declared.log_rows.Standing as code_standing
use Rattle.occ_sets.specs.declared.log_rows.LogRow as code_row
use Rattle.occ_log.specs.SessionStates.{Slot, Hold}
use Rattle.occ_log.specs.declared.sessions.Held as code_held
use Rattle.occ_log.specs.declared.sessions.SessionState as code_session

-- what is held of an open row: the index of its case, and the case
abbrev pub opened : ℕ × Case → ℕ × Case
opened open_case = open_case

-- the plain standing
abbrev pub standing_of : code_standing.Standing (ℕ × Case) → Standing
standing_of = books.standing_of opened

module _ {Z : Type 0} where
  -- the plain row
  abbrev pub log_row_of : code_row.LogRow Z (ℕ × Case) → LogRow
  log_row_of = books.log_row_of opened

  abbrev pub log_of : List (code_row.LogRow Z (ℕ × Case)) → List LogRow
  log_of = books.log_of opened

  -- the plain hold
  abbrev pub hold_of : code_held.Held Z → Hold
  hold_of h = record { place = h.place; writes = h.writes }

  -- the plain slot
  abbrev pub slot_of : code_session.SessionState Z → Slot
  slot_of s = record { last = s.last; hold = option_map hold_of s.held }

  abbrev pub slots_of : List (code_session.SessionState Z) → List Slot
  slots_of = map slot_of
