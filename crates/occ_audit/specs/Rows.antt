-- The plain rows as the audit sees them: what is held of an open row is not asked for.
use Rattle.std.specs.Prelude.{ℕ, List, [], map}
use Rattle.occ_model.specs.Log.{Case, LogRow, Standing}
use Rattle.occ_sets.specs.LogRows as books
use Rattle.occ_sets.specs.declared.log_rows.Standing as code_standing
use Rattle.occ_sets.specs.declared.log_rows.LogRow as code_row

-- a case of nothing
abbrev pub no_case : Case
no_case = record { start = 0; low = 0; reads = []; writes = []; finished = []; active = [] }

module _ {O : Type 0} where
  -- whatever is held of an open row, it is seen as a case of nothing
  abbrev pub unasked : O → ℕ × Case
  unasked held = (0, no_case)

  abbrev pub standing_of : code_standing.Standing O → Standing
  standing_of standing = books.standing_of unasked standing

module _ {Z O : Type 0} where
  abbrev pub log_row_of : code_row.LogRow Z O → LogRow
  log_row_of row = books.log_row_of unasked row

  abbrev pub log_of : List (code_row.LogRow Z O) → List LogRow
  log_of = map log_row_of
