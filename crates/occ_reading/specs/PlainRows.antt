-- The plain rows of a log that was read from a text, which tells nothing of the case of an open row.
use Rattle.std.specs.Prelude.{ℕ, List, [], map}
use Rattle.occ_model.specs.Log.{Case, LogRow}
use Rattle.occ_sets.specs.LogRows as books
use Rattle.occ_sets.specs.declared.log_rows.LogRow as code_row

-- an open row is seen with a case of nothing
abbrev pub without_case : Unit {0} → ℕ × Case
without_case held = (0, record { start = 0; low = 0; reads = []; writes = []; finished = []; active = [] })

module _ {Z : Type 0} where
  abbrev pub log_row_of : code_row.LogRow Z (Unit {0}) → LogRow
  log_row_of row = books.log_row_of without_case row

  abbrev pub log_of : List (code_row.LogRow Z (Unit {0})) → List LogRow
  log_of = map log_row_of
