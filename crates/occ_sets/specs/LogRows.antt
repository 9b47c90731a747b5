-- What clauses see of the log's rows: the plain rows of the model, where it is known how what is held of an open row is seen.
use Rattle.std.specs.Prelude.{◌≡◌, ℕ, List, map}
use Rattle.occ_model.specs.Log.{Case, LogRow, Standing, Open, Writing, Done, Back}
use Rattle.occ_sets.specs.declared.log_rows.Standing as code_standing
use Rattle.occ_sets.specs.declared.log_rows.Standing.TheVariants as standings
use Rattle.occ_sets.specs.declared.log_rows.LogRow as code_row

module _ {O : Type 0} where
  -- the plain standing
  abbrev pub standing_of : (O → ℕ × Case) → code_standing.Standing O → Standing
  standing_of opened (standings.Open held) = Open (opened held).0 (opened held).1
  standing_of opened (standings.Writing done) = Writing done
  standing_of opened (standings.Done number) = Done number
  standing_of opened (standings.Back cause) = Back cause

  -- a copy of a standing, where what is held of an open row is copied so
  abbrev pub IsStandingCopy : (O → O → Type 0) → code_standing.Standing O → code_standing.Standing O → Type 0
  IsStandingCopy IsCopy (standings.Open held) copy = (another : O) × (copy ≡ standings.Open another) × IsCopy held another
  IsStandingCopy IsCopy (standings.Writing done) copy = copy ≡ standings.Writing done
  IsStandingCopy IsCopy (standings.Done number) copy = copy ≡ standings.Done number
  IsStandingCopy IsCopy (standings.Back cause) copy = copy ≡ standings.Back cause

module _ {Z O : Type 0} where
  -- the plain row
  abbrev pub log_row_of : (O → ℕ × Case) → code_row.LogRow Z O → LogRow
  log_row_of opened r = record {
    place = r.place;
    session = r.session;
    number = r.number;
    start = r.start;
    finish = r.finish;
    reads = r.reads;
    writes = r.writes;
    standing = standing_of opened r.standing;
  }

  -- the plain rows, in their order
  abbrev pub log_of : (O → ℕ × Case) → List (code_row.LogRow Z O) → List LogRow
  log_of opened = map (log_row_of opened)

  -- a copy of a row: its standing is a copy, and all else is the same
  pub record IsRowCopy (IsCopy : O → O → Type 0) (row copy : code_row.LogRow Z O) : Type 0 where
    pub standing : IsStandingCopy IsCopy row.standing copy.standing
    pub others : ◌≡◌ {A = code_row.LogRow Z O} (record copy { standing = row.standing }) row
