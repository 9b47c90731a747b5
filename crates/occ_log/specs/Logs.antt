-- What clauses see of the log that a core keeps, and how its rows are found.
use Rattle.std.specs.Prelude.{◌≡◌, ℕ, ◌-◌, Bool, true, false, ◌&&◌, ◌==◌, nat_lt, List, [], map, filter, length, Option, None, if◌then◌else◌, slice_get, get_or, Vec}
use Rattle.occ_sets.specs.declared.log_rows.LogRow as code_row
use Rattle.occ_model.specs.Log.{Case, LogRow, Counts, numbers}
use Rattle.occ_log.specs.Listing.{Listed, listed_at, has_room}
use Rattle.occ_log.specs.Rows.{log_of}

pub record Kept : Type 0 where
  -- the place of the first row, in the order of entry
  pub first : ℕ
  pub rows : List LogRow
  -- how many sessions may have rows in it, numbered from one
  pub sessions : ℕ
  -- of each session, in order: one more row of it takes no memory
  pub free : List Bool

-- the row at a place in the order of entry
unfoldable pub row_at : Kept → ℕ → Option LogRow
row_at kept place = if nat_lt place kept.first then None else slice_get kept.rows (place - kept.first)

-- one more row of a session takes no memory
abbrev pub HasRoom : Kept → ℕ → Type 0
HasRoom kept session = get_or kept.free (session - 1) false ≡ true

-- a log without a row that begins at a place, for so many sessions
pub record IsBegun (place count : ℕ) (kept : Kept) : Type 0 where
  pub first : kept.first ≡ place
  pub rows : kept.rows ≡ []
  pub sessions : kept.sessions ≡ count

-- the log begins at a place, and so many sessions may have rows in it
pub record IsLogOf (kept : Kept) (place sessions : ℕ) : Type 0 where
  pub begins : kept.first ≡ place
  pub knows : kept.sessions ≡ sessions

-- a session's rows, in the order of entry
abbrev pub rows_of : ℕ → List LogRow → List LogRow
rows_of session rows = filter (λ row. row.session == session) rows

-- the places of some rows
abbrev pub places_of : List LogRow → List ℕ
places_of rows = map (λ row. row.place) rows

-- the numbers of each session stand without a gap
abbrev pub HaveNoGap : List LogRow → Type 0
HaveNoGap rows = (session : ℕ) → (first : ℕ) × Counts first (numbers session rows)

-- the rows have their places, from the first one on, and what is kept of each session has those of its rows
pub record AreListed (first : ℕ) (rows : List LogRow) (lists : List Listed) : Type 0 where
  pub placed : Counts first (places_of rows)
  pub listed : (session : ℕ) → (listed_at lists session).places ≡ places_of (rows_of session rows)

module _ {Z : Type 0} where
  -- the log, of the place of its first row, its rows, and what is kept of each session
  abbrev pub kept_of : ℕ → Vec (code_row.LogRow Z (ℕ × Case)) Z → List Listed → Kept
  kept_of first rows lists = record {
    first = first;
    rows = log_of rows.items;
    sessions = length lists;
    free = map (λ (list : Listed). list.free && has_room rows) lists;
  }
