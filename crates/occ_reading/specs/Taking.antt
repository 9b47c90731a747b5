-- Taking the lines of a book from an input.
use Rattle.std.specs.Prelude.{◌≡◌, ◌≤◌, ◌^◌, ◌-◌, ℕ, Bool, true, false, List, [], ◌∷◌, ◌++◌, length, Option, Some, None, codes}
use Rattle.std.specs.List.{AllByRecursion}
use Rattle.std.specs.FinMap.{len}
use Rattle.occ_types.specs.Key.{Key, key_cmp}
use Rattle.std.specs.Ordering.{is_lt}
use Rattle.occ_types.specs.Object.{Object, object_cmp}
use Rattle.occ_types.specs.Question.{One, Span}
use Rattle.occ_types.specs.Row.{Row}
use Rattle.occ_types.specs.Schema.{Schema}
use Rattle.occ_model.specs.State.{Observation, Write, Found, Rows}
use Rattle.occ_model.specs.RangeLaws.{IsDistinctWrites}
use Rattle.occ_print.specs.Books.{base_line, base_lines, row_count}
use Rattle.occ_model.specs.Log.{Case, LogRow, Base, Standing, Open, Writing, Done, Back}
use Rattle.occ_sets.specs.declared.log_rows.Standing.TheVariants as stands
use Rattle.occ_text.specs.declared.versions.Version.{Version}
use Rattle.occ_text.specs.Headers.{count_text}
use Rattle.occ_reading.specs.declared.number_lines.Head.{Head}
use Rattle.occ_reading.specs.declared.number_lines.BaseHead.{BaseHead}
use Rattle.occ_reading.specs.NumberLines.{IsSession, Stand, base_text}
use Rattle.occ_reading.specs.RowLines.{ObjectFits, FoundFits, SpanFits, PairFits, WriteFits}

-- an object comes behind another one, if there is one
abbrev pub is_behind : Option Object → Object → Bool
is_behind None object = true
is_behind (Some last) object = is_lt (object_cmp last object)

-- ---- what fits a header

-- keys that rise, from the one before them if there is one
abbrev pub RisesFrom : Option Key → List (Key × Row) → Type 0
RisesFrom last [] = Unit {0}
RisesFrom None (pair ∷ pairs) = RisesFrom (Some pair.0) pairs
RisesFrom (Some last) (pair ∷ pairs) = (is_lt (key_cmp last pair.0) ≡ true) × RisesFrom (Some pair.0) pairs

-- a read that a book may have: a row of its table, or rows of it, by rising keys, for a range whose ends the version has words for
abbrev pub ReadFits : Version → Schema → Observation → Type 0
ReadFits version schema (One table key, Found row) = ObjectFits version schema (table, key) × FoundFits schema table row
ReadFits version schema (One table key, Rows rows) = ⊥
ReadFits version schema (Span table lower upper, Found row) = ⊥
ReadFits version schema (Span table lower upper, Rows rows) = SpanFits version schema (Span table lower upper) × AllByRecursion (PairFits version schema table) rows × RisesFrom None rows × (length rows ≤ 2 ^ 64 - 1)

-- no more writes are done than there are, and a number has 64 bits
abbrev pub StandingFits : ℕ → Standing → Type 0
StandingFits writes (Open index case) = Unit {0}
StandingFits writes (Writing done) = done ≤ writes
StandingFits writes (Done number) = number ≤ 2 ^ 64 - 1
StandingFits writes (Back cause) = Unit {0}

-- a row of the log that a book of this header may have: numbers of 64 bits, as many reads and writes as such a number counts, and no object written twice
pub record LogRowFits (version : Version) (schema : Schema) (sessions : ℕ) (row : LogRow) : Type 0 where
  pub place : row.place ≤ 2 ^ 64 - 1
  pub session : IsSession sessions row.session
  pub number : row.number ≤ 2 ^ 64 - 1
  pub start : row.start ≤ 2 ^ 64 - 1
  pub finish : row.finish ≤ 2 ^ 64 - 1
  pub count_reads : length row.reads ≤ 2 ^ 64 - 1
  pub count_writes : length row.writes ≤ 2 ^ 64 - 1
  pub done : StandingFits (length row.writes) row.standing
  pub reads : AllByRecursion (ReadFits version schema) row.reads
  pub writes : AllByRecursion (WriteFits version schema) row.writes
  pub distinct : IsDistinctWrites row.writes

-- ---- many of a kind

-- so many, each of which fits
abbrev pub AllFit : {Y : Type 0} → (Y → Type 0) → ℕ → List Y → Type 0
AllFit fits count ys = AllByRecursion fits ys × (length ys ≡ count)

-- ---- rows of the log

-- a standing of the log is what a row's first line says; a case is not told
abbrev pub StandsSo : Stand → Standing → Type 0
StandsSo (stands.Open held) standing = (index : ℕ) × (case : Case) × (standing ≡ Open index case)
StandsSo (stands.Writing done) standing = standing ≡ Writing done
StandsSo (stands.Done number) standing = standing ≡ Done number
StandsSo (stands.Back cause) standing = standing ≡ Back cause

-- the row of a first line, its reads and its writes
pub record IsRowOf (head : Head) (reads : List Observation) (writes : List Write) (row : LogRow) : Type 0 where
  pub place : row.place ≡ head.place
  pub session : row.session ≡ head.session
  pub number : row.number ≡ head.number
  pub start : row.start ≡ head.start
  pub finish : row.finish ≡ head.finish
  pub read : row.reads ≡ reads
  pub written : row.writes ≡ writes
  pub stands : StandsSo head.standing row.standing

-- ---- a base

-- the base of a first line
pub record IsBaseOf (head : BaseHead) (base : Base) : Type 0 where
  pub spelled : base_text head ≡ base_line base.place (len base.last) (row_count base.state)
  pub place : base.place ≡ head.place

-- what stands in front of the rows of a log: what was folded, and how many rows there are
abbrev pub front_lines : Schema → Base → ℕ → List (List ℕ)
front_lines schema base rows = base_lines schema base ++ count_text (codes "log") rows ∷ []

abbrev pub but_first : List (List ℕ) → List (List ℕ)
but_first [] = []
but_first (line ∷ lines) = lines
