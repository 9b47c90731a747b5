-- The book of a core, and what its keys, rows and write sets have to be so that a book has words for them.
use Rattle.std.specs.Prelude.{◌≡◌, ◌<◌, ◌≤◌, ◌^◌, ◌-◌, ℕ, Some, length, IfSome}
use Rattle.std.specs.List.{AllByRecursion}
use Rattle.std.specs.FinMap.{entries, get, len}
use Rattle.occ_types.specs.declared.limits.TheConstants.{MAX_NUMBER}
use Rattle.occ_types.specs.Question.{One, Span}
use Rattle.occ_model.specs.RangeLaws.{IsDistinctWrites}
use Rattle.occ_model.specs.State.{Observation, Write, Found, Rows}
use Rattle.occ_model.specs.Log.{LogRow}
use Rattle.occ_model.specs.World.{World, empty_base, next_place, low}
use Rattle.occ_text.specs.declared.versions.Version.{Version}
use Rattle.occ_text.specs.Headers.{Header, HeaderFits}
use Rattle.occ_text.specs.Spelling.{KeyFits, RowFits}
use Rattle.occ_print.specs.Books.{Book}
use Rattle.occ_reading.specs.RowLines.{EndsFit}

-- the book of a world under a header
abbrev pub book_in : Header → World → Book
book_in header world = record {
  header = header;
  base = world.base;
  log = world.log;
  marks = world.marks;
  state = world.table;
  counter = world.counter;
  low = low world;
}

-- a header of a world: within its limits, and with the world's sessions and tables
pub record IsHeaderOf (header : Header) (world : World) : Type 0 where
  pub fits : HeaderFits header
  pub sessions : header.sessions ≡ world.settings.sessions
  pub tables : header.tables ≡ world.settings.schema

-- What was folded can be told in numbers of 64 bits: places, and the last number of each session. And a book tells of a base in front of which a row stood.
pub record IsToldBase (world : World) : Type 0 where
  pub places : next_place world < 2 ^ 64
  pub numbers : (session number : ℕ) → get world.base.last session ≡ Some number → number ≤ MAX_NUMBER
  pub nothing : world.base.place ≡ 0 → world.base ≡ empty_base

-- Words are there for numbers of 64 bits and for texts of UTF-8, and in version 2 for keys of two parts and for missing ends. Of a read a book has no more rows than such a number counts.
abbrev pub ReadHasWords : Version → Observation → Type 0
ReadHasWords version (One table key, Found row) = KeyFits version key × IfSome row RowFits
ReadHasWords version (One table key, Rows rows) = Unit {0}
ReadHasWords version (Span table lower upper, Found row) = Unit {0}
ReadHasWords version (Span table lower upper, Rows rows) = EndsFit version (Span table lower upper) × AllByRecursion (λ pair. KeyFits version pair.0 × RowFits pair.1) rows × (length rows ≤ 2 ^ 64 - 1)

abbrev pub WriteHasWords : Version → Write → Type 0
WriteHasWords version write = KeyFits version write.0.1 × IfSome write.1 RowFits

-- a row of the log has words, and writes no object twice
pub record RowHasWords (version : Version) (row : LogRow) : Type 0 where
  pub reads : AllByRecursion (ReadHasWords version) row.reads
  pub writes : AllByRecursion (WriteHasWords version) row.writes
  pub count_writes : length row.writes ≤ 2 ^ 64 - 1
  pub distinct : IsDistinctWrites row.writes

-- all that a book tells of a world has words in a version
pub record HasWords (version : Version) (world : World) : Type 0 where
  pub log : AllByRecursion (RowHasWords version) world.log
  pub folded : len world.base.state ≤ 2 ^ 64 - 1
  pub base : AllByRecursion (λ entry. KeyFits version entry.0.1 × RowFits entry.1) (entries world.base.state)
  pub objects : len world.table ≤ 2 ^ 64 - 1
  pub state : AllByRecursion (λ entry. KeyFits version entry.0.1 × RowFits entry.1) (entries world.table)
