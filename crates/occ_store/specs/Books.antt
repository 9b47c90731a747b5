-- What a book of a store shows (our own choice).
use Rattle.std.specs.Prelude.{◌≡◌, ℕ, length}
use Rattle.occ_model.specs.Log.{Case, Audited}
use Rattle.occ_model.specs.World.{World, low}
use Rattle.occ_log.specs.Rows.{log_of}
use Rattle.occ_book.specs.declared.books.Book as code_book

-- A book of a state has all that the state has, of all its tables and sessions, and tells the lower end of its window.
pub record IsBookOf {Z : Type 0} (world : World) (book : code_book.Book Z (ℕ × Case)) : Type 0 where
  pub base : book.base.base ≡ world.base
  pub base_tables : book.base.tables ≡ length world.settings.schema
  pub base_sessions : book.base.sessions ≡ world.settings.sessions
  pub log : log_of book.log.items ≡ world.log
  pub state : book.table.state ≡ world.table
  pub tables : book.table.tables ≡ length world.settings.schema
  pub marks : book.marks.marks ≡ world.marks
  pub sessions : book.marks.sessions ≡ world.settings.sessions
  pub low_end : book.low ≡ low world
  pub counter : book.tnc ≡ world.counter
