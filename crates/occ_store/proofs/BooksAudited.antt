-- A book of a world that passes the audit passes it, and what a book shows.
use Rattle.std.proofs.Common.{◌≡◌, ℕ, List, length, Result, Ok, Err, IfOk, sym, subst}
use Rattle.std.specs.FinMap.{FinMap}
use Rattle.std.specs.Ordering.{nat_cmp}
use Rattle.occ_types.specs.declared.fault.Fault.{Fault}
use Rattle.occ_model.specs.State.{State}
use Rattle.occ_model.specs.Log.{Case, LogRow, Base, Audited}
use Rattle.occ_model.specs.World.{World, low}
use Rattle.occ_log.specs.Rows.{log_of}
use Rattle.occ_book.specs.declared.books.Book as code_book
use Rattle.occ_store.specs.Books.{IsBookOf}

module _ {B : Type 0} (world : World) (base : B → Base) (marks : B → FinMap nat_cmp ℕ) (table : B → State) (log : B → List LogRow) where
  pub book_audited : (result : Result B Fault) → IfOk result (λ book. base book ≡ world.base) → IfOk result (λ book. marks book ≡ world.marks) → IfOk result (λ book. table book ≡ world.table)
      → IfOk result (λ book. log book ≡ world.log) → Audited world.base world.marks world.table world.log → IfOk result (λ book. Audited (base book) (marks book) (table book) (log book))
  book_audited (Ok book) b m t l audited = transport b m t l audited
    where
      transport : base book ≡ world.base → marks book ≡ world.marks → table book ≡ world.table → log book ≡ world.log → Audited world.base world.marks world.table world.log
          → Audited (base book) (marks book) (table book) (log book)
      transport b m t l a =
          subst (λ x. Audited x (marks book) (table book) (log book)) (sym b)
          (subst (λ x. Audited world.base x (table book) (log book)) (sym m) (subst (λ x. Audited world.base world.marks x (log book)) (sym t) (subst (λ x. Audited world.base world.marks world.table x) (sym l) a)))
  book_audited (Err fault) b m t l audited = tt

module _ {Z : Type 0} (world : World) where
  pub is_book : (result : Result (code_book.Book Z (ℕ × Case)) Fault) → IfOk result (λ book. book.base.base ≡ world.base) → IfOk result (λ book. book.base.tables ≡ length world.settings.schema)
      → IfOk result (λ book. book.base.sessions ≡ world.settings.sessions) → IfOk result (λ book. log_of book.log.items ≡ world.log) → IfOk result (λ book. book.table.state ≡ world.table)
      → IfOk result (λ book. book.table.tables ≡ length world.settings.schema) → IfOk result (λ book. book.marks.marks ≡ world.marks) → IfOk result (λ book. book.marks.sessions ≡ world.settings.sessions)
      → IfOk result (λ book. book.low ≡ low world) → IfOk result (λ book. book.tnc ≡ world.counter) → IfOk result (IsBookOf world)
  is_book (Ok book) base base_tables base_sessions log state tables marks sessions low_end counter = record {
    base = base;
    base_tables = base_tables;
    base_sessions = base_sessions;
    log = log;
    state = state;
    tables = tables;
    marks = marks;
    sessions = sessions;
    low_end = low_end;
    counter = counter;
  }
  is_book (Err fault) base base_tables base_sessions log state tables marks sessions low_end counter = tt
