use Rattle.std.proofs.Common.{sym, subst}
use Rattle.occ_model.specs.Log.{Audited}
use Rattle.occ_model.specs.World.{World}
use Rattle.occ_log.specs.Rows.{log_of}
use Rattle.occ_store.proofs.BooksAudited.{book_audited, is_book}
use Rattle.occ_store.specs.Books.{IsBookOf}
use Rattle.std.specs.Prelude.{IfOk}
use Rattle.occ_store.proofs.shared.Shared.book.Goals as goal

pub returns-clause-audited : goal.returns-clause-audited
returns-clause-audited g c = book_audited c.core.result.now.world (λ b. b.base.base) (λ b. b.marks.marks) (λ b. b.table.state) (λ b. log_of b.log.items) c.book.result c.book.ensures.base c.book.ensures.marks c.book.ensures.state c.book.ensures.log (subst (λ (w : World). Audited w.base w.marks w.table w.log) (sym c.core.ensures.world) c.law.ensures.audited)

pub returns-clause-shows : goal.returns-clause-shows
returns-clause-shows g c =
    let told = c.book.ensures in
    subst (λ (w : World). IfOk c.book.result (IsBookOf w)) c.core.ensures.world
    (is_book c.core.result.now.world c.book.result told.base told.base_tables told.base_sessions told.log told.state told.count told.marks told.sessions told.low told.tnc)
