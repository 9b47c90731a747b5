use Rattle.std.proofs.Common.{ap}
use Rattle.occ_book.specs.Kept.{all_kept}
use Rattle.occ_book.proofs.Common.{Content}
use Rattle.occ_book.proofs.Undoing.{kept-more}
use Rattle.occ_book.proofs.tables.Tables.put_and_keep.Goals as goal

pub returns-clause-replaced : goal.returns-clause-replaced
returns-clause-replaced g c = λ start.
    kept-more start c.args.self.now.state c.exchange.new.self.state (all_kept c.args.kept.now) (all_kept c.reserve.new.self) (all_kept c.push_reserved.new.self) c.args.object c.in_ok-was.was' _
    c.reserve.ensures.same c.push_reserved.ensures c.in_ok-was.ensures.was (ap (λ (d : Content). d.state) c.in_ok-was.ensures.ok)
