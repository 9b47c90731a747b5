use Rattle.std.proofs.Common.{◌≡◌, ◌∙◌, length, ap}
use Rattle.occ_book.specs.Kept.{all_kept}
use Rattle.occ_book.proofs.Undoing.{kept-less, kept-none}
use Rattle.occ_book.proofs.tables.Tables.take_back.Goals as goal

pub loop-object-preserved : goal.loop-object-preserved
loop-object-preserved g c = record {
  tables = c.set_back.ensures.tables ∙ c.loop-object.invariant.tables;
  replaced = λ start done.
      kept-less start c.loop-object.self.state c.set_back.new.self.state (all_kept c.loop-object.kept) (all_kept c.pop.new.self) c.in-Some.object c.in-Some.row c.in-Some.ensures c.set_back.ensures.state (c.loop-object.invariant.replaced start done);
}

pub returns-clause-back : goal.returns-clause-back
returns-clause-back g c = λ start done.
    let none : length (all_kept c.loop-object.kept) ≡ 0 = ap length c.in_default.ensures in
    kept-none start c.loop-object.self.state (all_kept c.loop-object.kept) none (c.loop-object.invariant.replaced start done)
