use Rattle.std.proofs.Common.{length, ap, ◌∙◌, arith, length-append}
use Rattle.occ_book.proofs.Common.{placed_from}
use Rattle.occ_book.proofs.Views.{placed_from-push, content-empty}
use Rattle.occ_book.proofs.tables.Tables.new.Goals as goal

pub loop-preserved : goal.loop-preserved
loop-preserved g c = record {
  counted = omega (arith, simp length-append at (ap length c.in_ok-push.ensures.items));
  empty = ap (placed_from 0) c.in_ok-push.ensures.items ∙ placed_from-push 0 c.loop.tables.items c.in_ok-new.field-0 c.in_ok-new.ensures ∙ c.loop.invariant.empty;
}

pub returns-clause-empty : goal.returns-clause-empty
returns-clause-empty g c = content-empty c.loop.tables.items c.args.count (omega arith) c.loop.invariant.empty
