use Rattle.std.proofs.Common.{length, ap, ◌∙◌, arith, length-append}
use Rattle.occ_book.proofs.Common.{marks_from}
use Rattle.occ_book.proofs.MarkViews.{marks_from-push, marked-none}
use Rattle.occ_book.proofs.marks.Marks.new.Goals as goal

pub loop-preserved : goal.loop-preserved
loop-preserved g c = record {
  counted = omega (arith, simp length-append at (ap length c.in_ok-push.ensures.items));
  empty = ap (marks_from 1) c.in_ok-push.ensures.items ∙ marks_from-push 1 c.loop.slots.items ∙ c.loop.invariant.empty;
}

pub returns-clause-empty : goal.returns-clause-empty
returns-clause-empty g c = marked-none c.loop.slots.items c.args.sessions (omega arith) c.loop.invariant.empty
