use Rattle.std.proofs.Common.{◌++◌, ap, ◌∙◌}
use Rattle.std.proofs.lemmas.List.{map-append}
use Rattle.occ_book.proofs.TableRanges.{all-pushed, pushed}
use Rattle.occ_audit.proofs.Common.{rows_of, seen}
use Rattle.occ_audit.proofs.answers.copies.Goals as goal

pub loop-key-init : goal.loop-key-init
loop-key-init g c =
    ap (λ copies. rows_of copies ++ c.into_iter-key-iterator.result) c.new-copies.ensures.items ∙ c.into_iter-key-iterator.ensures.into_iter_gives

pub loop-key-preserved : goal.loop-key-preserved
loop-key-preserved g c =
    pushed (rows_of c.loop-key.copies.items) (rows_of c.push.new.self.items) c.args.rows c.loop-key.key-iterator c.next.new.self _ _ c.loop-key.invariant c.in-Some.ensures.steps
    (ap rows_of c.in_ok-push.ensures.items ∙ map-append seen c.loop-key.copies.items _)
    (λ i. (c.in_ok-to_key.ensures i, c.in_ok-clone.ensures.cases i))

pub returns : goal.returns
returns g c = all-pushed (rows_of c.loop-key.copies.items) c.args.rows c.loop-key.key-iterator c.loop-key.invariant c.in-None.ensures.steps.0
