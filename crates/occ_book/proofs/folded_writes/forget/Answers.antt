use Rattle.occ_book.proofs.FoldedEntries.{gone-same, gone-placed}
use Rattle.occ_book.proofs.folded_writes.forget.Goals as goal

pub returns-then-is_gone-clause-same : goal.returns-then-is_gone-clause-same
returns-then-is_gone-clause-same g c =
    let gone = c.is_gone.ensures c.if-is_gone.true in
    gone-same c.args.origin.now.state c.args.map.now c.swap_remove-gone.new.self c.args.object.now c.len-objects.ensures.unique c.swap_remove-gone.ensures.unique c.swap_remove-gone.ensures.updates.0 gone.1 gone.0

pub returns-then-is_gone-clause-placed : goal.returns-then-is_gone-clause-placed
returns-then-is_gone-clause-placed g c = λ tables.
    gone-placed tables c.args.map.now c.swap_remove-gone.new.self c.args.object.now c.swap_remove-gone.ensures.updates.0
