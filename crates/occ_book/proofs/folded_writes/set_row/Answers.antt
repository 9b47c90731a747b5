use Rattle.std.proofs.Common.{IsSome, length, refl, sym, ap, subst}
use Rattle.occ_book.proofs.Common.{apply}
use Rattle.occ_sets.specs.PlainSets.{writes_of}
use Rattle.occ_book.proofs.FoldedEntries.{set-done, set-objects, due-past, past-none}
use Rattle.occ_book.proofs.folded_writes.set_row.Goals as goal

pub returns-in-Some-clause-objects : goal.returns-in-Some-clause-objects
returns-in-Some-clause-objects g c = set-objects c.args.map.now c.args.place c.args.row

pub returns-in-Some-clause-done : goal.returns-in-Some-clause-done
returns-in-Some-clause-done g c = λ state.
    set-done c.args.map.now c.args.place c.args.row c.get_index_mut.ensures.unique (c.get_index_mut.ensures.found.0 (subst IsSome (sym c.in-Some.is) refl)) state

pub returns-in_default-clause-done : goal.returns-in_default-clause-done
returns-in_default-clause-done g c = λ state.
    sym (ap (apply (apply state (writes_of c.args.map.now.entries))) (due-past c.args.map.now.entries c.args.place c.args.row
    (past-none c.get_index_mut.result c.args.place (length c.args.map.now.entries) c.in_default.is c.get_index_mut.ensures.found.1)))
