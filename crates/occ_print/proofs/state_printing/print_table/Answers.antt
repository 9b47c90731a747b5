use Rattle.std.proofs.Common.{[], ◌∷◌, ◌++◌, Ok, map, sym, ap, ◌∙◌}
use Rattle.std.proofs.lemmas.List.{append-nil}
use Rattle.occ_book.specs.Content.{placed}
use Rattle.occ_book.specs.KeyRefs.{key_lent}
use Rattle.occ_print.specs.Books.{entry_line}
use Rattle.occ_print.proofs.Printing.{failed, values_more, values_front, lines_same}
use Rattle.occ_print.proofs.TableRows.{shown, so-far, placed_more, placed_amid}
use Rattle.occ_print.proofs.state_printing.print_table.Goals as goal

pub returns-in_err-print_lent-clause-printed : goal.returns-in_err-print_lent-clause-printed
returns-in_err-print_lent-clause-printed g c =
    let r = c.from_residual.result in
    let place = c.args.place in
    failed _ r _ _ _ _ _ c.from_residual.ensures.1
    (values_front (entry_line c.args.section c.args.schema.now) _ _ _ _ _ _ (placed place (map shown c.loop-key.yielded)) (((place, key_lent c.in-Some.key), c.in-Some.row.now) ∷ []) (placed place c.next.new.self) (placed place c.args.rows)
    (placed_amid place c.args.rows c.into_iter-key-iterator.result c.loop-key.key-iterator c.next.new.self c.loop-key.yielded (c.in-Some.key, c.in-Some.row) c.into_iter-key-iterator.ensures.into_iter_gives (so-far c.loop-key.yielded c.into_iter-key-iterator.result c.loop-key.key-iterator c.loop-key.yielded_by) c.in-Some.ensures.steps)
    c.loop-key.invariant c.in_err-print_lent.ensures.printed)

pub loop-key-preserved : goal.loop-key-preserved
loop-key-preserved g c =
    let place = c.args.place in
    values_more (entry_line c.args.section c.args.schema.now) _ _ _ _ _ _ (placed place (map shown c.loop-key.yielded)) (((place, key_lent c.in-Some.key), c.in-Some.row.now) ∷ []) _
    (placed_more place c.loop-key.yielded (c.in-Some.key, c.in-Some.row))
    c.loop-key.invariant c.in_ok-print_lent.ensures.printed

pub returns-clause-printed : goal.returns-clause-printed
returns-clause-printed g c =
    let past = so-far c.loop-key.yielded c.into_iter-key-iterator.result c.loop-key.key-iterator c.loop-key.yielded_by in
    let all = sym (append-nil (map shown c.loop-key.yielded)) ∙ ap (λ es. map shown c.loop-key.yielded ++ es) (sym c.in-None.ensures.steps.0) ∙ sym past ∙ c.into_iter-key-iterator.ensures.into_iter_gives in
    lines_same (Ok tt) _ _ _ _ _ _
    (ap (λ es. map (entry_line c.args.section c.args.schema.now) (placed c.args.place es)) all)
    c.loop-key.invariant
