use Rattle.std.proofs.Common.{◌≡◌, ◌≤◌, ◌+◌, [], ◌++◌, None, Ok, map, refl, sym, ap, ◌∙◌, append_assoc, arith}
use Rattle.std.proofs.lemmas.List.{append-nil}
use Rattle.std.specs.FinMap.{get, entries}
use Rattle.occ_types.specs.Object.{Object}
use Rattle.occ_print.specs.Books.{entry_line, rows_at}
use Rattle.occ_print.proofs.TableRows.{rows_from, rows_from-first, rows_from-split, rows_from-last}
use Rattle.occ_print.proofs.Printing.{failed, values_more, values_front, lines_same, Pushed-nothing}
use Rattle.occ_print.proofs.state_printing.print_all_rows.Goals as goal

pub loop-place-init : goal.loop-place-init
loop-place-init g c = record { done = []; whole = sym (rows_from-first c.args.tables.now.state); printed = Pushed-nothing _ _ }

pub returns-in_err-print_rows_at-clause-printed : goal.returns-in_err-print_rows_at-clause-printed
returns-in_err-print_rows_at-clause-printed g c =
    let r = c.from_residual.result in
    let state = c.args.tables.now.state in
    let place = c.loop-place.place in
    let done = c.loop-place.invariant.done in
    failed _ r _ _ _ _ _ c.from_residual.ensures.1
    (values_front (entry_line c.args.section c.args.schema.now) _ _ _ _ _ _ done (rows_at place state) (rows_from (place + 1) state) (entries state)
    (c.loop-place.invariant.whole ∙ ap (λ l. done ++ l) (rows_from-split place state)) c.loop-place.invariant.printed c.in_err-print_rows_at.ensures.printed)

pub loop-place-preserved : goal.loop-place-preserved
loop-place-preserved g c =
    let state = c.args.tables.now.state in
    let place = c.loop-place.place in
    let done = c.loop-place.invariant.done in
    record {
      done = done ++ rows_at place state;
      whole = c.loop-place.invariant.whole ∙ ap (λ l. done ++ l) (rows_from-split place state) ∙ sym (append_assoc done (rows_at place state) (rows_from (place + 1) state));
      printed = values_more (entry_line c.args.section c.args.schema.now) _ _ _ _ _ _ done (rows_at place state) _ refl c.loop-place.invariant.printed c.in_ok-print_rows_at.ensures.printed;
    }

pub returns-clause-printed : goal.returns-clause-printed
returns-clause-printed g c =
    let state = c.args.tables.now.state in
    let place = c.loop-place.place in
    let done = c.loop-place.invariant.done in
    let count = c.count-place-end.ensures.value in
    let past = c.loop-place-test.false in
    let none : (object : Object) → place ≤ object.0 → get state object ≡ None = λ object h. c.count-place-end.ensures.no_more object (omega arith) in
    let all : entries state ≡ done = c.loop-place.invariant.whole ∙ ap (λ l. done ++ l) (rows_from-last place state none) ∙ append-nil done in
    lines_same (Ok tt) _ _ _ _ _ _ (ap (map (entry_line c.args.section c.args.schema.now)) (sym all)) c.loop-place.invariant.printed
