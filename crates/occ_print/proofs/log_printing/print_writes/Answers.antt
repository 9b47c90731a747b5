use Rattle.occ_print.specs.Books.{write_line}
use Rattle.occ_print.proofs.Printing.{failed, next_more, next_front}
use Rattle.occ_print.proofs.log_printing.print_writes.Goals as goal

pub returns-in_err-print_write_at-clause-printed : goal.returns-in_err-print_write_at-clause-printed
returns-in_err-print_write_at-clause-printed g c =
    failed _ c.from_residual.result _ _ _ _ _ c.from_residual.ensures.1
    (next_front (write_line c.args.schema.now) _ _ _ _ _ _ c.args.writes.now c.loop-place.place c.loop-place.invariant c.in_err-print_write_at.ensures.printed)

pub loop-place-preserved : goal.loop-place-preserved
loop-place-preserved g c =
    next_more (write_line c.args.schema.now) _ _ _ _ _ _ c.args.writes.now c.loop-place.place c.loop-place.invariant c.in_ok-print_write_at.ensures.printed
