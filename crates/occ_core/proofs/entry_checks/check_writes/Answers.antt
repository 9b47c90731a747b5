use Rattle.std.proofs.Common.{◌<◌, length, ap, sym, ◌∙◌, Some, arith}
use Rattle.std.specs.Result.{result_err}
use Rattle.std.proofs.lemmas.Result.{err_from_is_err_and}
use Rattle.occ_core.proofs.Entries.{checks_first, checks_next}
use Rattle.occ_core.proofs.entry_checks.check_writes.Goals as goal

pub returns-in_err-check_write : goal.returns-in_err-check_write
returns-in_err-check_write g c =
    let p = err_from_is_err_and c.from_residual.result c.from_residual.ensures.1 in
    ap result_err p.1 ∙ sym (checks_first c.args.schema.now c.args.writes.now c.loop-place.place p.0 (sym c.in_err-check_write.ensures ∙ ap Some (sym p.2))) ∙ c.loop-place.invariant

pub loop-place-preserved : goal.loop-place-preserved
loop-place-preserved g c =
    let less : c.loop-place.place < length c.args.writes.now = omega arith in
    sym (checks_next c.args.schema.now c.args.writes.now c.loop-place.place (sym c.in_ok-check_write.ensures) less) ∙ c.loop-place.invariant
