use Rattle.std.proofs.Common.{◌≡◌, ◌<◌, ◌+◌, ◌-◌, ap, sym, ◌∙◌, Some, arith, nat_lt}
use Rattle.std.specs.Prelude.{unwrap_or}
use Rattle.std.specs.Result.{result_err}
use Rattle.std.proofs.lemmas.Result.{err_from_is_err_and}
use Rattle.occ_types.specs.declared.fault.Fault.TheVariants.{NumbersExhausted}
use Rattle.occ_types.specs.declared.limits.TheConstants.{MAX_NUMBER}
use Rattle.occ_types.specs.Schema.{fault_if}
use Rattle.occ_core.proofs.Resumptions.{numbers_goes, numbers_stops, session_fits}
use Rattle.occ_core.proofs.resuming.check_numbers.Goals as goal

pub returns-in_err-check_number-clause-fault : goal.returns-in_err-check_number-clause-fault
returns-in_err-check_number-clause-fault g c =
    let p = err_from_is_err_and c.from_residual.result c.from_residual.ensures.1 in
    let count = c.sessions-place-end.ensures.value in
    let sessions = c.args.numbers.now.sessions in
    let less : c.loop-place.place < sessions = omega arith in
    ap result_err p.1
    ∙ sym (c.loop-place.invariant ∙ numbers_stops c.args.numbers.now.marks (c.loop-place.place + 1) (sessions - (c.loop-place.place + 1)) (sessions - c.loop-place.place) p.0 (omega arith)
    (ap (λ o. fault_if (nat_lt MAX_NUMBER (unwrap_or o 0)) NumbersExhausted) (sym c.get.ensures) ∙ sym c.in_err-check_number.ensures ∙ ap Some (sym p.2)))

pub returns-in_err-check_number-clause-sessions : goal.returns-in_err-check_number-clause-sessions
returns-in_err-check_number-clause-sessions g c = session_fits c.args.numbers.now.marks c.args.numbers.now.sessions c.sessions-place-end.ensures.listed

pub loop-place-preserved : goal.loop-place-preserved
loop-place-preserved g c =
    let count = c.sessions-place-end.ensures.value in
    let sessions = c.args.numbers.now.sessions in
    let less : c.loop-place.place < sessions = omega arith in
    c.loop-place.invariant ∙ numbers_goes c.args.numbers.now.marks (c.loop-place.place + 1) ((c.loop-place.place + 1) + 1) (sessions - (c.loop-place.place + 1)) (sessions - c.loop-place.place) (omega arith) (omega arith)
    (ap (λ o. fault_if (nat_lt MAX_NUMBER (unwrap_or o 0)) NumbersExhausted) (sym c.get.ensures) ∙ sym c.in_ok-check_number.ensures)

pub returns-clause-sessions : goal.returns-clause-sessions
returns-clause-sessions g c = session_fits c.args.numbers.now.marks c.args.numbers.now.sessions c.sessions-place-end.ensures.listed
