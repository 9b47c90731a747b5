use Rattle.std.proofs.Common.{ap, sym, ◌∙◌, Some, refl}
use Rattle.std.proofs.lemmas.Result.{err_from_is_err_and}
use Rattle.occ_model.specs.Operations.{Progress}
use Rattle.occ_model.specs.Step.{refused}
use Rattle.occ_core.specs.Performed.{progress_of}
use Rattle.occ_sets.specs.Operations.{ops_of}
use Rattle.occ_core.specs.Replies.{ran}
use Rattle.occ_core.proofs.RunsAlone.{alone_room, alone_placed, alone_lawful, alone_returns}
use Rattle.occ_core.proofs.Replied.{replied_err}
use Rattle.occ_core.proofs.Tallies.{uncounted}
use Rattle.occ_core.proofs.core_state.Core.run.Goals as goal

pub returns-in_err-check_alone-clause-step : goal.returns-in_err-check_alone-clause-step
returns-in_err-check_alone-clause-step g c =
    let p = err_from_is_err_and c.from_residual.result c.from_residual.ensures.1 in
    replied_err ran _ _ _ _ p.0 p.1 (refused p.0 (sym c.in_err-check_alone.ensures ∙ ap Some (sym p.2)) refl refl)

pub commit_at_once-requires-clause-lawful : goal.commit_at_once-requires-clause-lawful
commit_at_once-requires-clause-lawful g c =
    alone_lawful c.args.self.now.world c.args.session c.args.number (ops_of c.args.operations.now) (sym c.in_ok-check_alone.ensures) c.tnc.result c.tnc.ensures (progress_of c.perform.new.done) c.in_ok-perform.ensures.performed (record { invariant = c.law.ensures.invariant; content = c.law.ensures.content })

pub commit_at_once-requires-clause-room : goal.commit_at_once-requires-clause-room
commit_at_once-requires-clause-room g c = alone_room c.args.self.now.world c.args.session c.args.number (ops_of c.args.operations.now) (sym c.in_ok-check_alone.ensures)

pub commit_at_once-requires-clause-placed : goal.commit_at_once-requires-clause-placed
commit_at_once-requires-clause-placed g c =
    alone_placed c.args.self.now.world c.args.session c.args.number (ops_of c.args.operations.now) (sym c.in_ok-check_alone.ensures) c.perform.new.done.writes (ap (λ (p : Progress). p.writes) c.in_ok-perform.ensures.performed)

pub returns-clause-step : goal.returns-clause-step
returns-clause-step g c =
    alone_returns c.args.self.now.world c.args.session c.args.number (ops_of c.args.operations.now) (sym c.in_ok-check_alone.ensures) c.tnc.result c.tnc.ensures (progress_of c.perform.new.done) c.in_ok-perform.ensures.performed
    c.in_ok-tn.tn c.in_ok-tn.ensures.number c.commit_at_once.new.self.world c.in_ok-tn.ensures.ok

pub returns-in_err-check_alone-clause-totals : goal.returns-in_err-check_alone-clause-totals
returns-in_err-check_alone-clause-totals g c =
    let p = err_from_is_err_and c.from_residual.result c.from_residual.ensures.1 in
    uncounted ran _ c.from_residual.result p.0 p.1

pub returns-in_err-perform-clause-totals : goal.returns-in_err-perform-clause-totals
returns-in_err-perform-clause-totals g c =
    let p = err_from_is_err_and c.from_residual-in_err-perform.result c.from_residual-in_err-perform.ensures.1 in
    uncounted ran _ c.from_residual-in_err-perform.result p.0 p.1

pub returns-in_err-tn-clause-totals : goal.returns-in_err-tn-clause-totals
returns-in_err-tn-clause-totals g c =
    let p = err_from_is_err_and c.from_residual-in_err-tn.result c.from_residual-in_err-tn.ensures.1 in
    ap (λ s. s.totals) c.in_err-tn.ensures.err
    ∙ uncounted ran _ c.from_residual-in_err-tn.result p.0 p.1
