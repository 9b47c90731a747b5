use Rattle.std.proofs.Common.{MatchResult, refl, sym, subst, ◌∙◌, option_copied}
use Rattle.std.proofs.lemmas.Result.{err_from_is_err_and}
use Rattle.occ_sets.specs.Operations.{ops_of}
use Rattle.occ_queue.specs.Items.{item_of}
use Rattle.occ_model.specs.Event.{Alone}
use Rattle.occ_core.specs.declared.steps.Step.TheVariants as steps
use Rattle.occ_core.specs.Runs.{Answers}
use Rattle.occ_core.proofs.Replied.{refused_as, refused_back}
use Rattle.occ_core.proofs.core_state.Core.answer.Goals as goal

pub returns-in_err-read-in-Read : goal.returns-in_err-read-in-Read
returns-in_err-read-in-Read g c =
    let p = err_from_is_err_and c.from_residual.result c.from_residual.ensures.1 in
    refused_as c.args.self.now c.args.step (steps.Read c.in-Read.session c.in-Read.number c.in-Read.start c.in-Read.table c.in-Read.key) _ _ c.from_residual.result p.0 c.in-Read.is p.1 p.2 c.in_err-read-in-Read.ensures.step c.in_err-read-in-Read.ensures.totals refl

pub returns-in_err-scan-in-Scan : goal.returns-in_err-scan-in-Scan
returns-in_err-scan-in-Scan g c =
    let p = err_from_is_err_and c.from_residual-in_err-scan-in-Scan.result c.from_residual-in_err-scan-in-Scan.ensures.1 in
    refused_as c.args.self.now c.args.step (steps.Scan c.in-Scan.session c.in-Scan.number c.in-Scan.start c.in-Scan.table (option_copied c.as_ref.result) (option_copied c.as_ref-in-Scan.result)) _ _ c.from_residual-in_err-scan-in-Scan.result p.0
    (c.in-Scan.is ∙ (λ i. steps.Scan c.in-Scan.session c.in-Scan.number c.in-Scan.start c.in-Scan.table (sym c.as_ref.ensures.value i) (sym c.as_ref-in-Scan.ensures.value i)))
    p.1 p.2 c.in_err-scan-in-Scan.ensures.step c.in_err-scan-in-Scan.ensures.totals refl

pub returns-in_err-forget-in-Forget : goal.returns-in_err-forget-in-Forget
returns-in_err-forget-in-Forget g c =
    let p = err_from_is_err_and c.from_residual-in_err-forget-in-Forget.result c.from_residual-in_err-forget-in-Forget.ensures.1 in
    refused_as c.args.self.now c.args.step (steps.Forget c.in-Forget.session c.in-Forget.number) _ _ c.from_residual-in_err-forget-in-Forget.result p.0 c.in-Forget.is p.1 p.2 c.in_err-forget-in-Forget.ensures.step c.in_err-forget-in-Forget.ensures.totals refl

pub returns-in_err-decide-in-Decide : goal.returns-in_err-decide-in-Decide
returns-in_err-decide-in-Decide g c =
    let p = err_from_is_err_and c.from_residual-in_err-decide-in-Decide.result c.from_residual-in_err-decide-in-Decide.ensures.1 in
    refused_as c.args.self.now c.args.step (steps.Decide c.in-Decide.session) _ _ c.from_residual-in_err-decide-in-Decide.result p.0 c.in-Decide.is p.1 p.2 c.in_err-decide-in-Decide.ensures.step c.in_err-decide-in-Decide.ensures.totals refl

pub returns-in_err-finish-in-Finish : goal.returns-in_err-finish-in-Finish
returns-in_err-finish-in-Finish g c =
    let p = err_from_is_err_and c.from_residual-in_err-finish-in-Finish.result c.from_residual-in_err-finish-in-Finish.ensures.1 in
    refused_as c.args.self.now c.args.step (steps.Finish c.in-Finish.session) _ _ c.from_residual-in_err-finish-in-Finish.result p.0 c.in-Finish.is p.1 p.2 c.in_err-finish-in-Finish.ensures.step c.in_err-finish-in-Finish.ensures.totals refl

pub returns-in_err-back_up-in-BackUp : goal.returns-in_err-back_up-in-BackUp
returns-in_err-back_up-in-BackUp g c =
    let p = err_from_is_err_and c.from_residual-in_err-back_up-in-BackUp.result c.from_residual-in_err-back_up-in-BackUp.ensures.1 in
    refused_as c.args.self.now c.args.step (steps.BackUp c.in-BackUp.session) _ _ c.from_residual-in_err-back_up-in-BackUp.result p.0 c.in-BackUp.is p.1 p.2 c.in_err-back_up-in-BackUp.ensures.step c.in_err-back_up-in-BackUp.ensures.totals refl

pub returns-in_err-checkpoint-in-Checkpoint : goal.returns-in_err-checkpoint-in-Checkpoint
returns-in_err-checkpoint-in-Checkpoint g c =
    let p = err_from_is_err_and c.from_residual-in_err-checkpoint-in-Checkpoint.result c.from_residual-in_err-checkpoint-in-Checkpoint.ensures.1 in
    refused_as c.args.self.now c.args.step steps.Checkpoint _ _ c.from_residual-in_err-checkpoint-in-Checkpoint.result p.0 c.in-Checkpoint.is p.1 p.2 c.in_err-checkpoint-in-Checkpoint.ensures.step c.in_err-checkpoint-in-Checkpoint.ensures.totals refl

pub returns-in_err-enter-in-Enter : goal.returns-in_err-enter-in-Enter
returns-in_err-enter-in-Enter g c =
    let p = err_from_is_err_and c.from_residual-in_err-enter-in-Enter.result c.from_residual-in_err-enter-in-Enter.ensures.1 in
    refused_back c.args.self.now c.args.step (steps.Enter c.in-Enter.session c.in-Enter.item) (item_of c.in-Enter.item) _ _ c.from_residual-in_err-enter-in-Enter.result p.0 c.in-Enter.is p.1 p.2 c.in_err-enter-in-Enter.ensures.step c.in_err-enter-in-Enter.ensures.totals c.in_err-enter-in-Enter.ensures.handed_back refl

pub returns-in_err-serial_end-in-SerialEnd : goal.returns-in_err-serial_end-in-SerialEnd
returns-in_err-serial_end-in-SerialEnd g c =
    let p = err_from_is_err_and c.from_residual-in_err-serial_end-in-SerialEnd.result c.from_residual-in_err-serial_end-in-SerialEnd.ensures.1 in
    refused_back c.args.self.now c.args.step (steps.SerialEnd c.in-SerialEnd.session c.in-SerialEnd.item) (item_of c.in-SerialEnd.item) _ _ c.from_residual-in_err-serial_end-in-SerialEnd.result p.0 c.in-SerialEnd.is p.1 p.2 c.in_err-serial_end-in-SerialEnd.ensures.step c.in_err-serial_end-in-SerialEnd.ensures.totals c.in_err-serial_end-in-SerialEnd.ensures.handed_back refl

pub returns-in_err-take_alone-in-RunAlone : goal.returns-in_err-take_alone-in-RunAlone
returns-in_err-take_alone-in-RunAlone g c =
    let p = err_from_is_err_and c.from_residual-in_err-take_alone-in-RunAlone.result c.from_residual-in_err-take_alone-in-RunAlone.ensures.1 in
    refused_back c.args.self.now c.args.step (steps.RunAlone c.in-RunAlone.session c.in-RunAlone.number c.in-RunAlone.operations) (Alone c.in-RunAlone.number (ops_of c.in-RunAlone.operations.items)) _ _ c.from_residual-in_err-take_alone-in-RunAlone.result p.0 c.in-RunAlone.is p.1 p.2 c.in_err-take_alone-in-RunAlone.ensures.step c.in_err-take_alone-in-RunAlone.ensures.totals c.in_err-take_alone-in-RunAlone.ensures.handed_back refl

pub returns-in-WriteOne : goal.returns-in-WriteOne
returns-in-WriteOne g c =
    subst (λ s. MatchResult c.answer_write.result (λ reply. Answers c.args.self.now s reply c.answer_write.new.self) (λ refusal. Answers c.args.self.now s refusal c.answer_write.new.self)) (sym c.in-WriteOne.is) c.answer_write.ensures
