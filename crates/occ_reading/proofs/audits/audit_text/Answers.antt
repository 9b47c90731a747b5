use Rattle.std.proofs.Common.{◌≡◌, ap, subst}
use Rattle.occ_reading.proofs.Common.{IsErrAnd, Source, Trouble, printed_book}
use Rattle.occ_reading.proofs.VerdictWriting.{refused, stopped, write_failed, judged}
use Rattle.occ_reading.proofs.audits.audit_text.Goals as goal

pub returns-in_err-input : goal.returns-in_err-input
returns-in_err-input g c = refused c.from_residual.result _ _ _ c.from_residual.ensures.1

pub returns-in_err-printed : goal.returns-in_err-printed
returns-in_err-printed g c =
    stopped c.in_err-printed.field-0.0 c.from_residual-in_err-printed.result c.in_ok-input.input.unread c.in_ok-input.input.number _ _ _ c.take_book.new.input c.from_residual-in_err-printed.ensures.1
    (ap (λ (s : Source). s.unread) c.in_ok-input.ensures) (ap (λ (s : Source). s.number) c.in_ok-input.ensures) c.in_err-printed.ensures.cause c.in_err-printed.ensures.led

pub returns-in_err-verdict : goal.returns-in_err-verdict
returns-in_err-verdict g c =
    refused c.from_residual-in_err-verdict.result _ _ _ (subst (λ (t : Trouble). IsErrAnd c.from_residual-in_err-verdict.result (λ e. e ≡ t)) c.in_err-verdict.ensures.err c.from_residual-in_err-verdict.ensures.1)

pub returns-in_err-tell : goal.returns-in_err-tell
returns-in_err-tell g c =
    write_failed c.in_err-tell.field-0.0 c.from_residual-in_err-tell.result c.in_ok-verdict.verdict _ _ _ _
    (judged c.in_ok-verdict.verdict c.in_ok-input.input.unread _ (printed_book c.in_ok-printed.printed) (ap (λ (s : Source). s.unread) c.in_ok-input.ensures) c.in_ok-printed.ensures.taken c.in_ok-verdict.ensures.ok)
    c.from_residual-in_err-tell.ensures.1 c.in_err-tell.ensures

pub returns : goal.returns
returns g c = (
  judged c.in_ok-verdict.verdict c.in_ok-input.input.unread _ (printed_book c.in_ok-printed.printed) (ap (λ (s : Source). s.unread) c.in_ok-input.ensures) c.in_ok-printed.ensures.taken c.in_ok-verdict.ensures.ok,
  c.in_ok-tell.ensures,
)
