use Rattle.std.proofs.Common.{◌∙◌, ap, subst}
use Rattle.occ_cli.proofs.Common.{World, low, Audited}
use Rattle.occ_log.specs.Rows.{opened}
use Rattle.occ_cli.proofs.Closing.{closing, cut_in_book, same_book}
use Rattle.occ_cli.proofs.text_replay.close.Goals as goal

pub returns-in_err-write_book-clause-gives : goal.returns-in_err-write_book-clause-gives
returns-in_err-write_book-clause-gives g c =
    let is = c.core-core.ensures in
    cut_in_book _ c.from_residual.result _ _ _ _ _ _ c.from_residual.ensures.1
    (same_book c.args.limits _ _ _ _ _ _ _ _ _ _ _ _ _ _
    (c.schema.ensures ∙ ap (λ (w : World). w.settings.schema) is) (c.view-book.ensures.base ∙ ap (λ (w : World). w.base) is) (c.view-book.ensures.log ∙ ap (λ (w : World). w.log) is) (c.view-book.ensures.marks ∙ ap (λ (w : World). w.marks) is)
    (c.view-book.ensures.state ∙ ap (λ (w : World). w.table) is) (c.view-book.ensures.tnc ∙ ap (λ (w : World). w.counter) is) (c.view-book.ensures.low ∙ ap low is))
    (subst (λ (w : World). Audited w.base w.marks w.table w.log) is c.law.ensures.audited)
    (c.in_err-write_book.ensures.printed opened)

pub returns-clause-gives : goal.returns-clause-gives
returns-clause-gives g c =
    let is = c.core-core.ensures in
    closing c.write_audit.result _ _ _ _ _ _ _ _
    (same_book c.args.limits _ _ _ _ _ _ _ _ _ _ _ _ _ _
    (c.schema.ensures ∙ ap (λ (w : World). w.settings.schema) is) (c.view-book.ensures.base ∙ ap (λ (w : World). w.base) is) (c.view-book.ensures.log ∙ ap (λ (w : World). w.log) is) (c.view-book.ensures.marks ∙ ap (λ (w : World). w.marks) is)
    (c.view-book.ensures.state ∙ ap (λ (w : World). w.table) is) (c.view-book.ensures.tnc ∙ ap (λ (w : World). w.counter) is) (c.view-book.ensures.low ∙ ap low is))
    (subst (λ (w : World). Audited w.base w.marks w.table w.log) is c.law.ensures.audited)
    (c.in_ok-write_book.ensures.printed opened) c.write_audit.ensures.gives
