use Rattle.std.proofs.Common.{ap, sym, refl, ◌∙◌, Some, subst, inl, inr, option_copied}
use Rattle.std.proofs.lemmas.Result.{err_from_is_err_and}
use Rattle.std.specs.Prelude.{IfErr}
use Rattle.occ_types.specs.Question.{Span}
use Rattle.occ_types.specs.PlainData.{end_of}
use Rattle.occ_model.specs.Event.{Read}
use Rattle.occ_core.specs.Core.{IsRefusal}
use Rattle.occ_core.proofs.core_state.Core.rows_asked.Goals as goal

-- the first fault is told
pub returns-in_err-check_scan-in-None-clause-refused : goal.returns-in_err-check_scan-in-None-clause-refused
returns-in_err-check_scan-in-None-clause-refused g c =
    let p = err_from_is_err_and c.from_residual.result c.from_residual.ensures.1 in
    subst (λ r. IfErr r (IsRefusal c.args.self.now.world (Read c.args.transaction.session c.args.transaction.number c.args.transaction.start (Span c.args.table (end_of (option_copied c.args.lower)) (end_of (option_copied c.args.upper)))))) (sym p.1)
    (inl (sym c.in_err-check_scan-in-None.ensures ∙ ap Some (sym p.2)))

-- and where there is none, there was no memory
pub returns-in_ok-check_scan-in-None-clause-refused : goal.returns-in_ok-check_scan-in-None-clause-refused
returns-in_ok-check_scan-in-None-clause-refused g c = inr (refl, sym c.in_ok-check_scan-in-None.ensures)
