use Rattle.std.proofs.Common.{sym, ap, ◌∙◌}
use Rattle.std.proofs.lemmas.Result.{IfOk-weaker}
use Rattle.occ_types.specs.PlainData.{end_of, question_of}
use Rattle.occ_model.specs.State.{Rows}
use Rattle.occ_model.specs.Overlay.{overlay}
use Rattle.occ_sets.specs.Handles.{kept}
use Rattle.occ_sets.specs.Overlays.{rows_over}
use Rattle.occ_sets.specs.PlainSets.{answer_of}
use Rattle.occ_sets.proofs.Agreement.{overlay-Span}
use Rattle.occ_sets.proofs.copies.PrivateCopy.overlay.Goals as goal

-- the rows of a range have the own writes over them
pub returns-in-Rows-clause-seen : goal.returns-in-Rows-clause-seen
returns-in-Rows-clause-seen g c =
    let writes = kept c.self.inside.writes in
    let rows = c.in-Rows.rows in
    let same =
    ap (λ q. Rows (rows_over (question_of q) writes rows)) c.in-Span.is
    ∙ overlay-Span c.in-Span.table (end_of c.in-Span.lower) (end_of c.in-Span.upper) writes rows
    ∙ ap (λ q. overlay (question_of q) writes (Rows rows)) (sym c.in-Span.is)
    ∙ ap (λ a. overlay (question_of c.args.question.now) writes (answer_of a)) (sym c.in-Rows.is)
    ∙ ap (λ m. overlay (question_of c.args.question.now) m.writes (answer_of c.args.given)) c.self.view_is in
    IfOk-weaker c.over_range.result _ _ (λ seen is. is ∙ same) c.over_range.ensures.seen
