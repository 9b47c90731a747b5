use Rattle.std.proofs.Common.{ap, ◌∙◌}
use Rattle.occ_types.specs.PlainData.{question_of}
use Rattle.occ_model.specs.State.{answer}
use Rattle.occ_sets.specs.Handles.{kept}
use Rattle.occ_sets.specs.Overlays.{rows_over}
use Rattle.occ_sets.specs.PlainSets.{rows_of}
use Rattle.occ_sets.proofs.Leading.{merged_over}
use Rattle.occ_sets.proofs.prepared.Prepared.laid.Goals as goal

-- all rows and writes are laid
pub returns : goal.returns
returns g c =
    let own = c.self.inside.own.entries in
    let rows = c.args.rows.items in
    ap rows_of c.merge.ensures.rows
    ∙ merged_over (question_of c.self.inside.question.now) c.requires.answered.0 (kept c.self.inside.writes.now) rows own (ap (λ s. answer s.question c.requires.answered.0) c.self.view_is ∙ c.requires.answered.1) c.merge.ensures.ordered c.self.invariant.0
    ∙ ap (λ s. rows_over s.question s.writes (rows_of rows)) c.self.view_is
