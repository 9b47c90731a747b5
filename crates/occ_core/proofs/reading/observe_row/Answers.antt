use Rattle.std.proofs.Common.{ap, refl, ◌∙◌}
use Rattle.occ_core.proofs.ReadPhases.{row_answers}
use Rattle.occ_core.proofs.reading.observe_row.Goals as goal

pub returns-clause-answered : goal.returns-clause-answered
returns-clause-answered g c = (
  row_answers c.args.table c.in_ok-clone.field-0 c.args.key.now c.in_ok-clone.ensures.cases _ c.args.tables.now.state (c.in_ok-copied.ensures.value ∙ c.row-found.ensures),
  ap (λ o. o.1) (row_answers c.args.table c.args.key.now c.args.key.now refl _ c.args.tables.now.state (c.in_ok-row.ensures.value ∙ c.row-found.ensures)),
)
