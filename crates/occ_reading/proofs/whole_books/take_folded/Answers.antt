use Rattle.std.proofs.Common.{ap, ◌∙◌}
use Rattle.occ_reading.proofs.Common.{BaseContent, books, failed, fails}
use Rattle.occ_reading.proofs.Sections.{folded_taken}
use Rattle.occ_reading.proofs.whole_books.take_folded.Goals as goal

pub returns-clause-taken : goal.returns-clause-taken
returns-clause-taken g c =
    folded_taken c.args.version c.args.schema.now c.args.sessions c.args.head c.in_ok-last.last.marks c.in_ok-state.state.state c.from_parts.result.base c.requires (ap (λ (b : BaseContent). b.base) c.from_parts.ensures)
    (c.in_ok-last.ensures.taken c.args.version c.args.schema.now c.args.head.rows) (c.in_ok-state.ensures.taken c.args.sessions)

pub returns-in_err-last-clause-taken : goal.returns-in_err-last-clause-taken
returns-in_err-last-clause-taken g c =
    failed books c.in_err-last.field-0.0 c.from_residual.result _ _ _ _ _ _ c.from_residual.ensures.1 (c.in_err-last.ensures.taken c.args.version c.args.schema.now c.args.head.rows)

pub returns-in_err-state-clause-taken : goal.returns-in_err-state-clause-taken
returns-in_err-state-clause-taken g c =
    failed books c.in_err-state.field-0.0 c.from_residual-in_err-state.result _ _ _ _ _ _ c.from_residual-in_err-state.ensures.1
    (fails c.in_err-state.field-0.0 _ (c.in_ok-last.ensures.taken c.args.version c.args.schema.now c.args.head.rows).0 (c.in_err-state.ensures.taken c.args.sessions))

pub returns-clause-sizes : goal.returns-clause-sizes
returns-clause-sizes g c =
    (ap (λ (b : BaseContent). b.tables) c.from_parts.ensures ∙ c.in_ok-state.ensures.tables, ap (λ (b : BaseContent). b.sessions) c.from_parts.ensures ∙ c.in_ok-last.ensures.sessions)
