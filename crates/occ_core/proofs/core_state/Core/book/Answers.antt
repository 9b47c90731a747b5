use Rattle.std.proofs.Common.{ap, ◌∙◌}
use Rattle.occ_core.proofs.core_state.Core.book.Goals as goal

pub returns-clause-base : goal.returns-clause-base
returns-clause-base g c = ap (λ b. b.base) c.in_ok-clone.ensures.cases ∙ c.view-lent.ensures.base

pub returns-clause-base_tables : goal.returns-clause-base_tables
returns-clause-base_tables g c = ap (λ b. b.tables) c.in_ok-clone.ensures.cases ∙ c.view-lent.ensures.base_tables

pub returns-clause-base_sessions : goal.returns-clause-base_sessions
returns-clause-base_sessions g c = ap (λ b. b.sessions) c.in_ok-clone.ensures.cases ∙ c.view-lent.ensures.base_sessions
