use Rattle.std.proofs.Common.{ap, ◌∙◌}
use Rattle.occ_log.specs.SessionStates.{written_at}
use Rattle.occ_core.specs.Replies.{written_in}
use Rattle.occ_core.proofs.Placed.{rows_found}
use Rattle.occ_core.proofs.core_state.Core.written.Goals as goal

pub returns : goal.returns
returns g c =
    c.written.ensures ∙ ap (λ at. written_at at c.args.row c.args.write) (rows_found c.self.inside.log c.self.invariant.log_match.begins)
    ∙ ap (λ s. written_in s.world c.args.row c.args.write) c.self.view_is
