use Rattle.std.proofs.Common.{ap, ◌∙◌, slice_set}
use Rattle.occ_log.proofs.Common.{slots_of}
use Rattle.occ_log.proofs.Changes.{let_go}
use Rattle.occ_log.proofs.sessions.Sessions.release.Goals as goal

pub returns-clause-released : goal.returns-clause-released
returns-clause-released g c =
    ap (λ h. slots_of (slice_set c.self.inside.states.items c.args.place (record { last = c.index_mut-state.result.now.last; held = h }))) c.take.ensures.after
    ∙ let_go c.self.inside.states.items c.args.place c.index_mut-state.result.now c.args.self.now c.self.view_is c.requires c.index_mut-state.ensures.value
