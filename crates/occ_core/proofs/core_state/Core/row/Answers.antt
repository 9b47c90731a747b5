use Rattle.std.proofs.Common.{suc, ap, ◌∙◌}
use Rattle.occ_model.specs.Log.{last_folded}
use Rattle.occ_model.specs.Poll.{row_numbered}
use Rattle.occ_core.proofs.core_state.Core.row.Goals as goal

pub numbered-requires : goal.numbered-requires
numbered-requires g c = λ session. (suc (last_folded c.self.inside.base.base session), c.self.invariant.sound.law.invariant.in_order.numbered session)

pub returns : goal.returns
returns g c = c.numbered.ensures ∙ ap (λ s. row_numbered c.args.session c.args.number s.world.log) c.self.view_is
