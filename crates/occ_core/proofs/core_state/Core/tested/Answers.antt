use Rattle.std.proofs.Common.{ap, ◌∙◌}
use Rattle.occ_core.specs.Core.{parts_of}
use Rattle.occ_core.proofs.SerialEnding.{quiet_validity}
use Rattle.occ_core.proofs.core_state.Core.tested.Goals as goal

pub returns : goal.returns
returns g c = λ writes.
    c.test.ensures ∙ quiet_validity (parts_of c.self.inside) c.args.self.now.world (ap (λ s. s.world) c.self.view_is) c.self.invariant.sound c.requires.quiet c.args.transaction.session c.args.transaction.number c.args.transaction.start c.low.result c.before_first-before.result c.args.reads.now c.requires.reads c.low.ensures c.before_first-before.ensures writes
