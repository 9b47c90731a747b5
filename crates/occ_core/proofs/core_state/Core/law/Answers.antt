use Rattle.std.proofs.Common.{ap, subst}
use Rattle.occ_core.specs.Core.{parts_of}
use Rattle.occ_core.proofs.Standing.{lawful}
use Rattle.occ_core.specs.Totals.{AddUp}
use Rattle.occ_core.proofs.core_state.Core.law.Goals as goal

pub returns : goal.returns
returns g c =
    let law = lawful (parts_of c.self.inside) c.args.self.now.world (ap (λ s. s.world) c.self.view_is) c.self.invariant.sound in
    record { invariant = law.invariant; content = law.content; audited = law.audited; counter = law.counter; numbers = law.numbers; rows = law.rows; places = law.places; begins = law.begins; folded = law.folded; totals = subst (λ s. AddUp s.totals s.world) c.self.view_is c.self.invariant.counted }
