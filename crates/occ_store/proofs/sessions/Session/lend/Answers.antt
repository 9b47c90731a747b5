use Rattle.std.proofs.Common.{Option, ap, subst, ◌∙◌}
use Rattle.occ_sets.specs.Sets.{Copied}
use Rattle.occ_store.specs.Sessions.{SessionView, MayBeSubmitted}
use Rattle.occ_store.proofs.Submittable.{none_one}
use Rattle.occ_store.proofs.sessions.Session.lend.Goals as goal

pub invariant_of-self : goal.invariant_of-self
invariant_of-self g c =
    none_one g.N.Name.named c.self.inside.seat.board c.self.inside.seat.seen c.self.inside.sender c.self.inside.transaction c.replace.new.self
    (c.replace.ensures.new ∙ ap (λ (d : Option Copied). record c.self.inside.transaction { draft = d }) c.none.ensures) c.self.invariant

pub returns-clause-next : goal.returns-clause-next
returns-clause-next g c = subst (λ (v : SessionView). MayBeSubmitted v.sender v.draft) c.self.view_is c.self.invariant.3
