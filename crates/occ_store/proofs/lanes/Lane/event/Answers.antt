use Rattle.std.proofs.Common.{◌≡◌, sym, subst, ◌∙◌}
use Rattle.occ_model.specs.Invariant.{Invariant}
use Rattle.occ_model.specs.Step.{Run}
use Rattle.occ_store.specs.Names.{opened_as}
use Rattle.occ_store.specs.Locked.{Locked, world_of}
use Rattle.occ_store.proofs.Points.{moves}
use Rattle.occ_store.proofs.lanes.Lane.event.Goals as goal

-- the state that the lock lent, and what the event made of it
pub returns-clause-happened : goal.returns-clause-happened
returns-clause-happened g c =
    let same = c.deref.ensures ∙ sym c.deref_mut.ensures.value in (
      c.args.judged,
      c.deref_mut.result.now,
      c.advance.new.shared,
      subst (λ (s : Locked). Invariant (world_of s)) same c.law.ensures.invariant,
      subst (λ (s : Locked). (world_of s).settings ≡ g.N.Name.named.settings) same c.law.ensures.settings,
      subst (λ (s : Locked). Run (opened_as g.N.Name.named) s.story.log (world_of s)) same c.law.ensures.ran,
      c.advance.ensures,
    )

pub returns-clause-moves : goal.returns-clause-moves
returns-clause-moves g c = λ number is. moves _ _ _ _ _ _ number c.advance.ensures is
