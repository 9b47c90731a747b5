-- What an observer sees, and who may be shown it.
use Rattle.std.proofs.Common.{◌≡◌, Result, Ok, Err, IfOk, sym, ap, subst, ◌∙◌}
use Rattle.occ_types.specs.declared.fault.Fault.{Fault}
use Rattle.occ_model.specs.World.{World}
use Rattle.occ_model.specs.Step.{Run}
use Rattle.occ_history.specs.History.{Party, Nobody, FrontView, IsHere, Begins}
use Rattle.occ_history.specs.Rule.{visitor}
use Rattle.occ_history.specs.Clauses.{IsHistory}
use Rattle.occ_store.specs.Names.{Named, opened_as}
use Rattle.occ_store.specs.Locked.{Locked, world_of}
use Rattle.occ_store.specs.Standing.{SeesWhole}

-- nobody was not lent out
pub nobody_is_here : (party : Party) → party ≡ Nobody → IsHere party
nobody_is_here party is = subst IsHere (sym is) tt

-- a new observer has seen a history of the store
pub sees_history : (named : Named) (front : FrontView) (locked shared : Locked) → locked ≡ shared → Run (opened_as named) locked.story.log (world_of locked) → front ≡ visitor shared.story → IsHistory (opened_as named) front.seen
sees_history named front locked shared same ran is =
    (world_of locked, subst (λ l. Run (opened_as named) l (world_of locked)) (ap (λ (l : Locked). l.story.log) same ∙ sym (ap (λ (f : FrontView). f.seen) is)) ran)

-- what is shown of the state behind the lock, whose story led to it, is the whole history, and what is so of that state is so of its world
module _ (named : Named) (inside from to : FrontView) (is : inside ≡ from) (locked shown looked : Locked) (same : locked ≡ shown) (still : shown ≡ looked)
    (ran : Run (opened_as named) locked.story.log (world_of locked)) (seen : to ≡ record inside { seen = shown.story.log }) (begins : Begins inside to) where
  whole : (Is : World → Type 0) → Is (world_of looked) → SeesWhole named Is inside to
  whole Is so = (
    ap (λ (f : FrontView). f.party) seen,
    begins,
    (
      world_of looked,
      subst (λ l. Run (opened_as named) l (world_of looked)) (sym (ap (λ (f : FrontView). f.seen) seen ∙ ap (λ (l : Locked). l.story.log) still))
          (subst (λ (l : Locked). Run (opened_as named) l.story.log (world_of l)) (same ∙ still) ran),
      so,
    ),
  )

  pub sees_whole : (Is : World → Type 0) → Is (world_of looked) → SeesWhole named Is from to
  sees_whole Is so = subst (λ f. SeesWhole named Is f to) is (whole Is so)

  pub sees_so : {X : Type 0} (Is : World → X → Type 0) (result : Result X Fault) → IfOk result (Is (world_of looked)) → IfOk result (λ x. SeesWhole named (λ world. Is world x) from to)
  sees_so Is (Ok x) so = sees_whole (λ world. Is world x) so
  sees_so Is (Err fault) so = tt
