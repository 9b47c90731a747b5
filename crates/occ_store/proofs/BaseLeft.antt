-- What a store leaves, told of the state behind its lock.
use Rattle.std.proofs.Common.{◌≡◌, ℕ, ◌<◌, List, ap, subst, ◌∙◌}
use Rattle.occ_types.specs.declared.fault.Fault.{Fault}
use Rattle.occ_types.specs.declared.fault.Fault.TheVariants.{StoreBusy}
use Rattle.occ_model.specs.World.{World, active_count}
use Rattle.occ_model.specs.Invariant.{Invariant}
use Rattle.occ_model.specs.Content.{IsInSchema}
use Rattle.occ_model.specs.Log.{Audited}
use Rattle.occ_model.specs.Step.{Run}
use Rattle.occ_book.specs.Base.{BaseContent}
use Rattle.occ_history.specs.History.{Happened}
use Rattle.occ_store.specs.Names.{Named, opened_as}
use Rattle.occ_store.specs.Leaving.{left_by, IsLeft, WasActive}

pub left : (named : Named) (base : BaseContent) (story : List Happened) (inside now : World) → inside ≡ now → Run (opened_as named) story now → Invariant now → IsInSchema now → Audited now.base now.marks now.table now.log
    → now.settings ≡ named.settings → active_count inside ≡ 0 → base ≡ left_by inside → base.base.state ≡ inside.table → IsLeft named base
left named base story inside now same ran invariant content audited own quiet all rows = record {
  story = story;
  world = now;
  ran = ran;
  invariant = invariant;
  content = content;
  audited = audited;
  settings_are = own;
  quiet = subst (λ w. active_count w ≡ 0) same quiet;
  all = all ∙ ap left_by same;
  rows = rows ∙ ap (λ (w : World). w.table) same;
}

pub was_active : (named : Named) (fault : Fault) (story : List Happened) (inside now : World) → inside ≡ now → Run (opened_as named) story now → Invariant now → now.settings ≡ named.settings → (0 < active_count inside) × (fault ≡ StoreBusy) → (fault ≡ StoreBusy) × WasActive named
was_active named fault story inside now same ran invariant own busy = (busy.1, (story, now, ran, invariant, own, subst (λ w. 0 < active_count w) same busy.0))
