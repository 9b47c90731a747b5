-- What the calls do, seen from outside.
use Rattle.std.proofs.Common.{◌≡◌, ℕ, true, Option, None, Some, Result, IfSome, refl, sym, ap, subst, ◌∙◌, is_some}
use Rattle.boxcar.specs.Table.{Shelves, Where}
use Rattle.occ_types.specs.declared.fault.Fault.{Fault}
use Rattle.occ_model.specs.Log.{Case}
use Rattle.occ_model.specs.World.{World}
use Rattle.occ_model.specs.Event.{Item, Event, Enter, Decide, Decided, Reply}
use Rattle.occ_model.specs.Step.{Step}
use Rattle.occ_model.specs.declared.verdict.Verdict.{Verdict}
use Rattle.occ_core.specs.OpenCases.{open_case}
use Rattle.occ_core.specs.Totals.{moved}
use Rattle.occ_core.specs.declared.totals.Totals.{Totals}
use Rattle.occ_model.specs.Replies.{replied}
use Rattle.occ_filed.specs.Filed.{Filed, Tokens, Moves, Enters, DecidesBy, kept_after, token_of, has_index}
use Rattle.occ_filed.proofs.Tied.{kept_after_none}
use Rattle.occ_filed.proofs.DecidedBy.{decided}

-- what holds of what may be there holds of what is there
pub from_some : {X : Type 0} (P : X → Type 0) (o : Option X) → IfSome o P → (x : X) → o ≡ Some x → P x
from_some P None given x e = cc
from_some P (Some y) given x e = let same : y ≡ x = cc in subst P same given

module _ (file : Shelves) (tokens : Tokens) (core : World) (totals : Totals) (old : Filed) (seen : ◌≡◌ {A = Filed} (record { world = core; totals = totals; file = file; tokens = tokens }) old) where
  pub moves : (new : World) (after : Totals) (event : Event) (reply : Reply) → Step core event reply new → after ≡ moved totals reply → Moves old event reply (record { world = new; totals = after; file = file; tokens = tokens })
  moves new after event reply step counts =
      subst (λ o. Moves o event reply (record { world = new; totals = after; file = file; tokens = tokens })) seen (step, λ i. record { world = new; totals = counts i; file = file; tokens = tokens })

  pub enters : (kept : Tokens) (new : World) (after : Totals) (session : ℕ) (item : Item) (token : Option (Where Case)) (reply : Reply) → kept ≡ kept_after tokens session token reply → Step core (Enter session item) reply new
      → after ≡ moved totals reply → Enters old session item token reply (record { world = new; totals = after; file = file; tokens = kept })
  enters kept new after session item token reply is step counts =
      subst (λ o. Enters o session item token reply (record { world = new; totals = after; file = file; tokens = kept })) seen (step, λ i. record { world = new; totals = counts i; file = file; tokens = is i })

  pub decides : (new : World) (after : Totals) (session index : ℕ) (result : Result Verdict Fault) → Step core (Decide session) (replied Decided result) new → after ≡ moved totals (replied Decided result)
      → (is_some (open_case old.world session) ≡ true → has_index (token_of old.tokens session) index ≡ true)
      → DecidesBy old session index result (record { world = new; totals = after; file = file; tokens = tokens })
  decides new after session index result step counts own =
      decided old (record { world = new; totals = after; file = file; tokens = tokens }) session index result
      (subst (λ (o : Filed). Step o.world (Decide session) (replied Decided result) new) seen step)
      (subst (λ (o : Filed). ◌≡◌ {A = Filed} (record { world = new; totals = after; file = file; tokens = tokens }) (record o { world = new; totals = moved o.totals (replied Decided result) })) seen
      (λ i. record { world = new; totals = counts i; file = file; tokens = tokens })) own

-- an entry, and then the filing of its case, are an entry that keeps what shows the case
pub entered_filed : (old mid new : Filed) (session : ℕ) (item : Item) (token : Option (Where Case)) (reply : Reply) → Enters old session item None reply mid
    → new ≡ record mid { tokens = kept_after mid.tokens session token reply } → Enters old session item token reply new
entered_filed old mid new session item token reply enters is = (
  subst (λ w. Step old.world (Enter session item) reply w) (sym (ap (λ f. f.world) is)) enters.0,
  λ i. record {
    world = new.world;
    totals = (ap (λ f. f.totals) is ∙ ap (λ f. f.totals) enters.1) i;
    file = (ap (λ f. f.file) is ∙ ap (λ f. f.file) enters.1) i;
    tokens = (ap (λ f. f.tokens) is ∙ ap (λ t. kept_after t session token reply) (ap (λ f. f.tokens) enters.1) ∙ kept_after_none old.tokens session token reply) i;
  },
)
