-- What the events of workers keep: the settings of a world, and that no transaction is active.
use Rattle.std.proofs.Common.{if◌then◌else◌, ◌≡◌, ◌⊎◌, ◌+◌, ◌≤◌, ℕ, Bool, true, false, List, [], ◌∷◌, ◌++◌, length, filter, take, drop, Option, None, Some, inl, inr, refl, sym, ap, subst, ◌∙◌, arith, MatchOption}
use Rattle.std.proofs.lemmas.List.{take-append-drop, length-append}
use Rattle.std.proofs.lemmas.List.Elements.{filter-append}
use Rattle.occ_types.specs.declared.fault.Fault.{Fault}
use Rattle.occ_types.specs.Question.{Question, One}
use Rattle.occ_types.specs.Object.{Object}
use Rattle.occ_model.specs.Log.{LogRow, Standing, Done, Back, is_active}
use Rattle.occ_model.specs.State.{Write, Found}
use Rattle.occ_types.specs.Row.{Row}
use Rattle.occ_model.specs.Operations.{Operation}
use Rattle.occ_model.specs.World.{Settings, World, active_count}
use Rattle.occ_model.specs.Event.{Request, Read, Forget, SerialEnd, RunAlone, Checkpoint, Reply, Answered}
use Rattle.occ_model.specs.Step.{Step, refused, starved, taken, EndsSerially, validity_of}
use Rattle.occ_model.specs.declared.verdict.Verdict.{Verdict}
use Rattle.occ_model.specs.declared.verdict.Verdict.TheVariants as verdicts
use Rattle.occ_client.specs.Clients.{Client}
use Rattle.occ_open.specs.Transactions.{Unless, WithOpen, Gets, Scans, Abandons, OrStarves, overlaid}
use Rattle.occ_sets.specs.Sets.{Copied}
use Rattle.occ_sharing.specs.Sharing.{IsWorldOf, EndsAtOnce, RunsAloneNext}

abbrev active : LogRow → Bool
active row = is_active row.standing

-- a row that isn't active comes to rows of which none is
pushed : (rows : List LogRow) (row : LogRow) → active row ≡ false → length (filter active rows) ≡ 0 → length (filter active (rows ++ row ∷ [])) ≡ 0
pushed rows row none quiet = ap (λ (l : List LogRow). length l) (filter-append active rows (row ∷ []))
    ∙ length-append (filter active rows) (filter active (row ∷ [])) ∙ ap (λ (k : ℕ). k + length (filter active (row ∷ []))) quiet ∙ alone (active row) none
  where
    alone : (b : Bool) → b ≡ false → 0 + length (if b then row ∷ [] else []) ≡ 0
    alone true is = cc
    alone false is = refl

-- and the later ones of such rows are so too
dropped : (rows : List LogRow) (count : ℕ) → length (filter active rows) ≡ 0 → length (filter active (drop count rows)) ≡ 0
dropped rows count quiet =
    let whole : length (filter active (take count rows)) + length (filter active (drop count rows)) ≡ length (filter active rows) =
    sym (length-append (filter active (take count rows)) (filter active (drop count rows)))
    ∙ ap (λ (l : List LogRow). length l) (sym (filter-append active (take count rows) (drop count rows)))
    ∙ ap (λ (l : List LogRow). length (filter active l)) (take-append-drop count rows) in
    omega (arith, whole, quiet)

module _ (settings : Settings) (old : World) (is : IsWorldOf settings old) where
  pub same : (new : World) → new ≡ old → IsWorldOf settings new
  same new told = subst (λ (w : World). IsWorldOf settings w) (sym told) is

  pub read_keeps : (session number start : ℕ) (question : Question) (reply : Reply) (new : World) → Step old (Read session number start question) reply new → IsWorldOf settings new
  read_keeps session number start question reply new (refused fault by told stays) = same new stays
  read_keeps session number start question reply new (starved by takes told stays) = same new stays
  read_keeps session number start question reply new (taken by done) = subst (λ (w : World). IsWorldOf settings w) (sym done.1) (record { opened = is.opened; quiet = is.quiet })

  pub forget_keeps : (session number : ℕ) (reply : Reply) (new : World) → Step old (Forget session number) reply new → IsWorldOf settings new
  forget_keeps session number reply new (refused fault by told stays) = same new stays
  forget_keeps session number reply new (starved by takes told stays) = same new stays
  forget_keeps session number reply new (taken by done) = subst (λ (w : World). IsWorldOf settings w) (sym done.1) (record { opened = is.opened; quiet = is.quiet })

  ends : (session number start : ℕ) (writes : List Write) (verdict : Verdict) (reply : Reply) (new : World) → EndsSerially old session number start writes verdict reply new → IsWorldOf settings new
  ends session number start writes verdicts.Commit reply new done =
      subst (λ (w : World). IsWorldOf settings w) (sym done.1) (record { opened = is.opened; quiet = pushed old.log _ refl is.quiet })
  ends session number start writes (verdicts.BackUp cause) reply new done =
      subst (λ (w : World). IsWorldOf settings w) (sym done.1) (record { opened = is.opened; quiet = pushed old.log _ refl is.quiet })

  pub end_keeps : (session number start : ℕ) (writes : List Write) (reply : Reply) (new : World) → Step old (SerialEnd session (Request number start writes)) reply new → IsWorldOf settings new
  end_keeps session number start writes reply new (refused fault by told stays) = same new stays
  end_keeps session number start writes reply new (starved by takes told stays) = same new stays
  end_keeps session number start writes reply new (taken by done) = ends session number start writes (validity_of old session number start writes) reply new done

  pub alone_keeps : (session number : ℕ) (operations : List Operation) (reply : Reply) (new : World) → Step old (RunAlone session number operations) reply new → IsWorldOf settings new
  alone_keeps session number operations reply new (refused fault by told stays) = same new stays
  alone_keeps session number operations reply new (starved by takes told stays) = same new stays
  alone_keeps session number operations reply new (taken by done) =
      subst (λ (w : World). IsWorldOf settings w) (sym done.1) (record { opened = is.opened; quiet = pushed old.log _ refl is.quiet })

  pub checkpoint_keeps : (reply : Reply) (new : World) → Step old Checkpoint reply new → IsWorldOf settings new
  checkpoint_keeps reply new (refused fault by told stays) = same new stays
  checkpoint_keeps reply new (starved by takes told stays) = same new stays
  checkpoint_keeps reply new (taken by done) = subst (λ (w : World). IsWorldOf settings w) (sym done.1) (record { opened = is.opened; quiet = dropped old.log _ is.quiet })

  unless_keeps : (fault : Option Fault) (reply : Reply) (new : World) (Goes : Type 0) → (Goes → IsWorldOf settings new) → Unless fault old reply new Goes → IsWorldOf settings new
  unless_keeps None reply new Goes keeps goes = keeps goes
  unless_keeps (Some fault) reply new Goes keeps told = same new told.1

  with_keeps : (current : Option Copied) (reply : Reply) (new : World) (Goes : Copied → Type 0) → ((copy : Copied) → Goes copy → IsWorldOf settings new) → WithOpen current old reply new Goes → IsWorldOf settings new
  with_keeps None reply new Goes keeps none = same new none.1
  with_keeps (Some copy) reply new Goes keeps goes = keeps copy goes

  starves_keeps : (Wanting : Type 0) (reply : Reply) (new : World) (Is : Type 0) → (Is → IsWorldOf settings new) → OrStarves Wanting old reply new Is → IsWorldOf settings new
  starves_keeps Wanting reply new Is keeps (inl wants) = same new wants.2
  starves_keeps Wanting reply new Is keeps (inr goes) = keeps goes

  own_keeps : {X : Type 0} (own : Option X) (new : World) (Asks : Type 0) (Answers : X → Type 0) → (Asks → IsWorldOf settings new) → ((x : X) → Answers x → new ≡ old)
      → MatchOption own Asks Answers → IsWorldOf settings new
  own_keeps None new Asks Answers asked answered is_asked = asked is_asked
  own_keeps (Some x) new Asks Answers asked answered is_answered = same new (answered x is_answered)

  pub get_keeps : (Wanting : Type 0) (session : ℕ) (object : Object) (current : Option Copied) (reply : Reply) (new : World)
      → OrStarves Wanting old reply new (Gets old session object current reply new) → IsWorldOf settings new
  get_keeps Wanting session object current reply new = starves_keeps Wanting reply new (Gets old session object current reply new)
      (with_keeps current reply new _ (λ copy goes. unless_keeps _ reply new _
      (own_keeps _ new _ _ (read_keeps session copy.number copy.start (One object.0 object.1) reply new) (λ (row : Option Row) (answered : (reply ≡ Answered (Found row)) × (new ≡ old)). answered.1)) goes))

  pub scan_keeps : (Wanting : Type 0) (session : ℕ) (question : Question) (current : Option Copied) (reply : Reply) (new : World)
      → OrStarves Wanting old reply new (Scans old session question current reply new) → IsWorldOf settings new
  scan_keeps Wanting session question current reply new = starves_keeps Wanting reply new (Scans old session question current reply new)
      (with_keeps current reply new _ (λ copy goes. unless_keeps _ reply new _ (λ (asked : (given : Reply) × Step old (Read session copy.number copy.start question) given new × (reply ≡ overlaid question copy.writes given)). read_keeps session copy.number copy.start question asked.0 new asked.1) goes))

  pub abandon_keeps : (session : ℕ) (current : Option Copied) (reply : Reply) (new : World) → Abandons old session current reply new → IsWorldOf settings new
  abandon_keeps session current reply new = with_keeps current reply new _ (λ copy step. forget_keeps session copy.number reply new step)

  pub ends_keeps : (client : Client) (reply : Reply) (new : World) → EndsAtOnce client old reply new → IsWorldOf settings new
  ends_keeps client reply new = with_keeps client.current reply new _ (λ copy step. end_keeps client.session copy.number copy.start copy.writes reply new step)

  pub runs_keeps : (client : Client) (operations : List Operation) (reply : Reply) (new : World) → RunsAloneNext client operations old reply new → IsWorldOf settings new
  runs_keeps client operations reply new = unless_keeps _ reply new _ (alone_keeps client.session client.next operations reply new)
