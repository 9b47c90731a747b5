-- Which sessions have a read phase under way.
use Rattle.std.proofs.Common.{◌≡◌, ◌<◌, ◌≤◌, ◌==◌, ℕ, Bool, true, false, not, cond, List, [], ◌∷◌, Option, None, Some, length, get_or, refl, sym, ap, ◌∙◌, eqb-true, eq-eqb}
use Rattle.std.specs.Option.{option_map}
use Rattle.std.specs.Ordering.{nat_cmp}
use Rattle.std.specs.FinMap as finite
use Rattle.std.specs.FinMap.{FinMap, empty, get, retain_keys, len, empty_of_len, len-empty, get-empty, get-retain_keys}
use Rattle.occ_model.specs.World.{ReadPhase, phase_cmp}
use Rattle.occ_log.specs.Phases.{phase_of, session_phases_of, phases_of, is_reading}
use Rattle.occ_log.specs.declared.session_phases.Phase as code_phase
use Rattle.occ_log.proofs.PhaseViews.{under, same_session, get-session, session-none}
use Rattle.occ_model.proofs.Phases.{phase_cmp-IsAntisymmetric}
use Rattle.occ_log.proofs.PhaseLists.{other, same_phases, phases-part, phases-beyond}

-- two truth values of which each makes the other true
same_truth : (a b : Bool) → (a ≡ true → b ≡ true) → (b ≡ true → a ≡ true) → a ≡ b
same_truth true b f g = sym (f refl)
same_truth false true f g = g refl
same_truth false false f g = refl

module _ {Z : Type 0} where
  -- a session has no phases where its list is empty
  pub none-listed : (es : List (ℕ × code_phase.Phase Z)) → (length es == 0) ≡ (len (session_phases_of es) == 0)
  none-listed [] = sym (ap (λ (n : ℕ). n == 0) (ap len (session-none [] refl) ∙ len-empty nat_cmp ReadPhase))
  none-listed (e ∷ es) = other (length es) ∙ go (len (session_phases_of (e ∷ es)) == 0) refl
    where
      first : get (session_phases_of (e ∷ es)) e.0 ≡ Some (phase_of e.1)
      first = get-session (e ∷ es) e.0 ∙ ap (λ b. option_map phase_of (cond b (Some e.1) (under es e.0))) (eq-eqb e.0 e.0 refl)

      go : (b : Bool) → (len (session_phases_of (e ∷ es)) == 0) ≡ b → false ≡ b
      go false is = refl
      go true is =
          let none : None ≡ Some (phase_of e.1) = sym (get-empty nat_cmp e.0) ∙ ap (λ m. get m e.0) (sym (empty_of_len (session_phases_of (e ∷ es)) (eqb-true _ 0 is))) ∙ first in
          cc

-- the phases of a session alone
get-own : (old : FinMap phase_cmp ReadPhase) (s : ℕ) (q : ℕ × ℕ) → get (retain_keys old (λ key. key.0 == s)) q ≡ cond (q.0 == s) (get old q) None
get-own old s q = get-retain_keys old (λ key. key.0 == s) q (λ k e. ap (λ (key : ℕ × ℕ). key.0 == s) (sym (phase_cmp-IsAntisymmetric q k e)))

-- they are none where its own list has none
own-none : (m : FinMap nat_cmp ReadPhase) (old : FinMap phase_cmp ReadPhase) (s : ℕ) → ((n : ℕ) → get m n ≡ get old (s, n)) → (len m == 0) ≡ (len (retain_keys old (λ key. key.0 == s)) == 0)
own-none m old s part = same_truth _ _ there back
  where
    there : (len m == 0) ≡ true → (len (retain_keys old (λ key. key.0 == s)) == 0) ≡ true
    there is =
        let none = empty_of_len m (eqb-true _ 0 is) in
        ap (λ (n : ℕ). n == 0) (ap len (same_phases (retain_keys old (λ key. key.0 == s)) empty (λ q. get-own old s q ∙ by q (q.0 == s) refl none ∙ sym (get-empty phase_cmp q))) ∙ len-empty phase_cmp ReadPhase)
      where
        by : (q : ℕ × ℕ) (b : Bool) → (q.0 == s) ≡ b → m ≡ empty → cond b (get old q) None ≡ None
        by q true e none = ap (λ t. get old (t, q.1)) (eqb-true q.0 s e) ∙ sym (part q.1) ∙ ap (λ m. get m q.1) none ∙ get-empty nat_cmp q.1
        by q false e none = refl

    back : (len (retain_keys old (λ key. key.0 == s)) == 0) ≡ true → (len m == 0) ≡ true
    back is =
        let none = empty_of_len (retain_keys old (λ key. key.0 == s)) (eqb-true _ 0 is) in
        ap (λ (n : ℕ). n == 0) (ap len (same_session m empty (λ n.
        part n
        ∙ ap (λ b. cond b (get old (s, n)) None) (sym (eq-eqb s s refl))
        ∙ sym (get-own old s (s, n))
        ∙ ap (λ p. get p (s, n)) none
        ∙ get-empty phase_cmp (s, n)
        ∙ sym (get-empty nat_cmp n)))
        ∙ len-empty nat_cmp ReadPhase)

-- a session with a list reads where that has phases
pub reads-here : (ms : List (FinMap nat_cmp ReadPhase)) (s : ℕ) (d : FinMap nat_cmp ReadPhase) (old : FinMap phase_cmp ReadPhase) → s < length ms → phases_of ms ≡ old → not (len (get_or ms s d) == 0) ≡ is_reading old s
reads-here ms s d old lt view = ap not (own-none (get_or ms s d) old s (phases-part ms s d old lt view))

-- a session without one does not
pub reads-beyond : (ms : List (FinMap nat_cmp ReadPhase)) (s : ℕ) (old : FinMap phase_cmp ReadPhase) → length ms ≤ s → phases_of ms ≡ old → false ≡ is_reading old s
reads-beyond ms s old le view =
    ap not (sym (ap (λ (n : ℕ). n == 0) (len-empty nat_cmp ReadPhase)) ∙ own-none empty old s (λ n. get-empty nat_cmp n ∙ phases-beyond ms s old le view n))
