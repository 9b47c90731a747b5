-- The read phases of one session in a list, seen as the model has them: what a look-up finds, and what a change of the list does.
use Rattle.std.proofs.Common.{◌≡◌, ◌<◌, ◌+◌, ℕ, zero, suc, Bool, true, false, cond, List, [], ◌∷◌, ◌++◌, Option, None, Some, is_some, length, get_or, set as put_at, refl, sym, ap, subst, ◌∙◌, ◌==◌, ◌||◌, map, arith}
use Rattle.std.specs.List.{position, position_from, remove, list_any, IsDistinct, AllByRecursion}
use Rattle.std.specs.Option.{option_map}
use Rattle.std.specs.Ordering.{nat_cmp, eq_by_cmp}
use Rattle.std.specs.Cmp.{nat_cmp_total, nat_eq_equiv, unsigned_ties}
use Rattle.std.specs.FinMap.{FinMap, empty, from_entries, get, insert, find, get-from_entries, get-insert, get-remove, same_map, nat_cmp-IsAntisymmetric}
use Rattle.std.specs.FinMap as finite
use Rattle.std.proofs.lemmas.Bool.{eqb-true, eq-eqb}
use Rattle.std.proofs.lemmas.Cmp.{eq_by_cmp_equiv}
use Rattle.std.proofs.lemmas.Iterator.Adapters.{position_from-zero}
use Rattle.std.proofs.lemmas.List.Quantifiers.{position-Some}
use Rattle.std.proofs.lemmas.Map.Keys.{IsDistinct-push}
use Rattle.occ_model.specs.World.{ReadPhase}
use Rattle.occ_model.specs.State.{Observation}
use Rattle.occ_log.specs.Phases.{reads_of, phase_of, session_phases_of, AreNumberedOnce}
use Rattle.occ_log.specs.declared.session_phases.Phase as code_phase

-- two maps of phases that answer alike are equal
pub same_session : (m n : FinMap nat_cmp ReadPhase) → ((q : ℕ) → get m q ≡ get n q) → m ≡ n
same_session = same_map nat_cmp_total nat_cmp-IsAntisymmetric

-- equality of numbers is the same from both sides
eqb_sym : (n m : ℕ) → (n == m) ≡ (m == n)
eqb_sym n m = unsigned_ties n m ∙ (eq_by_cmp_equiv nat_cmp_total).symm n m ∙ sym (unsigned_ties m n)

module _ {X : Type 0} where
  -- of two tests for numbers that differ, either may come first
  apart : (q k n : ℕ) (x y z : X) → (k == n) ≡ false → cond (q == k) x (cond (q == n) y z) ≡ cond (q == n) y (cond (q == k) x z)
  apart q k n x y z differ = by (q == k) (q == n) refl refl
    where
      by : (b c : Bool) → (q == k) ≡ b → (q == n) ≡ c → cond b x (cond c y z) ≡ cond c y (cond b x z)
      by true true e f =
          let same : (k == n) ≡ true = eq-eqb k n (sym (eqb-true q k e) ∙ eqb-true q n f) in
          let no : true ≡ false = sym same ∙ differ in
          cc
      by true false e f = refl
      by false true e f = refl
      by false false e f = refl

  -- a number that was tested for isn't tested for again
  twice : (q k n : ℕ) (x y z : X) → (k == n) ≡ true → cond (q == n) y z ≡ cond (q == n) y (cond (q == k) x z)
  twice q k n x y z same = by (q == n) refl
    where
      by : (b : Bool) → (q == n) ≡ b → cond b y z ≡ cond b y (cond (q == k) x z)
      by true e = refl
      by false e = ap (λ b. cond b x z) (sym (ap (λ m. q == m) (eqb-true k n same) ∙ e))

module _ {Z : Type 0} where
  -- the phase under a number, if there is one
  abbrev pub under : List (ℕ × code_phase.Phase Z) → ℕ → Option (code_phase.Phase Z)
  under [] q = None
  under (e ∷ es) q = cond (q == e.0) (Some e.1) (under es q)

  -- the first phase under a number stands at a place
  abbrev pub Stands : List (ℕ × code_phase.Phase Z) → ℕ → ℕ → ℕ × code_phase.Phase Z → Type 0
  Stands es number i d = (i < length es) × (((get_or es i d).0 == number) ≡ true) × ((k : ℕ) → k < i → ((get_or es k d).0 == number) ≡ false)

  later : (e : ℕ × code_phase.Phase Z) (es : List (ℕ × code_phase.Phase Z)) (number i : ℕ) (d : ℕ × code_phase.Phase Z) → Stands (e ∷ es) number (suc i) d → Stands es number i d
  later e es number i d at = (omega (arith, at.0), at.1, λ k lt. at.2 (suc k) (omega (arith, lt)))

  -- a place that was found is the first one
  pub stands : (es : List (ℕ × code_phase.Phase Z)) (number i : ℕ) (d : ℕ × code_phase.Phase Z) → Some i ≡ position (λ e. e.0 == number) es → Stands es number i d
  stands es number i d at = position-Some (λ e. e.0 == number) es i d (sym at)

  none_from : (es : List (ℕ × code_phase.Phase Z)) (number i : ℕ) → position_from (λ e. e.0 == number) i es ≡ None → under es number ≡ None
  none_from [] number i h = refl
  none_from (e ∷ es) number i h = by (e.0 == number) refl (none_from es number (i + 1))
    where
      by : (b : Bool) → (e.0 == number) ≡ b → (position_from (λ e. e.0 == number) (i + 1) es ≡ None → under es number ≡ None) → under (e ∷ es) number ≡ None
      by true is rest =
          let some : Some i ≡ None = ap (λ b. cond b (Some i) (position_from (λ e. e.0 == number) (i + 1) es)) (sym is) ∙ h in
          cc
      by false is rest =
          ap (λ b. cond b (Some e.1) (under es number)) (eqb_sym number e.0 ∙ is)
          ∙ rest (ap (λ b. cond b (Some i) (position_from (λ e. e.0 == number) (i + 1) es)) (sym is) ∙ h)

  -- a number that has no place has no phase
  pub missing : (es : List (ℕ × code_phase.Phase Z)) (number : ℕ) → None ≡ position (λ e. e.0 == number) es → under es number ≡ None
  missing es number h = none_from es number 0 (sym (position_from-zero (λ e. e.0 == number) es) ∙ sym h)

  -- the phase at the place
  pub under-place : (es : List (ℕ × code_phase.Phase Z)) (number i : ℕ) (d : ℕ × code_phase.Phase Z) → Stands es number i d → under es number ≡ Some (get_or es i d).1
  under-place [] number i d at = absurd (omega (arith, at.0))
  under-place (e ∷ es) number zero d at = ap (λ b. cond b (Some e.1) (under es number)) (eqb_sym number e.0 ∙ at.1)
  under-place (e ∷ es) number (suc i) d at =
      ap (λ b. cond b (Some e.1) (under es number)) (eqb_sym number e.0 ∙ at.2 0 (omega arith))
      ∙ under-place es number i d (later e es number i d at)

  -- another phase at the place
  under-set : (es : List (ℕ × code_phase.Phase Z)) (number i : ℕ) (d : ℕ × code_phase.Phase Z) (phase : code_phase.Phase Z) → Stands es number i d
      → (q : ℕ) → under (put_at es i ((get_or es i d).0, phase)) q ≡ cond (q == number) (Some phase) (under es q)
  under-set [] number i d phase at q = absurd (omega (arith, at.0))
  under-set (e ∷ es) number zero d phase at q =
      ap (λ n. cond (q == n) (Some phase) (under es q)) (eqb-true e.0 number at.1)
      ∙ twice q e.0 number (Some e.1) (Some phase) (under es q) at.1
  under-set (e ∷ es) number (suc i) d phase at q =
      ap (cond (q == e.0) (Some e.1)) (under-set es number i d phase (later e es number i d at) q)
      ∙ apart q e.0 number (Some e.1) (Some phase) (under es q) (at.2 0 (omega arith))

  -- a phase behind the others
  under-push : (es : List (ℕ × code_phase.Phase Z)) (number : ℕ) (phase : code_phase.Phase Z) → under es number ≡ None
      → (q : ℕ) → under (es ++ (number, phase) ∷ []) q ≡ cond (q == number) (Some phase) (under es q)
  under-push [] number phase none q = refl
  under-push (e ∷ es) number phase none q = by (number == e.0) refl (λ absent. under-push es number phase absent q)
    where
      by : (b : Bool) → (number == e.0) ≡ b → (under es number ≡ None → under (es ++ (number, phase) ∷ []) q ≡ cond (q == number) (Some phase) (under es q)) → under ((e ∷ es) ++ (number, phase) ∷ []) q ≡ cond (q == number) (Some phase) (under (e ∷ es) q)
      by true is rest =
          let some : Some e.1 ≡ None = ap (λ b. cond b (Some e.1) (under es number)) (sym is) ∙ none in
          cc
      by false is rest =
          ap (cond (q == e.0) (Some e.1)) (rest (ap (λ b. cond b (Some e.1) (under es number)) (sym is) ∙ none))
          ∙ apart q e.0 number (Some e.1) (Some phase) (under es q) (eqb_sym e.0 number ∙ is)

  unmet : (es : List (ℕ × code_phase.Phase Z)) (number : ℕ) → AllByRecursion (λ m. (number == m) ≡ false) (map (λ e. e.0) es) → under es number ≡ None
  unmet [] number h = refl
  unmet (e ∷ es) number h = ap (λ b. cond b (Some e.1) (under es number)) h.0 ∙ unmet es number h.1

  -- no phase at the place
  under-remove : (es : List (ℕ × code_phase.Phase Z)) (number i : ℕ) (d : ℕ × code_phase.Phase Z) → AreNumberedOnce es → Stands es number i d
      → (q : ℕ) → under (remove es i) q ≡ cond (q == number) None (under es q)
  unfolding IsDistinct
  under-remove [] number i d once at q = absurd (omega (arith, at.0))
  under-remove (e ∷ es) number zero d once at q = by (q == number) refl
    where
      by : (b : Bool) → (q == number) ≡ b → under es q ≡ cond b None (under (e ∷ es) q)
      by true is = ap (under es) (eqb-true q number is ∙ sym (eqb-true e.0 number at.1)) ∙ unmet es e.0 once.0
      by false is = ap (λ b. cond b (Some e.1) (under es q)) (sym (ap (λ n. q == n) (eqb-true e.0 number at.1) ∙ is))
  under-remove (e ∷ es) number (suc i) d once at q =
      ap (cond (q == e.0) (Some e.1)) (under-remove es number i d once.1 (later e es number i d at) q)
      ∙ apart q e.0 number (Some e.1) None (under es q) (at.2 0 (omega arith))

  numbers-set : (es : List (ℕ × code_phase.Phase Z)) (i : ℕ) (d : ℕ × code_phase.Phase Z) (phase : code_phase.Phase Z) → map (λ e. e.0) (put_at es i ((get_or es i d).0, phase)) ≡ map (λ e. e.0) es
  numbers-set [] i d phase = refl
  numbers-set (e ∷ es) zero d phase = refl
  numbers-set (e ∷ es) (suc i) d phase = ap (λ ns. e.0 ∷ ns) (numbers-set es i d phase)

  -- no number is there twice where there is none
  pub once-none : (es : List (ℕ × code_phase.Phase Z)) → es ≡ [] → AreNumberedOnce es
  unfolding IsDistinct
  once-none es e = subst AreNumberedOnce (sym e) tt

  -- numbers stay distinct where a phase changes
  pub once-set : (es : List (ℕ × code_phase.Phase Z)) (i : ℕ) (d : ℕ × code_phase.Phase Z) (phase : code_phase.Phase Z) → AreNumberedOnce es → AreNumberedOnce (put_at es i ((get_or es i d).0, phase))
  once-set es i d phase once = subst (IsDistinct (λ n m. n == m)) (sym (numbers-set es i d phase)) once

  all_left : (P : ℕ → Type 0) (es : List (ℕ × code_phase.Phase Z)) (i : ℕ) → AllByRecursion P (map (λ e. e.0) es) → AllByRecursion P (map (λ e. e.0) (remove es i))
  all_left P [] zero h = h
  all_left P [] (suc i) h = h
  all_left P (e ∷ es) zero h = h.1
  all_left P (e ∷ es) (suc i) h = (h.0, all_left P es i h.1)

  -- where one ends
  pub once-remove : (es : List (ℕ × code_phase.Phase Z)) (i : ℕ) → AreNumberedOnce es → AreNumberedOnce (remove es i)
  unfolding IsDistinct
  once-remove [] zero once = once
  once-remove [] (suc i) once = once
  once-remove (e ∷ es) zero once = once.1
  once-remove (e ∷ es) (suc i) once = (all_left (λ m. (e.0 == m) ≡ false) es i once.0, once-remove es i once.1)

  any_number : (es : List (ℕ × code_phase.Phase Z)) (number : ℕ) → under es number ≡ None → list_any (λ m. number == m) (map (λ e. e.0) es) ≡ false
  any_number [] number none = refl
  any_number (e ∷ es) number none = by (number == e.0) refl (any_number es number)
    where
      by : (b : Bool) → (number == e.0) ≡ b → (under es number ≡ None → list_any (λ m. number == m) (map (λ e. e.0) es) ≡ false) → (b || list_any (λ m. number == m) (map (λ e. e.0) es)) ≡ false
      by true is rest =
          let some : Some e.1 ≡ None = ap (λ b. cond b (Some e.1) (under es number)) (sym is) ∙ none in
          cc
      by false is rest = rest (ap (λ b. cond b (Some e.1) (under es number)) (sym is) ∙ none)

  -- and where one begins
  pub once-push : (es : List (ℕ × code_phase.Phase Z)) (number : ℕ) (phase : code_phase.Phase Z) → under es number ≡ None → AreNumberedOnce es → AreNumberedOnce (es ++ (number, phase) ∷ [])
  once-push es number phase none once =
      subst (IsDistinct (λ n m. n == m)) (sym (numbers-push es))
      (IsDistinct-push nat_eq_equiv (map (λ e. e.0) es) number once (any_number es number none))
    where
      numbers-push : (es : List (ℕ × code_phase.Phase Z)) → map (λ e. e.0) (es ++ (number, phase) ∷ []) ≡ map (λ e. e.0) es ++ number ∷ []
      numbers-push [] = refl
      numbers-push (e ∷ es) = ap (λ ns. e.0 ∷ ns) (numbers-push es)

  -- what the model's map has under a number is what the list has there
  pub get-session : (es : List (ℕ × code_phase.Phase Z)) (q : ℕ) → get (session_phases_of es) q ≡ option_map phase_of (under es q)
  unfolding session_phases_of
  get-session es q = get-from_entries nat_cmp_total (map (λ e. (e.0, phase_of e.1)) es) q ∙ go es
    where
      go : (es : List (ℕ × code_phase.Phase Z)) → find nat_cmp q (map (λ e. (e.0, phase_of e.1)) es) ≡ option_map phase_of (under es q)
      go [] = refl
      go (e ∷ es) =
          ap (λ b. cond b (Some (phase_of e.1)) (find nat_cmp q (map (λ e. (e.0, phase_of e.1)) es))) (sym (unsigned_ties q e.0))
          ∙ elim (q == e.0) as (λ b. cond b (Some (phase_of e.1)) (find nat_cmp q (map (λ e. (e.0, phase_of e.1)) es)) ≡ option_map phase_of (cond b (Some e.1) (under es q))) [
            | true ↦ refl
            | false ↦ go es
          ]

  -- a list without phases
  pub session-none : (es : List (ℕ × code_phase.Phase Z)) → es ≡ [] → session_phases_of es ≡ empty
  unfolding session_phases_of
  session-none es e = ap (λ (es : List (ℕ × code_phase.Phase Z)). from_entries (map (λ e. (e.0, phase_of e.1)) es)) e

  -- what a look-up answered
  pub session-found : (es : List (ℕ × code_phase.Phase Z)) (number i : ℕ) (d : ℕ × code_phase.Phase Z) (old : FinMap nat_cmp ReadPhase) → session_phases_of es ≡ old → Some i ≡ position (λ e. e.0 == number) es → Some (phase_of (get_or es i d).1) ≡ get old number
  session-found es number i d old view at =
      ap (option_map phase_of) (sym (under-place es number i d (stands es number i d at)))
      ∙ sym (get-session es number)
      ∙ ap (λ m. get m number) view

  pub session-missing : (es : List (ℕ × code_phase.Phase Z)) (number : ℕ) (old : FinMap nat_cmp ReadPhase) → session_phases_of es ≡ old → None ≡ position (λ e. e.0 == number) es → None ≡ get old number
  session-missing es number old view at =
      ap (option_map phase_of) (sym (missing es number at))
      ∙ sym (get-session es number)
      ∙ ap (λ m. get m number) view

  chosen : (b : Bool) (o p : Option (code_phase.Phase Z)) → option_map phase_of (cond b o p) ≡ cond b (option_map phase_of o) (option_map phase_of p)
  chosen true o p = refl
  chosen false o p = refl

  get-changed : (es fs : List (ℕ × code_phase.Phase Z)) (number : ℕ) (o : Option (code_phase.Phase Z)) → ((q : ℕ) → under fs q ≡ cond (q == number) o (under es q))
      → (q : ℕ) → get (session_phases_of fs) q ≡ cond (eq_by_cmp nat_cmp q number) (option_map phase_of o) (get (session_phases_of es) q)
  get-changed es fs number o is q =
      get-session fs q
      ∙ ap (option_map phase_of) (is q)
      ∙ chosen (q == number) o (under es q)
      ∙ ap (λ b. cond b (option_map phase_of o) (option_map phase_of (under es q))) (unsigned_ties q number)
      ∙ ap (λ p. cond (eq_by_cmp nat_cmp q number) (option_map phase_of o) p) (sym (get-session es q))

  session-inserted : (es fs : List (ℕ × code_phase.Phase Z)) (number : ℕ) (phase : code_phase.Phase Z) (old : FinMap nat_cmp ReadPhase) → session_phases_of es ≡ old → ((q : ℕ) → under fs q ≡ cond (q == number) (Some phase) (under es q))
      → session_phases_of fs ≡ insert old number (phase_of phase)
  session-inserted es fs number phase old view is =
      same_session _ _ (λ q. get-changed es fs number (Some phase) is q ∙ sym (get-insert nat_cmp_total (session_phases_of es) number (phase_of phase) q))
      ∙ ap (λ m. insert m number (phase_of phase)) view

  -- a phase that ends
  pub session-removed : (es : List (ℕ × code_phase.Phase Z)) (number i : ℕ) (d : ℕ × code_phase.Phase Z) (old : FinMap nat_cmp ReadPhase) → AreNumberedOnce es → session_phases_of es ≡ old → Some i ≡ position (λ e. e.0 == number) es
      → session_phases_of (remove es i) ≡ finite.remove old number
  session-removed es number i d old once view at =
      same_session _ _ (λ q. get-changed es (remove es i) number None (under-remove es number i d once (stands es number i d at)) q ∙ sym (get-remove nat_cmp_total (session_phases_of es) number q))
      ∙ ap (λ m. finite.remove m number) view

  -- one that isn't there may end
  pub session-absent : (es : List (ℕ × code_phase.Phase Z)) (number : ℕ) (old : FinMap nat_cmp ReadPhase) → session_phases_of es ≡ old → None ≡ position (λ e. e.0 == number) es → old ≡ finite.remove old number
  session-absent es number old view at = same_session _ _ (λ q. by q (q == number) refl ∙ sym (get-remove nat_cmp_total old number q))
    where
      by : (q : ℕ) (b : Bool) → (q == number) ≡ b → get old q ≡ cond (eq_by_cmp nat_cmp q number) None (get old q)
      by q true e =
          ap (get old) (eqb-true q number e)
          ∙ sym (session-missing es number old view at)
          ∙ ap (λ b. cond b None (get old q)) (sym e ∙ unsigned_ties q number)
      by q false e = ap (λ b. cond b None (get old q)) (sym e ∙ unsigned_ties q number)

  -- a phase with one more read than it had
  pub session-noted : (es : List (ℕ × code_phase.Phase Z)) (number i : ℕ) (d : ℕ × code_phase.Phase Z) (phase : code_phase.Phase Z) (start : ℕ) (read : Observation) (old : FinMap nat_cmp ReadPhase)
      → session_phases_of es ≡ old → Some i ≡ position (λ e. e.0 == number) es → phase.start ≡ start → phase.reads ≡ (get_or es i d).1.reads ++ read ∷ []
      → session_phases_of (put_at es i ((get_or es i d).0, phase)) ≡ insert old number (record { start = start; reads = reads_of (get old number) ++ read ∷ [] })
  session-noted es number i d phase start read old view at starts reads =
      let all : phase.reads ≡ reads_of (get old number) ++ read ∷ [] = reads ∙ ap (λ o. reads_of o ++ read ∷ []) (session-found es number i d old view at) in
      session-inserted es (put_at es i ((get_or es i d).0, phase)) number phase old view (under-set es number i d phase (stands es number i d at))
      ∙ (λ j. insert old number (record { start = starts j; reads = all j }))

  -- a phase with its first read
  pub session-begun : (es : List (ℕ × code_phase.Phase Z)) (number : ℕ) (phase : code_phase.Phase Z) (start : ℕ) (read : Observation) (old : FinMap nat_cmp ReadPhase)
      → session_phases_of es ≡ old → None ≡ position (λ e. e.0 == number) es → phase.start ≡ start → phase.reads ≡ read ∷ []
      → session_phases_of (es ++ (number, phase) ∷ []) ≡ insert old number (record { start = start; reads = reads_of (get old number) ++ read ∷ [] })
  session-begun es number phase start read old view at starts reads =
      let all : phase.reads ≡ reads_of (get old number) ++ read ∷ [] = reads ∙ ap (λ o. reads_of o ++ read ∷ []) (session-missing es number old view at) in
      session-inserted es (es ++ (number, phase) ∷ []) number phase old view (under-push es number phase (missing es number at))
      ∙ (λ j. insert old number (record { start = starts j; reads = all j }))
