-- The read phases of all sessions, seen as the model has them: what a look-up finds, and what a change of one session's does.
use Rattle.std.proofs.Common.{◌≡◌, ◌<◌, ◌≤◌, ℕ, zero, suc, Bool, true, false, cond, not, List, [], ◌∷◌, ◌++◌, Option, None, Some, length, slice_get, get_or, set as put_at, refl, sym, ap, ◌∙◌, ◌==◌, ◌&&◌, map, arith}
use Rattle.std.specs.Ordering.{nat_cmp, is_eq, eq_by_cmp}
use Rattle.std.specs.Cmp.{nat_cmp_total, unsigned_ties, both_ways, Equal-is, tied_itself}
use Rattle.std.specs.FinMap.{FinMap, empty, entries, get, insert, retain_keys, find, get-entries, get-empty, get-from_entries, get-insert, get-remove, get-retain_keys, same_map}
use Rattle.std.specs.FinMap as finite
use Rattle.std.proofs.lemmas.Bool.{eqb-true, eq-eqb, ne_eqb}
use Rattle.occ_model.specs.World.{ReadPhase, phase_cmp}
use Rattle.occ_model.proofs.Phases.{phase_cmp_total, phase_cmp-IsAntisymmetric}
use Rattle.occ_model.proofs.Tests as tests
use Rattle.occ_log.specs.Phases.{under_sessions, phases_of}

-- whether two phases have one session and one number
abbrev pub is_same : ℕ × ℕ → ℕ × ℕ → Bool
is_same q k = (q.0 == k.0) && (q.1 == k.1)

-- keys that tie are the same
tied : (q k : ℕ × ℕ) → eq_by_cmp phase_cmp q k ≡ true → q ≡ k
tied q k e = phase_cmp-IsAntisymmetric q k ((Equal-is (phase_cmp q k)).0 e)

-- the list finds by equality what the model finds by order
same-tied : (q k : ℕ × ℕ) → is_same q k ≡ eq_by_cmp phase_cmp q k
same-tied q k = both_ways (is_same q k) (eq_by_cmp phase_cmp q k)
    (λ e. let both = tests.and_true (q.0 == k.0) (q.1 == k.1) e in
    let same : q ≡ k = (λ i. (eqb-true q.0 k.0 both.0 i, eqb-true q.1 k.1 both.1 i)) in
    ap (eq_by_cmp phase_cmp q) (sym same) ∙ ap is_eq (tied_itself phase_cmp_total q))
    (λ e. let same = tied q k e in
    (λ i. eq-eqb q.0 k.0 (ap (λ (p : ℕ × ℕ). p.0) same) i && eq-eqb q.1 k.1 (ap (λ (p : ℕ × ℕ). p.1) same) i))

-- two maps of phases that answer alike are equal
pub same_phases : (m n : FinMap phase_cmp ReadPhase) → ((q : ℕ × ℕ) → get m q ≡ get n q) → m ≡ n
same_phases = same_map phase_cmp_total phase_cmp-IsAntisymmetric

-- what a session that may be there has under a number
abbrev pub phase_in : Option (FinMap nat_cmp ReadPhase) → ℕ → Option ReadPhase
phase_in None number = None
phase_in (Some phases) number = get phases number

-- the first session is none of the others
first : (s : ℕ) → (0 == suc s) ≡ false
first s = ne_eqb 0 (suc s) (λ e. omega (arith, e))

pub other : (s : ℕ) → (suc s == 0) ≡ false
other s = ne_eqb (suc s) 0 (λ e. omega (arith, e))

-- and these are counted one place lower among themselves
lower : (s t : ℕ) → (suc s == suc t) ≡ (s == t)
lower s t = both_ways (suc s == suc t) (s == t)
    (λ e. eq-eqb s t (omega (arith, eqb-true (suc s) (suc t) e)))
    (λ e. eq-eqb (suc s) (suc t) (omega (arith, eqb-true s t e)))

-- under another session nothing is found
past_first : (es : List (ℕ × ReadPhase)) (others : List ((ℕ × ℕ) × ReadPhase)) (s n : ℕ) → find phase_cmp (suc s, n) (map (λ e. ((0, e.0), e.1)) es ++ others) ≡ find phase_cmp (suc s, n) others
past_first [] others s n = refl
past_first (e ∷ es) others s n =
    ap (λ b. cond b (Some e.1) (find phase_cmp (suc s, n) (map (λ e. ((0, e.0), e.1)) es ++ others))) (sym (same-tied (suc s, n) (0, e.0)) ∙ ap (λ b. b && (n == e.0)) (other s))
    ∙ past_first es others s n

none_first : (es : List ((ℕ × ℕ) × ReadPhase)) (n : ℕ) → find phase_cmp (0, n) (map (λ e. ((suc e.0.0, e.0.1), e.1)) es) ≡ None
none_first [] n = refl
none_first (e ∷ es) n =
    ap (λ b. cond b (Some e.1) (find phase_cmp (0, n) (map (λ e. ((suc e.0.0, e.0.1), e.1)) es))) (sym (same-tied (0, n) (suc e.0.0, e.0.1)) ∙ ap (λ b. b && (n == e.0.1)) (first e.0.0))
    ∙ none_first es n

in_first : (es : List (ℕ × ReadPhase)) (others : List ((ℕ × ℕ) × ReadPhase)) (n : ℕ) → find phase_cmp (0, n) others ≡ None → find phase_cmp (0, n) (map (λ e. ((0, e.0), e.1)) es ++ others) ≡ find nat_cmp n es
in_first [] others n none = none
in_first (e ∷ es) others n none =
    ap (λ b. cond b (Some e.1) (find phase_cmp (0, n) (map (λ e. ((0, e.0), e.1)) es ++ others))) (sym (same-tied (0, n) (0, e.0)) ∙ unsigned_ties n e.0)
    ∙ ap (cond (eq_by_cmp nat_cmp n e.0) (Some e.1)) (in_first es others n none)

among_others : (es : List ((ℕ × ℕ) × ReadPhase)) (s n : ℕ) → find phase_cmp (suc s, n) (map (λ e. ((suc e.0.0, e.0.1), e.1)) es) ≡ find phase_cmp (s, n) es
among_others [] s n = refl
among_others (e ∷ es) s n =
    ap (λ b. cond b (Some e.1) (find phase_cmp (suc s, n) (map (λ e. ((suc e.0.0, e.0.1), e.1)) es))) (sym (same-tied (suc s, n) (suc e.0.0, e.0.1)) ∙ ap (λ b. b && (n == e.0.1)) (lower s e.0.0) ∙ same-tied (s, n) e.0)
    ∙ ap (cond (eq_by_cmp phase_cmp (s, n) e.0) (Some e.1)) (among_others es s n)

find-under : (ms : List (FinMap nat_cmp ReadPhase)) (s n : ℕ) → find phase_cmp (s, n) (under_sessions ms) ≡ phase_in (slice_get ms s) n
find-under [] s n = refl
find-under (m ∷ ms) zero n =
    in_first (entries m) (map (λ e. ((suc e.0.0, e.0.1), e.1)) (under_sessions ms)) n (none_first (under_sessions ms) n)
    ∙ sym (get-entries m n)
find-under (m ∷ ms) (suc s) n =
    past_first (entries m) (map (λ e. ((suc e.0.0, e.0.1), e.1)) (under_sessions ms)) s n
    ∙ among_others (under_sessions ms) s n
    ∙ find-under ms s n

-- what the model's map has is what the session's has
pub get-phases : (ms : List (FinMap nat_cmp ReadPhase)) (s n : ℕ) → get (phases_of ms) (s, n) ≡ phase_in (slice_get ms s) n
unfolding phases_of
get-phases ms s n = get-from_entries phase_cmp_total (under_sessions ms) (s, n) ∙ find-under ms s n

-- no session has a phase yet
pub phases-none : (ms : List (FinMap nat_cmp ReadPhase)) → ms ≡ [] → phases_of ms ≡ empty
phases-none ms e = same_phases _ _ (λ q. get-phases ms q.0 q.1 ∙ ap (λ (ms : List (FinMap nat_cmp ReadPhase)). phase_in (slice_get ms q.0) q.1) e ∙ sym (get-empty phase_cmp q))

-- what a look-up in a session answered
pub phases-found : (ms : List (FinMap nat_cmp ReadPhase)) (s n : ℕ) (o : Option (FinMap nat_cmp ReadPhase)) (old : FinMap phase_cmp ReadPhase) → phases_of ms ≡ old → o ≡ slice_get ms s → phase_in o n ≡ get old (s, n)
phases-found ms s n o old view is = ap (λ o. phase_in o n) is ∙ sym (get-phases ms s n) ∙ ap (λ m. get m (s, n)) view

slice-put : (ms : List (FinMap nat_cmp ReadPhase)) (s t : ℕ) (m : FinMap nat_cmp ReadPhase) → s < length ms → slice_get (put_at ms s m) t ≡ cond (t == s) (Some m) (slice_get ms t)
slice-put [] s t m lt = absurd (omega (arith, lt))
slice-put (x ∷ xs) zero zero m lt = refl
slice-put (x ∷ xs) zero (suc t) m lt = ap (λ b. cond b (Some m) (slice_get xs t)) (sym (other t))
slice-put (x ∷ xs) (suc s) zero m lt = ap (λ b. cond b (Some m) (Some x)) (sym (first s))
slice-put (x ∷ xs) (suc s) (suc t) m lt = slice-put xs s t m (omega (arith, lt)) ∙ ap (λ b. cond b (Some m) (slice_get xs t)) (sym (lower t s))

slice-at : (ms : List (FinMap nat_cmp ReadPhase)) (s : ℕ) (d : FinMap nat_cmp ReadPhase) → s < length ms → slice_get ms s ≡ Some (get_or ms s d)
slice-at [] s d lt = absurd (omega (arith, lt))
slice-at (x ∷ xs) zero d lt = refl
slice-at (x ∷ xs) (suc s) d lt = slice-at xs s d (omega (arith, lt))

-- what is found where one session's phases changed
get-put : (ms : List (FinMap nat_cmp ReadPhase)) (s : ℕ) (m : FinMap nat_cmp ReadPhase) → s < length ms → (q : ℕ × ℕ) → get (phases_of (put_at ms s m)) q ≡ cond (q.0 == s) (get m q.1) (get (phases_of ms) q)
get-put ms s m lt q =
    get-phases (put_at ms s m) q.0 q.1
    ∙ ap (λ o. phase_in o q.1) (slice-put ms s q.0 m lt)
    ∙ by (q.0 == s)
    ∙ ap (cond (q.0 == s) (get m q.1)) (sym (get-phases ms q.0 q.1))
  where
    by : (b : Bool) → phase_in (cond b (Some m) (slice_get ms q.0)) q.1 ≡ cond b (get m q.1) (phase_in (slice_get ms q.0) q.1)
    by true = refl
    by false = refl

-- a session's own part of the map
get-part : (ms : List (FinMap nat_cmp ReadPhase)) (s : ℕ) (d : FinMap nat_cmp ReadPhase) → s < length ms → (q : ℕ × ℕ) → (q.0 == s) ≡ true → get (get_or ms s d) q.1 ≡ get (phases_of ms) q
get-part ms s d lt q is =
    ap (λ o. phase_in o q.1) (sym (slice-at ms s d lt))
    ∙ ap (λ t. phase_in (slice_get ms t) q.1) (sym (eqb-true q.0 s is))
    ∙ sym (get-phases ms q.0 q.1)

module _ (ms : List (FinMap nat_cmp ReadPhase)) (s : ℕ) (d : FinMap nat_cmp ReadPhase) (old : FinMap phase_cmp ReadPhase) (lt : s < length ms) (view : phases_of ms ≡ old) where
  -- a change under one number of one session
  changed : (n : ℕ) (o : Option ReadPhase) (m : FinMap nat_cmp ReadPhase) → ((k : ℕ) → get m k ≡ cond (eq_by_cmp nat_cmp k n) o (get (get_or ms s d) k))
      → (q : ℕ × ℕ) → get (phases_of (put_at ms s m)) q ≡ cond (eq_by_cmp phase_cmp q (s, n)) o (get old q)
  changed n o m is q =
      get-put ms s m lt q
      ∙ by (q.0 == s) refl
      ∙ ap (λ b. cond b o (get (phases_of ms) q)) (same-tied q (s, n))
      ∙ ap (λ p. cond (eq_by_cmp phase_cmp q (s, n)) o (get p q)) view
    where
      by : (b : Bool) → (q.0 == s) ≡ b → cond b (get m q.1) (get (phases_of ms) q) ≡ cond (b && (q.1 == n)) o (get (phases_of ms) q)
      by true e =
          is q.1
          ∙ ap (λ b. cond b o (get (get_or ms s d) q.1)) (sym (unsigned_ties q.1 n))
          ∙ ap (cond (q.1 == n) o) (get-part ms s d lt q e)
      by false e = refl

  pub phases-inserted : (n : ℕ) (phase : ReadPhase) (m : FinMap nat_cmp ReadPhase) → m ≡ insert (get_or ms s d) n phase → phases_of (put_at ms s m) ≡ insert old (s, n) phase
  phases-inserted n phase m is =
      same_phases _ _ (λ q.
      changed n (Some phase) m (λ k. ap (λ p. get p k) is ∙ get-insert nat_cmp_total (get_or ms s d) n phase k) q
      ∙ sym (get-insert phase_cmp_total old (s, n) phase q))

  pub phases-removed : (n : ℕ) (m : FinMap nat_cmp ReadPhase) → m ≡ finite.remove (get_or ms s d) n → phases_of (put_at ms s m) ≡ finite.remove old (s, n)
  phases-removed n m is =
      same_phases _ _ (λ q.
      changed n None m (λ k. ap (λ p. get p k) is ∙ get-remove nat_cmp_total (get_or ms s d) n k) q
      ∙ sym (get-remove phase_cmp_total old (s, n) q))

  -- no phase of a session is left
  pub phases-cleared : (m : FinMap nat_cmp ReadPhase) → m ≡ empty → phases_of (put_at ms s m) ≡ retain_keys old (λ key. not (key.0 == s))
  phases-cleared m is =
      same_phases _ _ (λ q.
      get-put ms s m lt q
      ∙ ap (λ p. cond (q.0 == s) (get p q.1) (get (phases_of ms) q)) is
      ∙ ap (λ o. cond (q.0 == s) o (get (phases_of ms) q)) (get-empty nat_cmp q.1)
      ∙ by (q.0 == s) None (get (phases_of ms) q)
      ∙ ap (λ p. cond (not (q.0 == s)) (get p q) None) view
      ∙ sym (get-retain_keys old (λ key. not (key.0 == s)) q (λ k e. ap (λ (key : ℕ × ℕ). not (key.0 == s)) (sym (phase_cmp-IsAntisymmetric q k e)))))
    where
      by : (b : Bool) (x y : Option ReadPhase) → cond b x y ≡ cond (not b) y x
      by true x y = refl
      by false x y = refl

  -- what a session's own look-up answered
  pub phases-part : (n : ℕ) → get (get_or ms s d) n ≡ get old (s, n)
  phases-part n =
      ap (λ o. phase_in o n) (sym (slice-at ms s d lt))
      ∙ sym (get-phases ms s n)
      ∙ ap (λ m. get m (s, n)) view

beyond : (ms : List (FinMap nat_cmp ReadPhase)) (s : ℕ) → length ms ≤ s → slice_get ms s ≡ None
beyond [] s le = refl
beyond (x ∷ xs) zero le = absurd (omega (arith, le))
beyond (x ∷ xs) (suc s) le = beyond xs s (omega (arith, le))

-- a session that has no list has no phase
module _ (ms : List (FinMap nat_cmp ReadPhase)) (s : ℕ) (old : FinMap phase_cmp ReadPhase) (le : length ms ≤ s) (view : phases_of ms ≡ old) where
  pub phases-beyond : (n : ℕ) → None ≡ get old (s, n)
  phases-beyond n = ap (λ o. phase_in o n) (sym (beyond ms s le)) ∙ sym (get-phases ms s n) ∙ ap (λ m. get m (s, n)) view

  at_session : (q : ℕ × ℕ) → (q.0 == s) ≡ true → get old q ≡ None
  at_session q e = ap (λ t. get old (t, q.1)) (eqb-true q.0 s e) ∙ sym (phases-beyond q.1)

  pub none-removed : (n : ℕ) → old ≡ finite.remove old (s, n)
  none-removed n = same_phases _ _ (λ q.
      by q (q.0 == s) refl (q.1 == n)
      ∙ ap (λ b. cond b None (get old q)) (same-tied q (s, n))
      ∙ sym (get-remove phase_cmp_total old (s, n) q))
    where
      by : (q : ℕ × ℕ) (b : Bool) → (q.0 == s) ≡ b → (c : Bool) → get old q ≡ cond (b && c) None (get old q)
      by q true e true = at_session q e
      by q true e false = refl
      by q false e c = refl

  pub none-cleared : old ≡ retain_keys old (λ key. not (key.0 == s))
  none-cleared = same_phases _ _ (λ q.
      by q (q.0 == s) refl
      ∙ sym (get-retain_keys old (λ key. not (key.0 == s)) q (λ k e. ap (λ (key : ℕ × ℕ). not (key.0 == s)) (sym (phase_cmp-IsAntisymmetric q k e)))))
    where
      by : (q : ℕ × ℕ) (b : Bool) → (q.0 == s) ≡ b → get old q ≡ cond (not b) (get old q) None
      by q true e = at_session q e
      by q false e = refl

-- a session without phases more
pub phases-reached : (ms : List (FinMap nat_cmp ReadPhase)) (m : FinMap nat_cmp ReadPhase) → m ≡ empty → phases_of (ms ++ m ∷ []) ≡ phases_of ms
phases-reached ms m is = same_phases _ _ (λ q. get-phases (ms ++ m ∷ []) q.0 q.1 ∙ go ms q.0 q.1 ∙ sym (get-phases ms q.0 q.1))
  where
    go : (ms : List (FinMap nat_cmp ReadPhase)) (s n : ℕ) → phase_in (slice_get (ms ++ m ∷ []) s) n ≡ phase_in (slice_get ms s) n
    go [] zero n = ap (λ (p : FinMap nat_cmp ReadPhase). get p n) is ∙ get-empty nat_cmp n
    go [] (suc s) n = refl
    go (x ∷ xs) zero n = refl
    go (x ∷ xs) (suc s) n = go xs s n
