-- The latest row of a session takes another standing, and a row goes to the end.
use Rattle.std.proofs.Common.{◌≡◌, ℕ, ◌+◌, ◌⊎◌, inl, inr, Bool, true, false, cond, ◌&&◌, ◌||◌, List, [], ◌∷◌, ◌++◌, map, length, Option, None, Some, refl, sym, ap, subst, ◌∙◌, arith}
use Rattle.std.specs.Prelude.{if◌then◌else◌, ◌==◌, filter}
use Rattle.std.proofs.lemmas.Bool.{eqb-true, eq-eqb}
use Rattle.std.specs.Ordering.{nat_cmp}
use Rattle.std.specs.FinSet.{FinSet, contains}
use Rattle.occ_types.specs.Question.{Question}
use Rattle.occ_model.specs.State.{meets_question}
use Rattle.occ_model.specs.Log.{LogRow, Standing, Open, Writing, Done, Back, is_writing, is_active, numbers}
use Rattle.occ_model.specs.World.{latest, turn}
use Rattle.occ_model.specs.Invariant.{finished_after, is_touched, NumberIsBelow, NumbersAreBelow, OneUnderWay, ActiveAreHeld}
use Rattle.occ_model.proofs.Tests.{or_left, or_right, and_true, both_true, clash, decided}
use Rattle.occ_model.proofs.Logs.{standing_at}

-- the log around the latest row of a session, before it turns and after
pub record Around (session : ℕ) (row : LogRow) (standing : Standing) (log : List LogRow) : Type 0 where
  pub before : List LogRow
  pub later : List LogRow
  pub was : log ≡ before ++ row ∷ later
  pub now : turn session standing log ≡ before ++ standing_at row standing ∷ later
  pub none_later : latest session later ≡ None
  pub session_is : row.session ≡ session

pub around : (session : ℕ) (log : List LogRow) (row : LogRow) (standing : Standing) → latest session log ≡ Some row → Around session row standing log
around session [] row standing is = cc
around session (x ∷ xs) row standing is = go (latest session xs) refl (around session xs row standing) is
  where
    first : (b : Bool) → (x.session == session) ≡ b → latest session xs ≡ None → (if b then Some x else None) ≡ Some row → Around session row standing (x ∷ xs)
    first true e none found =
        let same : x ≡ row = cc in
        record {
          before = [];
          later = xs;
          was = ap (λ r. r ∷ xs) same;
          now = ap (λ l. elim l [ None ↦ (if x.session == session then standing_at x standing else x) ∷ xs | Some later ↦ x ∷ turn session standing xs ]) none
              ∙ ap (λ b. (if b then standing_at x standing else x) ∷ xs) e ∙ ap (λ r. standing_at r standing ∷ xs) same;
          none_later = none;
          session_is = ap (λ r. r.session) (sym same) ∙ eqb-true x.session session e;
        }
    first false e none found = cc

    go : (l : Option LogRow) → latest session xs ≡ l → (latest session xs ≡ Some row → Around session row standing xs)
        → (elim l as (λ _. Option LogRow) [ None ↦ if x.session == session then Some x else None | Some later ↦ Some later ]) ≡ Some row → Around session row standing (x ∷ xs)
    go None none onward found = first (x.session == session) refl none found
    go (Some later) there onward found =
        let r = onward (there ∙ found) in
        record {
          before = x ∷ r.before;
          later = r.later;
          was = ap (λ l. x ∷ l) r.was;
          now = ap (λ l. elim l as (λ _. List LogRow) [ None ↦ (if x.session == session then standing_at x standing else x) ∷ xs | Some later ↦ x ∷ turn session standing xs ]) there
              ∙ ap (λ l. x ∷ l) r.now;
          none_later = r.none_later;
          session_is = r.session_is;
        }

module _ (row turned : LogRow) (later : List LogRow) (same_session : turned.session ≡ row.session) (same_number : turned.number ≡ row.number) (same_writes : turned.writes ≡ row.writes) where
  pub numbers-turn : (session : ℕ) (before : List LogRow) → numbers session (before ++ turned ∷ later) ≡ numbers session (before ++ row ∷ later)
  numbers-turn session [] =
      (λ i. map (λ r. r.number) (cond (same_session i == session) (turned ∷ filter (λ r. r.session == session) later) (filter (λ r. r.session == session) later)))
      ∙ pushed (row.session == session)
    where
      pushed : (b : Bool) → map (λ r. r.number) (cond b (turned ∷ filter (λ r. r.session == session) later) (filter (λ r. r.session == session) later))
          ≡ map (λ r. r.number) (cond b (row ∷ filter (λ r. r.session == session) later) (filter (λ r. r.session == session) later))
      pushed true = ap (λ n. n ∷ map (λ r. r.number) (filter (λ r. r.session == session) later)) same_number
      pushed false = refl
  numbers-turn session (x ∷ xs) = front (x.session == session) (numbers-turn session xs)
    where
      front : (b : Bool) → numbers session (xs ++ turned ∷ later) ≡ numbers session (xs ++ row ∷ later)
          → map (λ r. r.number) (cond b (x ∷ filter (λ r. r.session == session) (xs ++ turned ∷ later)) (filter (λ r. r.session == session) (xs ++ turned ∷ later)))
          ≡ map (λ r. r.number) (cond b (x ∷ filter (λ r. r.session == session) (xs ++ row ∷ later)) (filter (λ r. r.session == session) (xs ++ row ∷ later)))
      front true e = ap (λ l. x.number ∷ l) e
      front false e = e

  pub places-turn : turned.place ≡ row.place → (before : List LogRow) → map (λ r. r.place) (before ++ turned ∷ later) ≡ map (λ r. r.place) (before ++ row ∷ later)
  places-turn same [] = ap (λ p. p ∷ map (λ r. r.place) later) same
  places-turn same (x ∷ xs) = ap (λ l. x.place ∷ l) (places-turn same xs)

  pub is_touched-turn : (start : ℕ) (question : Question) → ((finished_after start row.standing || is_writing row.standing) ≡ true → (finished_after start turned.standing || is_writing turned.standing) ≡ true)
      → (before : List LogRow) → is_touched start question (before ++ row ∷ later) ≡ true → is_touched start question (before ++ turned ∷ later) ≡ true
  is_touched-turn start question still [] touched = decided ((finished_after start row.standing || is_writing row.standing) && meets_question row.writes question)
      (λ here. let parts = and_true _ _ here in or_left _ _ (both_true _ _ (still parts.0) (ap (λ w. meets_question w question) same_writes ∙ parts.1)))
      (λ away. or_right _ _ (sym (ap (λ b. b || is_touched start question later) away) ∙ touched))
  is_touched-turn start question still (x ∷ xs) touched = decided ((finished_after start x.standing || is_writing x.standing) && meets_question x.writes question)
      (λ here. or_left _ _ here)
      (λ away. or_right _ _ (is_touched-turn start question still xs (sym (ap (λ b. b || is_touched start question (xs ++ row ∷ later)) away) ∙ touched)))

  -- where a session has no row, it has none after the turn
  latest-turn : (session : ℕ) (before : List LogRow) → latest session (before ++ row ∷ later) ≡ None → latest session (before ++ turned ∷ later) ≡ None
  latest-turn session [] none = go (latest session later) none
    where
      test : (b : Bool) → (if b then Some row else None) ≡ None → (if b then Some turned else None) ≡ None
      test true e = cc
      test false e = refl

      go : (l : Option LogRow) → (elim l as (λ _. Option LogRow) [ None ↦ if row.session == session then Some row else None | Some r ↦ Some r ]) ≡ None
          → (elim l as (λ _. Option LogRow) [ None ↦ if turned.session == session then Some turned else None | Some r ↦ Some r ]) ≡ None
      go None e = subst (λ s. (if s == session then Some turned else None) ≡ None) (sym same_session) (test (row.session == session) e)
      go (Some r) e = cc
  latest-turn session (x ∷ xs) none = go (latest session (xs ++ row ∷ later)) refl none (latest-turn session xs)
    where
      go : (l : Option LogRow) → latest session (xs ++ row ∷ later) ≡ l
          → (elim l as (λ _. Option LogRow) [ None ↦ if x.session == session then Some x else None | Some r ↦ Some r ]) ≡ None
          → (latest session (xs ++ row ∷ later) ≡ None → latest session (xs ++ turned ∷ later) ≡ None)
          → (elim (latest session (xs ++ turned ∷ later)) as (λ _. Option LogRow) [ None ↦ if x.session == session then Some x else None | Some r ↦ Some r ]) ≡ None
      go None is e onward = ap (λ l. elim l as (λ _. Option LogRow) [ None ↦ if x.session == session then Some x else None | Some r ↦ Some r ]) (onward is) ∙ e
      go (Some r) is e onward = cc

  pub OneUnderWay-turn : (is_active turned.standing ≡ true → is_active row.standing ≡ true) → (before : List LogRow) → OneUnderWay (before ++ row ∷ later) → OneUnderWay (before ++ turned ∷ later)
  OneUnderWay-turn down [] one = (λ active. ap (λ s. latest s later) same_session ∙ one.0 (down active), one.1)
  OneUnderWay-turn down (x ∷ xs) one = (λ active. latest-turn x.session xs (one.0 active), OneUnderWay-turn down xs one.1)

  pub ActiveAreHeld-turn : (held : FinSet nat_cmp) → (is_active turned.standing ≡ true → is_active row.standing ≡ true) → (before : List LogRow) → ActiveAreHeld held (before ++ row ∷ later) → ActiveAreHeld held (before ++ turned ∷ later)
  ActiveAreHeld-turn held down [] are = (λ active. ap (contains held) same_session ∙ are.0 (down active), are.1)
  ActiveAreHeld-turn held down (x ∷ xs) are = (are.0, ActiveAreHeld-turn held down xs are.1)

  pub NumbersAreBelow-turn : (counter : ℕ) → NumberIsBelow counter turned.standing → (before : List LogRow) → NumbersAreBelow counter (before ++ row ∷ later) → NumbersAreBelow counter (before ++ turned ∷ later)
  NumbersAreBelow-turn counter new [] are = (new, are.1)
  NumbersAreBelow-turn counter new (x ∷ xs) are = (are.0, NumbersAreBelow-turn counter new xs are.1)

-- a turn leaves how many rows a session has
pub entered_turned : (turning : ℕ) (row : LogRow) (standing : Standing) (log : List LogRow) → latest turning log ≡ Some row → (session : ℕ)
    → length (numbers session (turn turning standing log)) ≡ length (numbers session log)
entered_turned turning row standing log is session =
    let a = around turning log row standing is in
    ap (λ l. length (numbers session l)) a.now
    ∙ ap length (numbers-turn row (standing_at row standing) a.later refl refl refl session a.before)
    ∙ ap (λ l. length (numbers session l)) (sym a.was)

-- the latest row of a session, where no later row is of it
pub latest-at : (session : ℕ) (row : LogRow) (before later : List LogRow) → latest session later ≡ None → row.session ≡ session → latest session (before ++ row ∷ later) ≡ Some row
latest-at session row [] later none is =
    ap (λ l. elim l as (λ _. Option LogRow) [ None ↦ if row.session == session then Some row else None | Some r ↦ Some r ]) none
    ∙ ap (λ b. if b then Some row else None) (eq-eqb row.session session is)
latest-at session row (x ∷ xs) later none is =
    ap (λ l. elim l as (λ _. Option LogRow) [ None ↦ if x.session == session then Some x else None | Some r ↦ Some r ]) (latest-at session row xs later none is)

-- the latest row of each session: the turned one, or what it was
pub latest_turned : (session : ℕ) (row : LogRow) (standing : Standing) (log : List LogRow) → Around session row standing log
    → (s : ℕ) (later : LogRow) → latest s (turn session standing log) ≡ Some later → ((s ≡ session) × (later ≡ standing_at row standing)) ⊎ ((s ≡ session → ⊥) × (latest s log ≡ Some later))
latest_turned session row standing log r s later is = decided (s == session)
    (λ same. let e : s ≡ session = eqb-true s session same in
    let at : latest session (turn session standing log) ≡ Some turned = ap (latest session) r.now ∙ latest-at session turned r.before r.later r.none_later r.session_is in
    let both : Some turned ≡ Some later = sym at ∙ ap (λ t. latest t (turn session standing log)) (sym e) ∙ is in
    inl (e, cc))
    (λ other. let ne : s ≡ session → ⊥ = λ e. clash (s == session) (eq-eqb s session e) other in
    inr (ne, ap (latest s) r.was ∙ sym (skip ne r.before) ∙ sym (ap (latest s) r.now) ∙ is))
  where
    turned : LogRow
    turned = standing_at row standing

    unlike : (x : LogRow) → x.session ≡ session → (s ≡ session → ⊥) → (x.session == s) ≡ false
    unlike x is ne = decided (x.session == s) (λ e. absurd (ne (sym (eqb-true x.session s e) ∙ is))) (λ e. e)

    skip : (s ≡ session → ⊥) → (before : List LogRow) → latest s (before ++ turned ∷ r.later) ≡ latest s (before ++ row ∷ r.later)
    skip ne [] =
        ap (λ b. elim (latest s r.later) as (λ _. Option LogRow) [ None ↦ if b then Some turned else None | Some l ↦ Some l ]) (unlike row r.session_is ne)
        ∙ sym (ap (λ b. elim (latest s r.later) as (λ _. Option LogRow) [ None ↦ if b then Some row else None | Some l ↦ Some l ]) (unlike row r.session_is ne))
    skip ne (x ∷ xs) = ap (λ l. elim l as (λ _. Option LogRow) [ None ↦ if x.session == s then Some x else None | Some l ↦ Some l ]) (skip ne xs)

-- a row goes to the end

pub latest-push : (session : ℕ) (row : LogRow) (rows : List LogRow) → latest session (rows ++ row ∷ []) ≡ (if row.session == session then Some row else latest session rows)
latest-push session row [] = refl
latest-push session row (x ∷ xs) =
    ap (λ l. elim l as (λ _. Option LogRow) [ None ↦ if x.session == session then Some x else None | Some r ↦ Some r ]) (latest-push session row xs)
    ∙ split (row.session == session)
  where
    split : (b : Bool) → (elim (if b then Some row else latest session xs) as (λ _. Option LogRow) [ None ↦ if x.session == session then Some x else None | Some r ↦ Some r ])
        ≡ (if b then Some row else latest session (x ∷ xs))
    split true = refl
    split false = refl

pub OneUnderWay-push : (row : LogRow) (rows : List LogRow) (held : FinSet nat_cmp) → OneUnderWay rows → ActiveAreHeld held rows → contains held row.session ≡ false → OneUnderWay (rows ++ row ∷ [])
OneUnderWay-push row [] held one are free = (λ active. refl, tt)
OneUnderWay-push row (x ∷ xs) held one are free = (
  λ active. latest-push x.session row xs
      ∙ ap (λ b. if b then Some row else latest x.session xs) (decided (row.session == x.session)
      (λ same. clash (contains held row.session) (ap (contains held) (eqb-true row.session x.session same) ∙ are.0 active) free) (λ other. other))
      ∙ one.0 active,
  OneUnderWay-push row xs held one.1 are.1 free,
)

pub ActiveAreHeld-push : (row : LogRow) (rows : List LogRow) (held : FinSet nat_cmp) → ActiveAreHeld held rows → (is_active row.standing ≡ true → contains held row.session ≡ true) → ActiveAreHeld held (rows ++ row ∷ [])
ActiveAreHeld-push row [] held are last = (last, tt)
ActiveAreHeld-push row (x ∷ xs) held are last = (are.0, ActiveAreHeld-push row xs held are.1 last)

pub ActiveAreHeld-map : (held other : FinSet nat_cmp) → ((session : ℕ) → contains held session ≡ true → contains other session ≡ true) → (rows : List LogRow) → ActiveAreHeld held rows → ActiveAreHeld other rows
ActiveAreHeld-map held other wider [] are = tt
ActiveAreHeld-map held other wider (x ∷ xs) are = (λ active. wider x.session (are.0 active), ActiveAreHeld-map held other wider xs are.1)

-- a session is let go whose latest row isn't active
pub ActiveAreHeld-free : (held other : FinSet nat_cmp) (session : ℕ) → ((s : ℕ) → (s ≡ session → ⊥) → contains held s ≡ true → contains other s ≡ true)
    → (rows : List LogRow) → OneUnderWay rows → ((row : LogRow) → latest session rows ≡ Some row → is_active row.standing ≡ false) → ActiveAreHeld held rows → ActiveAreHeld other rows
ActiveAreHeld-free held other session others [] one idle are = tt
ActiveAreHeld-free held other session others (x ∷ xs) one idle are = (
  λ active. others x.session (λ same. clash (is_active x.standing) active
      (idle x (ap (λ l. elim l as (λ _. Option LogRow) [ None ↦ if x.session == session then Some x else None | Some r ↦ Some r ]) (ap (λ s. latest s xs) (sym same) ∙ one.0 active)
      ∙ ap (λ b. if b then Some x else None) (eq-eqb x.session session same)))) (are.0 active),
  ActiveAreHeld-free held other session others xs one.1
      (λ row is. idle row (ap (λ l. elim l as (λ _. Option LogRow) [ None ↦ if x.session == session then Some x else None | Some r ↦ Some r ]) is)) are.1,
)

pub NumbersAreBelow-push : (counter : ℕ) (row : LogRow) (rows : List LogRow) → NumbersAreBelow counter rows → NumberIsBelow counter row.standing → NumbersAreBelow counter (rows ++ row ∷ [])
NumbersAreBelow-push counter row [] are last = (last, tt)
NumbersAreBelow-push counter row (x ∷ xs) are last = (are.0, NumbersAreBelow-push counter row xs are.1 last)

NumberIsBelow-up : (counter : ℕ) (s : Standing) → NumberIsBelow counter s → NumberIsBelow (counter + 1) s
NumberIsBelow-up counter (Open index case) is = tt
NumberIsBelow-up counter (Writing done) is = tt
NumberIsBelow-up counter (Done number) is = omega arith
NumberIsBelow-up counter (Back cause) is = tt

pub NumbersAreBelow-up : (counter : ℕ) (rows : List LogRow) → NumbersAreBelow counter rows → NumbersAreBelow (counter + 1) rows
NumbersAreBelow-up counter [] are = tt
NumbersAreBelow-up counter (x ∷ xs) are = (NumberIsBelow-up counter x.standing are.0, NumbersAreBelow-up counter xs are.1)

pub is_touched-push : (start : ℕ) (question : Question) (row : LogRow) (rows : List LogRow) → is_touched start question rows ≡ true → is_touched start question (rows ++ row ∷ []) ≡ true
is_touched-push start question row [] touched = cc
is_touched-push start question row (x ∷ xs) touched = decided ((finished_after start x.standing || is_writing x.standing) && meets_question x.writes question)
    (λ here. or_left _ _ here)
    (λ away. or_right _ _ (is_touched-push start question row xs (sym (ap (λ b. b || is_touched start question xs) away) ∙ touched)))
