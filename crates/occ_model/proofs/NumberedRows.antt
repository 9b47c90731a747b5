-- The row of a session under a number, and the transaction number of its last one to finish, as rows come, turn and go.
use Rattle.std.proofs.Common.{◌≡◌, ℕ, ◌+◌, ◌<◌, ◌≤◌, ◌⊎◌, inl, inr, Bool, true, false, cond, ◌&&◌, List, [], ◌∷◌, ◌++◌, map, length, Option, None, Some, refl, sym, ap, subst, ◌∙◌, suc, arith}
use Rattle.std.specs.Prelude.{if◌then◌else◌, ◌==◌, filter}
use Rattle.std.proofs.lemmas.Bool.{eqb-true, eq-eqb}
use Rattle.occ_model.specs.Log.{LogRow, Standing, Counts, numbers}
use Rattle.occ_model.specs.World.{latest}
use Rattle.occ_model.specs.Poll.{row_numbered, done_number, last_done}
use Rattle.occ_model.proofs.Tests.{decided}
use Rattle.occ_model.proofs.Logs.{standing_at}
use Rattle.occ_model.proofs.Orders.{Counts-front, Counts-later, numbers-append}

-- two numbers that differ
pub unequal : (m n : ℕ) → (m ≡ n → ⊥) → (m == n) ≡ false
unequal m n ne = decided (m == n) (λ e. absurd (ne (eqb-true m n e))) (λ e. e)

-- whether a row is of a session, under a number
abbrev pub is_numbered : ℕ → ℕ → LogRow → Bool
is_numbered session n row = row.session == session && row.number == n

pub row_numbered-append : (session n : ℕ) (xs ys : List LogRow)
    → row_numbered session n (xs ++ ys) ≡ (elim (row_numbered session n xs) as (λ _. Option LogRow) [ None ↦ row_numbered session n ys | Some row ↦ Some row ])
row_numbered-append session n [] ys = refl
row_numbered-append session n (x ∷ xs) ys = go (is_numbered session n x) (row_numbered-append session n xs ys)
  where
    go : (b : Bool) → row_numbered session n (xs ++ ys) ≡ (elim (row_numbered session n xs) as (λ _. Option LogRow) [ None ↦ row_numbered session n ys | Some row ↦ Some row ])
        → (if b then Some x else row_numbered session n (xs ++ ys)) ≡ (elim (if b then Some x else row_numbered session n xs) as (λ _. Option LogRow) [ None ↦ row_numbered session n ys | Some row ↦ Some row ])
    go true e = refl
    go false e = e

-- a number that no row of the session has: those of its rows are the ones after `base`, without a gap
pub nobody : (session n base : ℕ) (log : List LogRow) → Counts (suc base) (numbers session log) → (n ≤ base) ⊎ (base + length (numbers session log) < n) → row_numbered session n log ≡ None
nobody session n base [] counts out = refl
nobody session n base (x ∷ xs) counts out = go (x.session == session) counts out (nobody session n base xs) (nobody session n (suc base) xs)
  where
    front : Bool → List ℕ
    front b = map (λ r. r.number) (cond b (x ∷ filter (λ r. r.session == session) xs) (filter (λ r. r.session == session) xs))

    differs : x.number ≡ suc base → (n ≤ base) ⊎ (base + suc (length (numbers session xs)) < n) → (x.number == n) ≡ false
    differs is (inl below) = unequal x.number n (λ e. absurd (omega arith))
    differs is (inr above) = unequal x.number n (λ e. absurd (omega arith))

    onward : (n ≤ base) ⊎ (base + suc (length (numbers session xs)) < n) → (n ≤ suc base) ⊎ (suc base + length (numbers session xs) < n)
    onward (inl below) = inl (omega arith)
    onward (inr above) = inr (omega arith)

    go : (b : Bool) → Counts (suc base) (front b) → (n ≤ base) ⊎ (base + length (front b) < n)
        → (Counts (suc base) (numbers session xs) → (n ≤ base) ⊎ (base + length (numbers session xs) < n) → row_numbered session n xs ≡ None)
        → (Counts (suc (suc base)) (numbers session xs) → (n ≤ suc base) ⊎ (suc base + length (numbers session xs) < n) → row_numbered session n xs ≡ None)
        → (if b && x.number == n then Some x else row_numbered session n xs) ≡ None
    go true c out same next = ap (λ b. if b then Some x else row_numbered session n xs) (differs c.0 out) ∙ next c.1 (onward out)
    go false c out same next = same c out

-- a session with no row in a list
none_of : (session : ℕ) (x : LogRow) (xs : List LogRow) → latest session (x ∷ xs) ≡ None → (latest session xs ≡ None) × ((x.session == session) ≡ false)
none_of session x xs none = go (latest session xs) refl none
  where
    first : (b : Bool) → (if b then Some x else None) ≡ None → b ≡ false
    first true e = cc
    first false e = refl

    go : (l : Option LogRow) → latest session xs ≡ l → (elim l as (λ _. Option LogRow) [ None ↦ if x.session == session then Some x else None | Some r ↦ Some r ]) ≡ None
        → (latest session xs ≡ None) × ((x.session == session) ≡ false)
    go None e none = (e, first (x.session == session) none)
    go (Some r) e none = cc

pub row_numbered-none : (session n : ℕ) (rows : List LogRow) → latest session rows ≡ None → row_numbered session n rows ≡ None
row_numbered-none session n [] none = refl
row_numbered-none session n (x ∷ xs) none =
    let no = none_of session x xs none in
    ap (λ b. if b && x.number == n then Some x else row_numbered session n xs) no.1 ∙ row_numbered-none session n xs no.0

pub last_done-none : (session : ℕ) (rows : List LogRow) → latest session rows ≡ None → last_done session rows ≡ None
last_done-none session [] none = refl
last_done-none session (x ∷ xs) none =
    let no = none_of session x xs none in
    ap (λ o. elim o as (λ _. Option ℕ) [ None ↦ if x.session == session then done_number x.standing else None | Some later ↦ Some later ]) (last_done-none session xs no.0)
    ∙ ap (λ b. if b then done_number x.standing else None) no.1

-- the row that is found under a number, where none before it has that
pub row_numbered-at : (session n : ℕ) (row : LogRow) (before later : List LogRow) → row_numbered session n before ≡ None → is_numbered session n row ≡ true
    → row_numbered session n (before ++ row ∷ later) ≡ Some row
row_numbered-at session n row before later none own =
    row_numbered-append session n before (row ∷ later)
    ∙ ap (λ o. elim o as (λ _. Option LogRow) [ None ↦ row_numbered session n (row ∷ later) | Some r ↦ Some r ]) none
    ∙ ap (λ b. if b then Some row else row_numbered session n later) own

-- a row with another number, or of another session, that turns
pub row_numbered-turned : (session n : ℕ) (row : LogRow) (standing : Standing) (later : List LogRow) → is_numbered session n row ≡ false → (before : List LogRow)
    → row_numbered session n (before ++ standing_at row standing ∷ later) ≡ row_numbered session n (before ++ row ∷ later)
row_numbered-turned session n row standing later other [] =
    ap (λ b. if b then Some (standing_at row standing) else row_numbered session n later) other
    ∙ sym (ap (λ b. if b then Some row else row_numbered session n later) other)
row_numbered-turned session n row standing later other (x ∷ xs) =
    ap (λ l. if is_numbered session n x then Some x else l) (row_numbered-turned session n row standing later other xs)

-- such a row that comes in
pub row_numbered-pushed : (session n : ℕ) (row : LogRow) → is_numbered session n row ≡ false → (rows : List LogRow) → row_numbered session n (rows ++ row ∷ []) ≡ row_numbered session n rows
row_numbered-pushed session n row other [] = ap (λ b. if b then Some row else None) other
row_numbered-pushed session n row other (x ∷ xs) = ap (λ l. if is_numbered session n x then Some x else l) (row_numbered-pushed session n row other xs)

-- no row before the latest one of a session has its number
pub first_numbered : (session base : ℕ) (row : LogRow) (before later : List LogRow) → Counts (suc base) (numbers session (before ++ row ∷ later)) → row.session ≡ session
    → row_numbered session row.number before ≡ None
first_numbered session base row before later counts own =
    let split : Counts (suc base) (numbers session before ++ numbers session (row ∷ later)) = subst (Counts (suc base)) (numbers-append session before (row ∷ later)) counts in
    let front : numbers session (row ∷ later) ≡ row.number ∷ numbers session later =
    ap (λ b. map (λ r. r.number) (cond b (row ∷ filter (λ r. r.session == session) later) (filter (λ r. r.session == session) later))) (eq-eqb row.session session own) in
    let at : Counts (suc base + length (numbers session before)) (row.number ∷ numbers session later) =
    subst (Counts (suc base + length (numbers session before))) front (Counts-later (suc base) (numbers session before) (numbers session (row ∷ later)) split) in
    let is = at.0 in
    nobody session row.number base before (Counts-front (suc base) (numbers session before) (numbers session (row ∷ later)) split) (inr (omega arith))

-- a row that turns with no transaction number before and after, or is of another session
pub last_done-turned : (session : ℕ) (row : LogRow) (standing : Standing) (later : List LogRow)
    → (if row.session == session then done_number standing else None) ≡ (if row.session == session then done_number row.standing else None)
    → (before : List LogRow) → last_done session (before ++ standing_at row standing ∷ later) ≡ last_done session (before ++ row ∷ later)
last_done-turned session row standing later same [] =
    ap (λ d. elim (last_done session later) as (λ _. Option ℕ) [ None ↦ d | Some n ↦ Some n ]) same
last_done-turned session row standing later same (x ∷ xs) =
    ap (λ o. elim o as (λ _. Option ℕ) [ None ↦ if x.session == session then done_number x.standing else None | Some n ↦ Some n ]) (last_done-turned session row standing later same xs)

-- a row that comes in with none, or is of another session
pub last_done-pushed : (session : ℕ) (row : LogRow) → (if row.session == session then done_number row.standing else None) ≡ None → (rows : List LogRow)
    → last_done session (rows ++ row ∷ []) ≡ last_done session rows
last_done-pushed session row none [] = none
last_done-pushed session row none (x ∷ xs) =
    ap (λ o. elim o as (λ _. Option ℕ) [ None ↦ if x.session == session then done_number x.standing else None | Some n ↦ Some n ]) (last_done-pushed session row none xs)

-- a number, where no later row is of the session
pub last_done-at : (session n : ℕ) (row : LogRow) (later : List LogRow) → last_done session later ≡ None → row.session ≡ session → done_number row.standing ≡ Some n
    → (before : List LogRow) → last_done session (before ++ row ∷ later) ≡ Some n
last_done-at session n row later none own is [] =
    ap (λ o. elim o as (λ _. Option ℕ) [ None ↦ if row.session == session then done_number row.standing else None | Some n ↦ Some n ]) none
    ∙ ap (λ b. if b then done_number row.standing else None) (eq-eqb row.session session own) ∙ is
last_done-at session n row later none own is (x ∷ xs) =
    ap (λ o. elim o as (λ _. Option ℕ) [ None ↦ if x.session == session then done_number x.standing else None | Some n ↦ Some n ]) (last_done-at session n row later none own is xs)
