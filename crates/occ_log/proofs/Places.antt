-- The log as an array: rows that are replaced in place, and rows that come in.
use Rattle.std.proofs.Common.{◌≡◌, ℕ, zero, suc, ◌+◌, ◌<◌, Bool, true, false, cond, List, [], ◌∷◌, ◌++◌, length, Option, None, Some, refl, sym, ap, ◌∙◌, eq-eqb, slice_get, slice_set, ◌==◌, filter, if◌then◌else◌}
use Rattle.occ_log.proofs.Common.{IsHeldAt, LogRow, Standing, filter-append, get_or_from_slice_get, is_active, latest, length-append, ne_eqb, slice_get_within, standing_at, turn}
use Rattle.std.proofs.lemmas.List.Sums.{length-filter, sum_by-set}
use Rattle.occ_model.proofs.Turns.{latest-push}
use Rattle.std.proofs.lemmas.List as lists

pub slice_get-set : {X : Type 0} (xs : List X) (k : ℕ) (x y : X) → slice_get xs k ≡ Some x → slice_get (slice_set xs k y) k ≡ Some y
slice_get-set [] k x y there = cc
slice_get-set (z ∷ zs) zero x y there = refl
slice_get-set (z ∷ zs) (suc k) x y there = slice_get-set zs k x y there

pub slice_get-other : {X : Type 0} (xs : List X) (k q : ℕ) (y : X) → (q ≡ k → ⊥) → slice_get (slice_set xs k y) q ≡ slice_get xs q
slice_get-other [] k q y ne = refl
slice_get-other (z ∷ zs) zero zero y ne = absurd (ne refl)
slice_get-other (z ∷ zs) zero (suc q) y ne = refl
slice_get-other (z ∷ zs) (suc k) zero y ne = refl
slice_get-other (z ∷ zs) (suc k) (suc q) y ne = slice_get-other zs k q y (λ e. ne (ap suc e))

-- what is made of a choice is a choice of what is made of both
pub of_cond : {X Y : Type 0} (f : X → Y) (b : Bool) (x y : X) → f (cond b x y) ≡ cond b (f x) (f y)
of_cond f true x y = refl
of_cond f false x y = refl

-- a recursion over a list that sees of each element only a part has the same value after one was replaced by another with that part
pub set-unseen : {X Y Z : Type 0} (F : List X → Z) (part : X → Y) (step : Y → Z → Z) → ((x : X) (xs : List X) → F (x ∷ xs) ≡ step (part x) (F xs))
    → (xs : List X) (k : ℕ) (old next : X) → slice_get xs k ≡ Some old → part next ≡ part old → F (slice_set xs k next) ≡ F xs
set-unseen F part step steps [] k old next there same = refl
set-unseen F part step steps (x ∷ xs) zero old next there same =
    let is : old ≡ x = cc in steps next xs ∙ ap (λ y. step y (F xs)) (same ∙ ap part is) ∙ sym (steps x xs)
set-unseen F part step steps (x ∷ xs) (suc k) old next there same =
    steps x (slice_set xs k next) ∙ ap (step (part x)) (set-unseen F part step steps xs k old next there same) ∙ sym (steps x xs)

pub slice_get-below : {X : Type 0} (xs : List X) (k : ℕ) (x : X) → slice_get xs k ≡ Some x → k < length xs
slice_get-below = slice_get_within

pub latest-first : (session : ℕ) (first : LogRow) (rows : List LogRow) → latest session rows ≡ None → first.session ≡ session → latest session (first ∷ rows) ≡ Some first
latest-first session first rows none is = rw (none, eq-eqb first.session session is)

pub latest-later : (session : ℕ) (first row : LogRow) (rows : List LogRow) → latest session rows ≡ Some row → latest session (first ∷ rows) ≡ Some row
latest-later session first row rows is = rw is

pub held_latest : (session place : ℕ) (log : List LogRow) (row : LogRow) → IsHeldAt session place log row → latest session log ≡ Some row
held_latest session place [] row at = absurd at
held_latest session zero (first ∷ rows) row at = latest-first session first rows at.2 (ap (λ r. r.session) at.0 ∙ at.1) ∙ ap Some at.0
held_latest session (suc place) (first ∷ rows) row at = latest-later session first row rows (held_latest session place rows row at)

-- the row that is held stands at its place
pub held-get : (session place : ℕ) (log : List LogRow) (row : LogRow) → IsHeldAt session place log row → slice_get log place ≡ Some row
held-get session place [] row at = absurd at
held-get session zero (first ∷ rows) row at = ap Some at.0
held-get session (suc place) (first ∷ rows) row at = held-get session place rows row at

-- to turn the latest row of a session is to replace it at its place
pub turn-at : (session place : ℕ) (standing : Standing) (log : List LogRow) (row : LogRow) → IsHeldAt session place log row → turn session standing log ≡ slice_set log place (standing_at row standing)
turn-at session place standing [] row at = absurd at
turn-at session zero standing (first ∷ rows) row at =
    ap (λ l. elim l as (λ _. List LogRow) [ None ↦ (if first.session == session then standing_at first standing else first) ∷ rows | Some later ↦ first ∷ turn session standing rows ]) at.2
    ∙ ap (λ b. (if b then standing_at first standing else first) ∷ rows) (eq-eqb first.session session (ap (λ r. r.session) at.0 ∙ at.1))
    ∙ ap (λ r. standing_at r standing ∷ rows) at.0
turn-at session (suc place) standing (first ∷ rows) row at =
    ap (λ l. elim l as (λ _. List LogRow) [ None ↦ (if first.session == session then standing_at first standing else first) ∷ rows | Some later ↦ first ∷ turn session standing rows ]) (held_latest session place rows row at)
    ∙ ap (λ l. first ∷ l) (turn-at session place standing rows row at)

-- a session's row that is replaced is still the latest
pub held-set-own : (session place : ℕ) (log : List LogRow) (row next : LogRow) → next.session ≡ row.session → IsHeldAt session place log row → IsHeldAt session place (slice_set log place next) next
held-set-own session place [] row next same at = absurd at
held-set-own session zero (first ∷ rows) row next same at = (refl, same ∙ at.1, at.2)
held-set-own session (suc place) (first ∷ rows) row next same at = held-set-own session place rows row next same at

pub none-later : (session : ℕ) (first : LogRow) (rows : List LogRow) → latest session (first ∷ rows) ≡ None → (latest session rows ≡ None) × ((first.session == session) ≡ false)
none-later session first rows none = go (latest session rows) refl (first.session == session) refl none
  where
    go : (l : Option LogRow) → latest session rows ≡ l → (b : Bool) → (first.session == session) ≡ b → (elim l as (λ _. Option LogRow) [ None ↦ if b then Some first else None | Some r ↦ Some r ]) ≡ None
        → (latest session rows ≡ None) × ((first.session == session) ≡ false)
    go None e true own none = cc
    go None e false own none = (e, own)
    go (Some r) e b own none = cc

none-first : (session : ℕ) (first : LogRow) (rows : List LogRow) → latest session rows ≡ None → (first.session == session) ≡ false → latest session (first ∷ rows) ≡ None
none-first session first rows none other = rw (none, other)

-- a session that has no row has none after another row was replaced
pub latest-none-set : (session k : ℕ) (rows : List LogRow) (old next : LogRow) → slice_get rows k ≡ Some old → next.session ≡ old.session → latest session rows ≡ None → latest session (slice_set rows k next) ≡ None
latest-none-set session k [] old next there same none = none
latest-none-set session zero (first ∷ rows) old next there same none =
    let parts = none-later session first rows none in
    let is : first ≡ old = cc in
    none-first session next rows parts.0 (ap (λ s. s == session) (same ∙ ap (λ r. r.session) (sym is)) ∙ parts.1)
latest-none-set session (suc k) (first ∷ rows) old next there same none =
    let parts = none-later session first rows none in
    none-first session first (slice_set rows k next) (latest-none-set session k rows old next there same parts.0) parts.1

-- another session's row stays where it is
pub held-set-other : (session place k : ℕ) (log : List LogRow) (row old next : LogRow) → (place ≡ k → ⊥) → slice_get log k ≡ Some old → next.session ≡ old.session → IsHeldAt session place log row → IsHeldAt session place (slice_set log k next) row
held-set-other session place k [] row old next ne there same at = absurd at
held-set-other session zero zero (first ∷ rows) row old next ne there same at = absurd (ne refl)
held-set-other session zero (suc k) (first ∷ rows) row old next ne there same at = (at.0, at.1, latest-none-set session k rows old next there same at.2)
held-set-other session (suc place) zero (first ∷ rows) row old next ne there same at = at
held-set-other session (suc place) (suc k) (first ∷ rows) row old next ne there same at = held-set-other session place k rows row old next (λ e. ne (ap suc e)) there same at

latest-none-push : (session : ℕ) (rows : List LogRow) (row : LogRow) → (row.session ≡ session → ⊥) → latest session rows ≡ None → latest session (rows ++ row ∷ []) ≡ None
latest-none-push session rows row ne none = latest-push session row rows ∙ ap (λ b. if b then Some row else latest session rows) (ne_eqb row.session session ne) ∙ none

pub held-push-other : (session place : ℕ) (log : List LogRow) (row next : LogRow) → (next.session ≡ session → ⊥) → IsHeldAt session place log row → IsHeldAt session place (log ++ next ∷ []) row
held-push-other session place [] row next ne at = absurd at
held-push-other session zero (first ∷ rows) row next ne at = (at.0, at.1, latest-none-push session rows next ne at.2)
held-push-other session (suc place) (first ∷ rows) row next ne at = held-push-other session place rows row next ne at

pub held-push-own : (session : ℕ) (log : List LogRow) (next : LogRow) → next.session ≡ session → IsHeldAt session (length log) (log ++ next ∷ []) next
held-push-own session [] next is = (refl, is, refl)
held-push-own session (first ∷ rows) next is = held-push-own session rows next is

-- how many rows are active

abbrev pub count_active : List LogRow → ℕ
count_active log = length (filter (λ row. is_active row.standing) log)

pub count-push : (rows : List LogRow) (row : LogRow) → count_active (rows ++ row ∷ []) ≡ count_active rows + cond (is_active row.standing) 1 0
count-push rows row = simp (filter-append, length-append) (ap (λ n. count_active rows + n) (of_cond length (is_active row.standing) (row ∷ []) []))

-- the log around a row at a place
pub record Split (log : List LogRow) (place : ℕ) (row : LogRow) : Type 0 where
  pub before : List LogRow
  pub later : List LogRow
  pub was : log ≡ before ++ row ∷ later
  pub now : (next : LogRow) → slice_set log place next ≡ before ++ next ∷ later

pub split-at : (log : List LogRow) (place : ℕ) (row : LogRow) → slice_get log place ≡ Some row → Split log place row
split-at [] place row there = cc
split-at (first ∷ rows) zero row there = let e : first ≡ row = cc in record { before = []; later = rows; was = ap (λ r. r ∷ rows) e; now = λ next. refl }
split-at (first ∷ rows) (suc place) row there =
    let s = split-at rows place row there in
    record { before = first ∷ s.before; later = s.later; was = ap (λ l. first ∷ l) s.was; now = λ next. ap (λ l. first ∷ l) (s.now next) }

pub count-set : (log : List LogRow) (k : ℕ) (old next : LogRow) → slice_get log k ≡ Some old → count_active (slice_set log k next) + cond (is_active old.standing) 1 0 ≡ count_active log + cond (is_active next.standing) 1 0
count-set log k old next there =
    (λ i. length-filter (λ row. is_active row.standing) (slice_set log k next) i + cond (is_active (sym (get_or_from_slice_get log k old old there) i).standing) 1 0)
    ∙ sum_by-set (λ row. cond (is_active row.standing) 1 0) log k next old (slice_get_within log k old there)
    ∙ (λ i. sym (length-filter (λ row. is_active row.standing) log) i + cond (is_active next.standing) 1 0)

pub length-set : {X : Type 0} (xs : List X) (k : ℕ) (x : X) → length (slice_set xs k x) ≡ length xs
length-set = lists.length-set

pub held-session : (session place : ℕ) (log : List LogRow) (row : LogRow) → IsHeldAt session place log row → row.session ≡ session
held-session session place [] row at = absurd at
held-session session zero (first ∷ rows) row at = at.1
held-session session (suc place) (first ∷ rows) row at = held-session session place rows row at

-- the number of a session's latest row, or else another number
abbrev pub latest_number_or : ℕ → ℕ → List LogRow → ℕ
latest_number_or base session log = elim (latest session log) [ None ↦ base | Some row ↦ row.number ]

first_number : (base session : ℕ) (first : LogRow) (rows : List LogRow) → latest_number_or base session (first ∷ rows) ≡ latest_number_or (if first.session == session then first.number else base) session rows
first_number base session first rows = go (latest session rows) (first.session == session)
  where
    go : (l : Option LogRow) (b : Bool) → (elim (elim l as (λ _. Option LogRow) [ None ↦ if b then Some first else None | Some r ↦ Some r ]) as (λ _. ℕ) [ None ↦ base | Some row ↦ row.number ])
        ≡ (elim l as (λ _. ℕ) [ None ↦ if b then first.number else base | Some row ↦ row.number ])
    go None true = refl
    go None false = refl
    go (Some r) b = refl

-- a row that is replaced by one of its session and number leaves each session's latest number
pub number-set : (base session k : ℕ) (log : List LogRow) (row next : LogRow) → slice_get log k ≡ Some row → next.session ≡ row.session → next.number ≡ row.number → latest_number_or base session (slice_set log k next) ≡ latest_number_or base session log
number-set base session k log row next there same number =
    ap (λ (f : ℕ → ℕ). f base) (set-unseen {Y = ℕ × ℕ} {Z = ℕ → ℕ} (λ rows base. latest_number_or base session rows) (λ row. (row.session, row.number)) (λ seen later base. later (if seen.0 == session then seen.1 else base))
    (λ first rows i base. first_number base session first rows i) log k row next there (λ i. (same i, number i)))
