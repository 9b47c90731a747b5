-- Places and numbers, as rows are added and folded.
use Rattle.std.proofs.Common.{◌≡◌, ℕ, ◌+◌, Bool, true, false, cond, List, [], ◌∷◌, ◌++◌, map, length, Option, None, Some, refl, sym, ap, subst, ◌∙◌, zero, suc, arith, length-append}
use Rattle.std.specs.Prelude.{if◌then◌else◌, ◌==◌, filter, slice_get, unwrap_or}
use Rattle.std.proofs.lemmas.Bool.{eqb-true, eq-eqb}
use Rattle.std.specs.Ordering.{nat_cmp, eq_by_cmp}
use Rattle.std.specs.Cmp.{nat_cmp_total, Equal-is, tied_itself}
use Rattle.std.specs.FinMap.{FinMap, get, insert, get-insert, nat_cmp-IsAntisymmetric}
use Rattle.occ_model.specs.Log.{LogRow, Counts, numbers, Base, InOrder}
use Rattle.occ_model.specs.World.{latest}
use Rattle.occ_model.specs.Step.{folded_numbers}
use Rattle.occ_model.proofs.Tests.{clash, decided}

pub Counts-push : (n x : ℕ) (xs : List ℕ) → Counts n xs → x ≡ n + length xs → Counts n (xs ++ x ∷ [])
Counts-push n x [] counts is = (omega arith, tt)
Counts-push n x (y ∷ ys) counts is = (counts.0, Counts-push (suc n) x ys counts.1 (omega arith))

pub Counts-front : (n : ℕ) (us vs : List ℕ) → Counts n (us ++ vs) → Counts n us
Counts-front n [] vs counts = tt
Counts-front n (u ∷ us) vs counts = (counts.0, Counts-front (suc n) us vs counts.1)

pub Counts-later : (n : ℕ) (xs ys : List ℕ) → Counts n (xs ++ ys) → Counts (n + length xs) ys
Counts-later n [] ys counts = let e : n ≡ n + 0 = omega arith in subst (λ k. Counts k ys) e counts
Counts-later n (x ∷ xs) ys counts =
    let e : suc n + length xs ≡ n + suc (length xs) = omega arith in
    subst (λ k. Counts k ys) e (Counts-later (suc n) xs ys counts.1)

pub numbers-append : (session : ℕ) (xs ys : List LogRow) → numbers session (xs ++ ys) ≡ numbers session xs ++ numbers session ys
numbers-append session [] ys = refl
numbers-append session (x ∷ xs) ys = front (x.session == session) (numbers-append session xs ys)
  where
    front : (b : Bool) → numbers session (xs ++ ys) ≡ numbers session xs ++ numbers session ys
        → map (λ r. r.number) (cond b (x ∷ filter (λ r. r.session == session) (xs ++ ys)) (filter (λ r. r.session == session) (xs ++ ys)))
        ≡ map (λ r. r.number) (cond b (x ∷ filter (λ r. r.session == session) xs) (filter (λ r. r.session == session) xs)) ++ numbers session ys
    front true e = ap (λ l. x.number ∷ l) e
    front false e = e

-- a session has one row more, or as many as before
pub numbers_pushed : (session : ℕ) (log : List LogRow) (row : LogRow) → length (numbers session (log ++ row ∷ [])) ≡ length (numbers session log) + length (numbers session (row ∷ []))
numbers_pushed session log row = ap length (numbers-append session log (row ∷ [])) ∙ length-append (numbers session log) (numbers session (row ∷ []))

pub numbers-own : (row : LogRow) → numbers row.session (row ∷ []) ≡ row.number ∷ []
numbers-own row = ap (λ b. map (λ r. r.number) (cond b (row ∷ []) [])) (eq-eqb row.session row.session refl)

pub numbers-other : (session : ℕ) (row : LogRow) → (row.session == session) ≡ false → numbers session (row ∷ []) ≡ []
numbers-other session row e = ap (λ b. map (λ r. r.number) (cond b (row ∷ []) [])) e

pub places-append : (xs ys : List LogRow) → map (λ r. r.place) (xs ++ ys) ≡ map (λ r. r.place) xs ++ map (λ r. r.place) ys
places-append [] ys = refl
places-append (x ∷ xs) ys = ap (λ l. x.place ∷ l) (places-append xs ys)

pub length-places : (rows : List LogRow) → length (map (λ r. r.place) rows) ≡ length rows
length-places [] = refl
length-places (x ∷ xs) = ap suc (length-places xs)

-- The row at an index has the place that lies so far above the first one.
pub placed_at : (n index : ℕ) (rows : List LogRow) (row : LogRow) → Counts n (map (λ r. r.place) rows) → slice_get rows index ≡ Some row → row.place ≡ n + index
placed_at n index [] row counts there = cc
placed_at n zero (x ∷ xs) row counts there =
    let same : x ≡ row = cc in
    let is : row.place ≡ n = ap (λ (r : LogRow). r.place) (sym same) ∙ counts.0 in
    omega arith
placed_at n (suc index) (x ∷ xs) row counts there = let is = placed_at (suc n) index xs row counts.1 there in omega arith

pub row_placed : (base : Base) (marks : FinMap nat_cmp ℕ) (log : List LogRow) (index : ℕ) (row : LogRow) → InOrder base marks log → slice_get log index ≡ Some row → row.place ≡ base.place + index
row_placed base marks log index row order there = placed_at base.place index log row order.places there

-- The number of a session's latest row, or else what was folded, counts the session's rows.
pub latest_number : (session base : ℕ) (log : List LogRow) → Counts (suc base) (numbers session log)
    → (elim (latest session log) as (λ _. ℕ) [ None ↦ base | Some row ↦ row.number ]) ≡ base + length (numbers session log)
latest_number session base [] counts = omega arith
latest_number session base (x ∷ xs) counts = go (x.session == session) counts (latest_number session base xs) (latest_number session (suc base) xs)
  where
    front : Bool → List ℕ
    front b = map (λ r. r.number) (cond b (x ∷ filter (λ r. r.session == session) xs) (filter (λ r. r.session == session) xs))

    number_of : ℕ → Option LogRow → ℕ
    number_of n l = elim l [ None ↦ n | Some row ↦ row.number ]

    step : (l : Option LogRow) → x.number ≡ suc base → number_of (suc base) l ≡ suc base + length (numbers session xs)
        → number_of base (elim l [ None ↦ Some x | Some r ↦ Some r ]) ≡ base + suc (length (numbers session xs))
    step None is onward = omega arith
    step (Some r) is onward = omega arith

    skip : (l : Option LogRow) → number_of base (elim l [ None ↦ None | Some r ↦ Some r ]) ≡ number_of base l
    skip None = refl
    skip (Some r) = refl

    go : (b : Bool) → Counts (suc base) (front b)
        → (Counts (suc base) (numbers session xs) → number_of base (latest session xs) ≡ base + length (numbers session xs))
        → (Counts (suc (suc base)) (numbers session xs) → number_of (suc base) (latest session xs) ≡ suc base + length (numbers session xs))
        → number_of base (elim (latest session xs) [ None ↦ if b then Some x else None | Some r ↦ Some r ]) ≡ base + length (front b)
    go true c skipped stepped = step (latest session xs) c.0 (stepped c.1)
    go false c skipped stepped = skip (latest session xs) ∙ skipped c

-- one session's number among those that were folded
abbrev pub number_at : FinMap nat_cmp ℕ → ℕ → ℕ
number_at last session = unwrap_or (get last session) 0

same_number : (a b : ℕ) → eq_by_cmp nat_cmp a b ≡ true → a ≡ b
same_number a b e = nat_cmp-IsAntisymmetric a b ((Equal-is (nat_cmp a b)).0 e)

pub tied : (a : ℕ) → eq_by_cmp nat_cmp a a ≡ true
tied a = (Equal-is (nat_cmp a a)).1 (tied_itself nat_cmp_total a)

pub apart : (a b : ℕ) → (a ≡ b → ⊥) → eq_by_cmp nat_cmp a b ≡ false
apart a b ne = decided (eq_by_cmp nat_cmp a b) (λ e. absurd (ne (same_number a b e))) (λ e. e)

pub get-own : {X : Type 0} (m : FinMap nat_cmp X) (k : ℕ) (v : X) → get (insert m k v) k ≡ Some v
get-own m k v = get-insert nat_cmp_total m k v k ∙ ap (λ b. cond b (Some v) (get m k)) (tied k)

pub get-other : {X : Type 0} (m : FinMap nat_cmp X) (k : ℕ) (v : X) (q : ℕ) → (q ≡ k → ⊥) → get (insert m k v) q ≡ get m q
get-other m k v q ne = get-insert nat_cmp_total m k v q ∙ ap (λ b. cond b (Some v) (get m q)) (apart q k ne)

-- what is folded of a session is as many rows as it has
pub folded_number : (session : ℕ) (rows : List LogRow) (last : FinMap nat_cmp ℕ) → Counts (suc (number_at last session)) (numbers session rows)
    → number_at (folded_numbers last rows) session ≡ number_at last session + length (numbers session rows)
folded_number session [] last counts = omega arith
folded_number session (x ∷ xs) last counts = decided (x.session == session)
    (λ same.
    let own : session ≡ x.session = sym (eqb-true x.session session same) in
    let c : Counts (suc (number_at last session)) (x.number ∷ numbers session xs) = subst (Counts (suc (number_at last session))) (front true same) counts in
    let at : number_at (insert last x.session x.number) session ≡ suc (number_at last session) =
    ap (λ o. unwrap_or o 0) (ap (get (insert last x.session x.number)) own ∙ get-own last x.session x.number) ∙ c.0 in
    let onward = folded_number session xs (insert last x.session x.number) (subst (λ n. Counts (suc n) (numbers session xs)) (sym at) c.1) in
    let e : length (numbers session (x ∷ xs)) ≡ suc (length (numbers session xs)) = ap length (front true same) in
    omega (arith, onward, at, e))
    (λ other.
    let c : Counts (suc (number_at last session)) (numbers session xs) = subst (Counts (suc (number_at last session))) (front false other) counts in
    let at : number_at (insert last x.session x.number) session ≡ number_at last session =
    ap (λ o. unwrap_or o 0) (get-other last x.session x.number session (λ e. clash (x.session == session) (eq-eqb x.session session (sym e)) other)) in
    let onward = folded_number session xs (insert last x.session x.number) (subst (λ n. Counts (suc n) (numbers session xs)) (sym at) c) in
    let e : length (numbers session (x ∷ xs)) ≡ length (numbers session xs) = ap length (front false other) in
    omega (arith, onward, at, e))
  where
    front : (b : Bool) → (x.session == session) ≡ b → numbers session (x ∷ xs) ≡ (if b then x.number ∷ numbers session xs else numbers session xs)
    front true e = ap (λ b. map (λ r. r.number) (cond b (x ∷ filter (λ r. r.session == session) xs) (filter (λ r. r.session == session) xs))) e
    front false e = ap (λ b. map (λ r. r.number) (cond b (x ∷ filter (λ r. r.session == session) xs) (filter (λ r. r.session == session) xs))) e
