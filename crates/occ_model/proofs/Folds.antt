-- A beginning of the log is folded into the base.
use Rattle.std.proofs.Common.{◌≡◌, ℕ, ◌+◌, ◌≤◌, Bool, true, false, ◌&&◌, ◌||◌, List, [], ◌∷◌, ◌++◌, map, drop, length, Option, None, Some, refl, sym, ap, subst, ◌∙◌, suc, arith, length-append}
use Rattle.std.specs.Prelude.{if◌then◌else◌, ◌==◌, nat_lt}
use Rattle.std.proofs.lemmas.Bool.{leb-true, ltb-true}
use Rattle.std.specs.Ordering.{nat_cmp}
use Rattle.std.specs.FinMap.{FinMap}
use Rattle.std.specs.FinSet.{FinSet}
use Rattle.occ_types.specs.Question.{Question}
use Rattle.occ_model.specs.State.{State, apply, meets_question}
use Rattle.occ_model.specs.Log.{LogRow, Standing, Open, Writing, Done, Back, rest, remaining, after, serial, settled, is_writing, Counts, numbers, Base, last_folded, InOrder}
use Rattle.occ_model.specs.World.{latest}
use Rattle.occ_model.specs.Refusal.{foldable}
use Rattle.occ_model.specs.Step.{foldable_part, folded}
use Rattle.occ_model.specs.Invariant.{Chained, finished_after, is_touched, NumbersAreBelow, OneUnderWay, ActiveAreHeld}
use Rattle.occ_model.proofs.Tests.{decided}
use Rattle.occ_model.proofs.Orders.{Counts-front, Counts-later, numbers-append, places-append, length-places, folded_number}

-- every row can be folded
abbrev pub AreFoldable : ℕ → List LogRow → Type 0
AreFoldable low [] = Unit {0}
AreFoldable low (row ∷ rows) = (foldable low row.standing ≡ true) × AreFoldable low rows

pub part_foldable : (low : ℕ) (log : List LogRow) → AreFoldable low (foldable_part low log)
part_foldable low [] = tt
part_foldable low (row ∷ rows) = go (foldable low row.standing) refl (part_foldable low rows)
  where
    go : (b : Bool) → foldable low row.standing ≡ b → AreFoldable low (foldable_part low rows) → AreFoldable low (elim b as (λ _. List LogRow) [ true ↦ row ∷ foldable_part low rows | false ↦ [] ])
    go true e onward = (e, onward)
    go false e onward = tt

pub part_rest : (low : ℕ) (log : List LogRow) → log ≡ foldable_part low log ++ drop (length (foldable_part low log)) log
part_rest low [] = refl
part_rest low (row ∷ rows) = go (foldable low row.standing) (part_rest low rows)
  where
    part : Bool → List LogRow
    part b = elim b [ true ↦ row ∷ foldable_part low rows | false ↦ [] ]

    go : (b : Bool) → rows ≡ foldable_part low rows ++ drop (length (foldable_part low rows)) rows → row ∷ rows ≡ part b ++ drop (length (part b)) (row ∷ rows)
    go true e = ap (λ l. row ∷ l) e
    go false e = refl

no_rest : (low : ℕ) (row : LogRow) → foldable low row.standing ≡ true → rest row ≡ []
no_rest low row can = go row.standing can
  where
    go : (s : Standing) → foldable low s ≡ true → remaining row.writes s ≡ []
    go (Open index case) e = cc
    go (Writing done) e = cc
    go (Done number) e = refl
    go (Back cause) e = refl

pub settled-foldable : (low : ℕ) (table : State) (rows : List LogRow) → AreFoldable low rows → settled table rows ≡ table
settled-foldable low table [] are = refl
settled-foldable low table (row ∷ rows) are =
    ap (λ w. settled (apply table w) rows) (no_rest low row are.0) ∙ settled-foldable low table rows are.1

pub Chained-later : (state : State) (xs ys : List LogRow) → Chained state (xs ++ ys) → Chained (serial state xs) ys
Chained-later state [] ys chained = chained
Chained-later state (x ∷ xs) ys chained = Chained-later (after state x) xs ys chained.2

pub NumbersAreBelow-later : (counter : ℕ) (xs ys : List LogRow) → NumbersAreBelow counter (xs ++ ys) → NumbersAreBelow counter ys
NumbersAreBelow-later counter [] ys are = are
NumbersAreBelow-later counter (x ∷ xs) ys are = NumbersAreBelow-later counter xs ys are.1

pub OneUnderWay-later : (xs ys : List LogRow) → OneUnderWay (xs ++ ys) → OneUnderWay ys
OneUnderWay-later [] ys one = one
OneUnderWay-later (x ∷ xs) ys one = OneUnderWay-later xs ys one.1

pub ActiveAreHeld-later : (held : FinSet nat_cmp) (xs ys : List LogRow) → ActiveAreHeld held (xs ++ ys) → ActiveAreHeld held ys
ActiveAreHeld-later held [] ys are = are
ActiveAreHeld-later held (x ∷ xs) ys are = ActiveAreHeld-later held xs ys are.1

pub latest-later : (session : ℕ) (row : LogRow) (xs ys : List LogRow) → latest session ys ≡ Some row → latest session (xs ++ ys) ≡ Some row
latest-later session row [] ys is = is
latest-later session row (x ∷ xs) ys is =
    ap (λ l. elim l as (λ _. Option LogRow) [ None ↦ if x.session == session then Some x else None | Some r ↦ Some r ]) (latest-later session row xs ys is)

-- a folded row touches nothing that was read since the window
untouching : (low start : ℕ) (s : Standing) → low ≤ start → foldable low s ≡ true → (finished_after start s || is_writing s) ≡ false
untouching low start (Open index case) up can = cc
untouching low start (Writing done) up can = cc
untouching low start (Done number) up can = decided (nat_lt start number)
    (λ after. let a = ltb-true start number after in let b = leb-true number low can in absurd (omega arith))
    (λ before. ap (λ b. b || false) before)
untouching low start (Back cause) up can = refl

pub is_touched-later : (low start : ℕ) (question : Question) (xs ys : List LogRow) → low ≤ start → AreFoldable low xs → is_touched start question (xs ++ ys) ≡ true → is_touched start question ys ≡ true
is_touched-later low start question [] ys up are touched = touched
is_touched-later low start question (x ∷ xs) ys up are touched = is_touched-later low start question xs ys up are.1
    (sym (ap (λ b. (b && meets_question x.writes question) || is_touched start question (xs ++ ys)) (untouching low start x.standing up are.0)) ∙ touched)

-- the log stays in order from the new base on
pub InOrder-fold : (base : Base) (marks : FinMap nat_cmp ℕ) (xs ys : List LogRow) → InOrder base marks (xs ++ ys) → InOrder (folded base xs) marks ys
InOrder-fold base marks xs ys order = record {
  places = subst (λ n. Counts (base.place + n) (map (λ r. r.place) ys)) (length-places xs)
      (Counts-later base.place (map (λ r. r.place) xs) (map (λ r. r.place) ys) (subst (Counts base.place) (places-append xs ys) order.places));
  numbered = λ session.
      let e : suc (last_folded base session) + length (numbers session xs) ≡ suc (last_folded (folded base xs) session) = omega (arith, at session) in
      subst (λ n. Counts n (numbers session ys)) e
      (Counts-later (suc (last_folded base session)) (numbers session xs) (numbers session ys) (split session));
  closed = λ session mark is.
      let e : length (numbers session (xs ++ ys)) ≡ length (numbers session xs) + length (numbers session ys) =
      ap length (numbers-append session xs ys) ∙ length-append (numbers session xs) (numbers session ys) in
      omega (arith, order.closed session mark is, e, at session);
}
  where
    split : (session : ℕ) → Counts (suc (last_folded base session)) (numbers session xs ++ numbers session ys)
    split session = subst (Counts (suc (last_folded base session))) (numbers-append session xs ys) (order.numbered session)

    at : (session : ℕ) → last_folded (folded base xs) session ≡ last_folded base session + length (numbers session xs)
    at session = folded_number session xs base.last (Counts-front _ (numbers session xs) (numbers session ys) (split session))

-- how many transactions of a session entered stays, as some are folded
pub entered_folded : (base : Base) (marks : FinMap nat_cmp ℕ) (xs ys log : List LogRow) → log ≡ xs ++ ys → InOrder base marks log → (session : ℕ)
    → last_folded base session + length (numbers session log) ≡ last_folded (folded base xs) session + length (numbers session ys)
entered_folded base marks xs ys log whole order session =
    let split : numbers session log ≡ numbers session xs ++ numbers session ys = ap (numbers session) whole ∙ numbers-append session xs ys in
    let length_is : length (numbers session log) ≡ length (numbers session xs) + length (numbers session ys) = ap length split ∙ length-append (numbers session xs) (numbers session ys) in
    let counts : Counts (suc (last_folded base session)) (numbers session xs ++ numbers session ys) = subst (Counts (suc (last_folded base session))) split (order.numbered session) in
    let at = folded_number session xs base.last (Counts-front (suc (last_folded base session)) (numbers session xs) (numbers session ys) counts) in
    omega (arith, at, length_is)
