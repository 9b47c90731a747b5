-- What a checkpoint folds.
use Rattle.std.proofs.Common.{◌≡◌, ℕ, Bool, true, false, List, [], ◌∷◌, ◌++◌, drop, length, Option, None, Some, refl, sym, ap, subst, ◌∙◌}
use Rattle.std.specs.Prelude.{if◌then◌else◌, ◌==◌, unwrap_or}
use Rattle.std.specs.List.{AllByRecursion}
use Rattle.std.proofs.lemmas.Bool.{eqb-true, eq-eqb}
use Rattle.std.specs.Ordering.{nat_cmp}
use Rattle.std.specs.FinMap.{FinMap, insert}
use Rattle.occ_types.specs.declared.fault.Fault.{Fault}
use Rattle.occ_model.specs.State.{State}
use Rattle.occ_model.specs.Log.{LogRow, serial, settled, after, Explained, InOrder, Audited, last_folded}
use Rattle.occ_model.specs.World.{low, latest}
use Rattle.occ_model.specs.Event.{Refused, Folded}
use Rattle.occ_model.specs.Refusal.{foldable}
use Rattle.occ_model.specs.Step.{refused, starved, taken, foldable_part, folded_numbers}
use Rattle.occ_model.specs.Laws.{CheckpointFolds}
use Rattle.occ_model.proofs.Logs.{serial-append, settled-append}
use Rattle.occ_model.proofs.Orders.{number_at, get-own, get-other}
use Rattle.occ_model.proofs.Tests.{clash, decided}
use Rattle.occ_model.proofs.Folds.{AreFoldable, part_foldable, part_rest, settled-foldable, InOrder-fold}

-- after the longest part nothing more can be folded
nothing_more : (low : ℕ) (log : List LogRow) → foldable_part low (drop (length (foldable_part low log)) log) ≡ []
nothing_more low [] = refl
nothing_more low (row ∷ rows) = go (foldable low row.standing) refl (nothing_more low rows)
  where
    part : Bool → List LogRow
    part b = elim b [ true ↦ row ∷ foldable_part low rows | false ↦ [] ]

    go : (b : Bool) → foldable low row.standing ≡ b → foldable_part low (drop (length (foldable_part low rows)) rows) ≡ [] → foldable_part low (drop (length (part b)) (row ∷ rows)) ≡ []
    go true e onward = onward
    go false e onward = ap part e

explained_later : (state : State) (xs ys : List LogRow) → Explained state (xs ++ ys) → Explained (serial state xs) ys
explained_later state [] ys explained = explained
explained_later state (x ∷ xs) ys explained = explained_later (after state x) xs ys explained.1

-- what is folded of a session ends with its latest row
last_folded-latest : (session : ℕ) (rows : List LogRow) (last : FinMap nat_cmp ℕ)
    → number_at (folded_numbers last rows) session ≡ (elim (latest session rows) as (λ _. ℕ) [ None ↦ number_at last session | Some row ↦ row.number ])
last_folded-latest session [] last = refl
last_folded-latest session (x ∷ xs) last =
    last_folded-latest session xs (insert last x.session x.number)
    ∙ decided (x.session == session)
    (λ own.
    ap (λ n. number_of n (latest session xs)) (inserted own) ∙ nested true (latest session xs)
    ∙ ap (λ b. number_of (number_at last session) (joined b (latest session xs))) (sym own))
    (λ other.
    ap (λ n. number_of n (latest session xs)) (kept other) ∙ nested false (latest session xs)
    ∙ ap (λ b. number_of (number_at last session) (joined b (latest session xs))) (sym other))
  where
    number_of : ℕ → Option LogRow → ℕ
    number_of n l = elim l [ None ↦ n | Some row ↦ row.number ]

    joined : Bool → Option LogRow → Option LogRow
    joined b l = elim l [ None ↦ if b then Some x else None | Some later ↦ Some later ]

    inserted : (x.session == session) ≡ true → number_at (insert last x.session x.number) session ≡ x.number
    inserted own = let same : session ≡ x.session = sym (eqb-true x.session session own) in
        ap (λ s. number_at (insert last x.session x.number) s) same ∙ ap (λ o. unwrap_or o 0) (get-own last x.session x.number)

    kept : (x.session == session) ≡ false → number_at (insert last x.session x.number) session ≡ number_at last session
    kept other = ap (λ o. unwrap_or o 0) (get-other last x.session x.number session (λ e. clash (x.session == session) (eq-eqb x.session session (sym e)) other))

    nested : (b : Bool) (l : Option LogRow) → number_of (if b then x.number else number_at last session) l ≡ number_of (number_at last session) (joined b l)
    nested true None = refl
    nested false None = refl
    nested true (Some row) = refl
    nested false (Some row) = refl

all_foldable : (low : ℕ) (rows : List LogRow) → AreFoldable low rows → AllByRecursion (λ row. foldable low row.standing ≡ true) rows
all_foldable low [] are = tt
all_foldable low (row ∷ rows) are = (are.0, all_foldable low rows are.1)

told_differs : (count : ℕ) (fault : Fault) → Folded count ≡ Refused fault → ⊥
told_differs count fault e = cc

pub checkpoint_folds : CheckpointFolds
checkpoint_folds old new count (refused fault is told same) = absurd (told_differs count fault told)
checkpoint_folds old new count (starved none takes told same) = absurd (told_differs count _ told)
checkpoint_folds old new count (taken none t) =
    let part : List LogRow = foldable_part (low old) old.log in
    let rows : List LogRow = drop (length part) old.log in
    let whole : old.log ≡ part ++ rows = part_rest (low old) old.log in
    let log_is : new.log ≡ rows = ap (λ w. w.log) t.1 in
    let count_is : count ≡ length part = same_count count (length part) t.0 in (
      part,
      whole ∙ ap (λ l. part ++ l) (sym log_is),
      count_is,
      all_foldable (low old) part (part_foldable (low old) old.log),
      ap (foldable_part (low old)) log_is ∙ nothing_more (low old) old.log,
      ap (λ w. w.base.state) t.1,
      ap (λ w. w.base.place) t.1,
      λ session. ap (λ w. last_folded w.base session) t.1 ∙ last_folded-latest session part old.base.last,
      ap (λ w. w.table) t.1,
      λ claim. subst (λ w. Audited w.base w.marks w.table w.log) (sym t.1) (record {
        in_order = InOrder-fold old.base old.marks part rows (subst (InOrder old.base old.marks) whole claim.in_order);
        explained = explained_later old.base.state part rows (subst (Explained old.base.state) whole claim.explained);
        replayed = sym (ap (λ s. settled s rows) (settled-foldable (low old) old.table part (part_foldable (low old) old.log))) ∙ sym (settled-append old.table part rows) ∙ ap (settled old.table) (sym whole)
            ∙ claim.replayed ∙ ap (serial old.base.state) whole ∙ serial-append old.base.state part rows;
      }),
    )
  where
    same_count : (m n : ℕ) → Folded m ≡ Folded n → m ≡ n
    same_count m n e = cc
