-- Copies of pages are pages of copies, in the same order and under the same first keys.
use Rattle.std.proofs.Common.{◌≡◌, ◌≤◌, ℕ, suc, List, [], ◌∷◌, ◌++◌, length, refl, sym, ap, subst, ◌∙◌}
use Rattle.std.specs.List.{AllZip}
use Rattle.occ_pages.specs.Copies.{AreCopies}
use Rattle.occ_pages.specs.Entries.{AllFrom, Ascends}
use Rattle.occ_pages.specs.Pages.{zipped, BeginsAt, flatten, AreUnder, IsShelf}

module _ {T : Type 0} (R : T → T → Type 0) where
  pub zipped-copies : (keys : List ℕ) (rows others : List T) → AllZip R rows others → AreCopies R (zipped keys rows) (zipped keys others)
  zipped-copies [] rows others are = tt
  zipped-copies (key ∷ keys) [] [] are = tt
  zipped-copies (key ∷ keys) [] (other ∷ others) are = absurd are
  zipped-copies (key ∷ keys) (row ∷ rows) [] are = absurd are
  zipped-copies (key ∷ keys) (row ∷ rows) (other ∷ others) are = ((refl, are.0), zipped-copies keys rows others are.1)

  copies-append : (es fs gs hs : List (ℕ × T)) → AreCopies R es fs → AreCopies R gs hs → AreCopies R (es ++ gs) (fs ++ hs)
  copies-append [] [] gs hs p q = q
  copies-append [] (f ∷ fs) gs hs p q = absurd p
  copies-append (e ∷ es) [] gs hs p q = absurd p
  copies-append (e ∷ es) (f ∷ fs) gs hs p q = (p.0, copies-append es fs gs hs p.1 q)

  pub copies-flatten : (pages others : List (List (ℕ × T))) → AllZip (AreCopies R) pages others → AreCopies R (flatten pages) (flatten others)
  copies-flatten [] [] are = tt
  copies-flatten [] (other ∷ others) are = absurd are
  copies-flatten (page ∷ pages) [] are = absurd are
  copies-flatten (page ∷ pages) (other ∷ others) are = copies-append page other (flatten pages) (flatten others) are.0 (copies-flatten pages others are.1)

  copies-from : (key : ℕ) (es fs : List (ℕ × T)) → AreCopies R es fs → AllFrom key es → AllFrom key fs
  copies-from key [] [] are p = tt
  copies-from key [] (f ∷ fs) are p = absurd are
  copies-from key (e ∷ es) [] are p = absurd are
  copies-from key (e ∷ es) (f ∷ fs) are p = (subst (λ k. key ≤ k) (sym are.0.0) p.0, copies-from key es fs are.1 p.1)

  copies-ascend : (es fs : List (ℕ × T)) → AreCopies R es fs → Ascends es → Ascends fs
  copies-ascend [] [] are p = tt
  copies-ascend [] (f ∷ fs) are p = absurd are
  copies-ascend (e ∷ es) [] are p = absurd are
  copies-ascend (e ∷ es) (f ∷ fs) are p = (subst (λ k. AllFrom (suc k) fs) (sym are.0.0) (copies-from (suc e.0) es fs are.1 p.0), copies-ascend es fs are.1 p.1)

  begins-copied : (key : ℕ) (es fs : List (ℕ × T)) → AreCopies R es fs → BeginsAt key es → BeginsAt key fs
  begins-copied key [] fs are is = absurd is
  begins-copied key (e ∷ es) [] are is = absurd are
  begins-copied key (e ∷ es) (f ∷ fs) are is = are.0.0 ∙ is

  copies-under : (firsts : List ℕ) (pages others : List (List (ℕ × T))) → AllZip (AreCopies R) pages others → AreUnder firsts pages → AreUnder firsts others
  copies-under [] [] [] are u = tt
  copies-under [] [] (other ∷ others) are u = absurd are
  copies-under [] (page ∷ pages) others are u = absurd u
  copies-under (first ∷ firsts) [] others are u = absurd u
  copies-under (first ∷ firsts) (page ∷ pages) [] are u = absurd are
  copies-under (first ∷ firsts) (page ∷ pages) (other ∷ others) are u = (begins-copied first page other are.0 u.0, copies-under firsts pages others are.1 u.1)

  pub copies-shelf : (firsts : List ℕ) (pages others : List (List (ℕ × T))) → AllZip (AreCopies R) pages others → IsShelf firsts pages → IsShelf firsts others
  copies-shelf firsts pages others are shelf = record {
    under = copies-under firsts pages others are shelf.under;
    ascends = copies-ascend (flatten pages) (flatten others) (copies-flatten pages others are) shelf.ascends;
  }

  pub copies-long : (es fs : List (ℕ × T)) → AreCopies R es fs → length fs ≡ length es
  copies-long [] [] are = refl
  copies-long [] (f ∷ fs) are = absurd are
  copies-long (e ∷ es) [] are = absurd are
  copies-long (e ∷ es) (f ∷ fs) are = ap suc (copies-long es fs are.1)
