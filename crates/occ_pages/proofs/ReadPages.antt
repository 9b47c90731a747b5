-- What is read of a list of pages at a place.
use Rattle.std.proofs.Common.{◌≡◌, ◌<◌, ◌≤◌, ◌+◌, ◌-◌, ℕ, zero, suc, true, List, [], ◌∷◌, length, take, drop, get_or, sym, subst, ◌∙◌, arith}
use Rattle.std.proofs.lemmas.List.{get_or_default}
use Rattle.occ_pages.specs.Pages.{Rises, IsRank, IsPageFor, begins_with, IsSplit, IsShelf, IsPlace}
use Rattle.occ_pages.proofs.Shelves.{under-long, place-in}

-- the page that a key belongs to: that of the first key itself, or the one before the first key that is above it
pub page-here : (firsts : List ℕ) (key place : ℕ) → Rises firsts → IsRank firsts key place → place < length firsts → get_or firsts place 0 ≡ key → IsPageFor firsts key place
page-here firsts key place rises is there same = record {
  there = there;
  first = λ some. omega (arith, same);
  next = λ more. omega (arith, rises place (place + 1) (omega arith) more, same);
}

differ : (a b : ℕ) → b ≤ a → (a ≡ b → ⊥) → b < a
differ a b h apart = grind (arith, apart)

pub page-before : (firsts : List ℕ) (key place page : ℕ) → Rises firsts → 0 < length firsts → IsRank firsts key place → (place < length firsts → get_or firsts place 0 ≡ key → ⊥) → page ≡ place - 1 → IsPageFor firsts key page
page-before firsts key zero page rises some is differs e =
    let none : page ≡ 0 = omega arith in
    subst (IsPageFor firsts key) (sym none) (record {
      there = some;
      first = λ more. absurd (omega arith);
      next = λ more. omega (arith, rises 0 1 (omega arith) more, is.from 0 (omega arith) some);
    })
page-before firsts key (suc place) page rises some is differs e =
    let same : page ≡ place = omega arith in
    subst (IsPageFor firsts key) (sym same) (record {
      there = omega (arith, is.there);
      first = λ more. omega (arith, is.below place (omega arith));
      next = λ more.
          let there : suc place < length firsts = omega arith in
          subst (λ n. key < get_or firsts n 0) {x = suc place} (omega arith) (differ (get_or firsts (suc place) 0) key (is.from (suc place) (omega arith) there) (differs there));
    })

module _ {T : Type 0} where
  pub read : (pages : List (List (ℕ × T))) (page : ℕ) (es : List (ℕ × T)) → page < length pages → es ≡ get_or pages page es → es ≡ get_or pages page []
  read pages page es there is = is ∙ get_or_default pages page es [] there

  pub sought : (key : ℕ) (firsts : List ℕ) (pages : List (List (ℕ × T))) (page place : ℕ) (es : List (ℕ × T)) → IsShelf firsts pages → IsPageFor firsts key page → es ≡ get_or pages page es → place ≤ length es → IsSplit key (take place es) (drop place es) → IsPlace key pages page place
  sought key firsts pages page place es shelf for is inside split =
      let long = under-long firsts pages shelf.under in
      let same = read pages page es (omega (arith, for.there)) is in
      place-in key firsts pages page place shelf for (subst (λ fs. place ≤ length fs) same inside) (subst (λ fs. IsSplit key (take place fs) (drop place fs)) same split)

  pub begins-inside : (key : ℕ) (es : List (ℕ × T)) (place : ℕ) → begins_with key (drop place es) ≡ true → place < length es
  begins-inside key [] zero is = cc
  begins-inside key [] (suc place) is = cc
  begins-inside key (e ∷ es) zero is = omega arith
  begins-inside key (e ∷ es) (suc place) is = let h = begins-inside key es place is in omega arith
