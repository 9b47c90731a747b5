-- What is found at a place of a page, and what a change there makes of all entries.
use Rattle.std.proofs.Common.{◌≡◌, ◌<◌, ◌+◌, ℕ, zero, suc, false, List, [], ◌∷◌, ◌++◌, length, take, drop, get_or, set, None, Some, refl, sym, ap, subst, ◌∙◌, arith, length-append}
use Rattle.std.specs.List.{insert, remove}
use Rattle.occ_pages.specs.Entries.{Ascends, get, put, without}
use Rattle.occ_pages.specs.Page.{StandsAt}
use Rattle.occ_pages.specs.Pages.{begins_with, BeginsAt, flatten, before, behind, AreUnder, IsShelf, IsPlace, IsGap}
use Rattle.occ_pages.proofs.Laws.{get-absent, get-present, put-new, put-old, without-old, without-absent, ascends-put, ascends-set, ascends-without}
use Rattle.occ_pages.proofs.Shelves.{parted, changed, behind-next, under-long, page-begins, under-set, under-kept, under-remove, remove-set, flatten-remove}

module _ {T : Type 0} where
  abbrev page_at : List (List (ℕ × T)) → ℕ → List (ℕ × T)
  page_at pages page = get_or pages page []

  -- where a key stands at its place, all entries are those before it, its own and those behind it
  apart : (key : ℕ) (pages : List (List (ℕ × T))) (page place : ℕ) (row : T) → page < length pages → StandsAt (page_at pages page) place key row → flatten pages ≡ before pages page place ++ (key, row) ∷ behind pages page (suc place)
  apart key pages page place row there stands =
      sym (parted pages page place there) ∙ ap (λ es. before pages page place ++ es) (behind-next pages page place (suc place) (key, row) there stands)

  pub found : (key : ℕ) (pages : List (List (ℕ × T))) (page place : ℕ) (row : T) → IsPlace key pages page place → StandsAt (page_at pages page) place key row → Some row ≡ get (flatten pages) key
  found key pages page place row is stands =
      sym (ap (λ es. get es key) (apart key pages page place row is.there stands) ∙ get-present key (before pages page place) row (behind pages page (suc place)) is.below)

  pub missing : (key : ℕ) (pages : List (List (ℕ × T))) (page place : ℕ) → IsPlace key pages page place → begins_with key (drop place (page_at pages page)) ≡ false → None ≡ get (flatten pages) key
  missing key pages page place is none =
      sym (ap (λ es. get es key) (sym (parted pages page place is.there)) ∙ get-absent key (before pages page place) (behind pages page place) is.below (is.absent none))

  pub unchanged : (key : ℕ) (pages : List (List (ℕ × T))) (page place : ℕ) → IsPlace key pages page place → begins_with key (drop place (page_at pages page)) ≡ false → flatten pages ≡ without (flatten pages) key
  unchanged key pages page place is none =
      sym (ap (λ es. without es key) (sym (parted pages page place is.there)) ∙ without-absent key (before pages page place) (behind pages page place) is.below (is.absent none) ∙ parted pages page place is.there)

  pub gap-at : (key : ℕ) (pages : List (List (ℕ × T))) (page place : ℕ) → IsPlace key pages page place → begins_with key (drop place (page_at pages page)) ≡ false → IsGap key pages page place
  gap-at key pages page place is none = record { there = is.there; inside = is.inside; below = is.below; above = is.absent none }

  -- a row in the place of another
  abbrev pub exchanged_page : List (ℕ × T) → ℕ → ℕ → T → List (ℕ × T)
  exchanged_page es place key row = take place es ++ (key, row) ∷ drop (suc place) es

  begins-exchanged : (first key : ℕ) (es : List (ℕ × T)) (place : ℕ) (was row : T) → BeginsAt first es → StandsAt es place key was → BeginsAt first (exchanged_page es place key row)
  begins-exchanged first key [] place was row is stands = absurd is
  begins-exchanged first key (e ∷ es) zero was row is stands =
      let same : e ≡ (key, was) = cc in
      sym (ap (λ (f : ℕ × T). f.0) same) ∙ is
  begins-exchanged first key (e ∷ es) (suc place) was row is stands = is

  pub exchanged-is : (key : ℕ) (pages : List (List (ℕ × T))) (page place : ℕ) (was row : T) → IsPlace key pages page place → StandsAt (page_at pages page) place key was → flatten (set pages page (exchanged_page (page_at pages page) place key row)) ≡ put (flatten pages) key row
  exchanged-is key pages page place was row is stands =
      changed pages page place (suc place) ((key, row) ∷ []) is.there
      ∙ sym (put-old key was row (before pages page place) (behind pages page (suc place)) is.below)
      ∙ ap (λ es. put es key row) (sym (apart key pages page place was is.there stands))

  pub exchanged-shelf : (key : ℕ) (firsts : List ℕ) (pages : List (List (ℕ × T))) (page place : ℕ) (was row : T) → IsShelf firsts pages → IsPlace key pages page place → StandsAt (page_at pages page) place key was → IsShelf firsts (set pages page (exchanged_page (page_at pages page) place key row))
  exchanged-shelf key firsts pages page place was row shelf is stands =
      let long = under-long firsts pages shelf.under in
      record {
        under = under-kept firsts pages page _ shelf.under (begins-exchanged (get_or firsts page 0) key (page_at pages page) place was row (page-begins firsts pages page shelf.under (omega (arith, is.there))) stands);
        ascends = subst Ascends (sym (changed pages page place (suc place) ((key, row) ∷ []) is.there)) (ascends-set key was row (before pages page place) (behind pages page (suc place)) (subst Ascends (apart key pages page place was is.there stands) shelf.ascends));
      }

  pub exchanged-long : (key : ℕ) (pages : List (List (ℕ × T))) (page place : ℕ) (was row : T) → IsPlace key pages page place → StandsAt (page_at pages page) place key was → length (flatten (set pages page (exchanged_page (page_at pages page) place key row))) ≡ length (flatten pages)
  exchanged-long key pages page place was row is stands =
      ap length (changed pages page place (suc place) ((key, row) ∷ []) is.there)
      ∙ length-append (before pages page place) ((key, row) ∷ behind pages page (suc place))
      ∙ sym (length-append (before pages page place) ((key, was) ∷ behind pages page (suc place)))
      ∙ sym (ap length (apart key pages page place was is.there stands))

  -- a row under a new key
  pub put-is : (key : ℕ) (row : T) (pages : List (List (ℕ × T))) (page place : ℕ) → IsGap key pages page place → flatten (set pages page (insert (page_at pages page) place (key, row))) ≡ put (flatten pages) key row
  put-is key row pages page place gap =
      changed pages page place place ((key, row) ∷ []) gap.there
      ∙ sym (put-new key row (before pages page place) (behind pages page place) gap.below gap.above)
      ∙ ap (λ es. put es key row) (parted pages page place gap.there)

  pub put-shelf : (key : ℕ) (row : T) (first : ℕ) (firsts : List ℕ) (pages : List (List (ℕ × T))) (page place : ℕ) → IsShelf firsts pages → IsGap key pages page place → BeginsAt first (insert (page_at pages page) place (key, row)) → IsShelf (set firsts page first) (set pages page (insert (page_at pages page) place (key, row)))
  put-shelf key row first firsts pages page place shelf gap begins = record {
    under = under-set firsts pages page first _ shelf.under begins;
    ascends = subst Ascends (sym (changed pages page place place ((key, row) ∷ []) gap.there)) (ascends-put key row (before pages page place) (behind pages page place) gap.below gap.above (subst Ascends (sym (parted pages page place gap.there)) shelf.ascends));
  }

  one-more : (xs ys : List (ℕ × T)) (e : ℕ × T) → length (xs ++ e ∷ ys) ≡ length (xs ++ ys) + 1
  one-more xs ys e = omega (arith, length-append xs (e ∷ ys), length-append xs ys)

  pub put-long : (key : ℕ) (row : T) (pages : List (List (ℕ × T))) (page place : ℕ) → IsGap key pages page place → length (flatten (set pages page (insert (page_at pages page) place (key, row)))) ≡ length (flatten pages) + 1
  put-long key row pages page place gap =
      ap length (changed pages page place place ((key, row) ∷ []) gap.there)
      ∙ one-more (before pages page place) (behind pages page place) (key, row)
      ∙ ap (λ es. length es + 1) (parted pages page place gap.there)

  -- a row that is taken out
  pub taken-is : (key : ℕ) (pages : List (List (ℕ × T))) (page place : ℕ) (was : T) → IsPlace key pages page place → StandsAt (page_at pages page) place key was → flatten (set pages page (remove (page_at pages page) place)) ≡ without (flatten pages) key
  taken-is key pages page place was is stands =
      changed pages page place (suc place) [] is.there
      ∙ sym (without-old key was (before pages page place) (behind pages page (suc place)) is.below)
      ∙ ap (λ es. without es key) (sym (apart key pages page place was is.there stands))

  -- some entry stands at each place of a page
  entry-at : (es : List (ℕ × T)) (place : ℕ) → place < length es → (e : ℕ × T) × (drop place es ≡ e ∷ drop (suc place) es)
  entry-at [] place h = absurd (omega arith)
  entry-at (e ∷ es) zero h = (e, refl)
  entry-at (e ∷ es) (suc place) h = entry-at es place (omega arith)

  taken-parts : (pages : List (List (ℕ × T))) (page place : ℕ) → page < length pages → place < length (page_at pages page) → (e : ℕ × T) × (flatten pages ≡ before pages page place ++ e ∷ behind pages page (suc place))
  taken-parts pages page place there inside =
      let e = entry-at (page_at pages page) place inside in
      (e.0, sym (parted pages page place there) ∙ ap (λ es. before pages page place ++ es) (behind-next pages page place (suc place) e.0 there e.1))

  pub taken-ascends : (firsts : List ℕ) (pages : List (List (ℕ × T))) (page place : ℕ) → IsShelf firsts pages → page < length pages → place < length (page_at pages page) → Ascends (flatten (set pages page (remove (page_at pages page) place)))
  taken-ascends firsts pages page place shelf there inside =
      let parts = taken-parts pages page place there inside in
      subst Ascends (sym (changed pages page place (suc place) [] there)) (ascends-without parts.0 (before pages page place) (behind pages page (suc place)) (subst Ascends parts.1 shelf.ascends))

  pub taken-long : (pages : List (List (ℕ × T))) (page place : ℕ) → page < length pages → place < length (page_at pages page) → length (flatten (set pages page (remove (page_at pages page) place))) + 1 ≡ length (flatten pages)
  taken-long pages page place there inside =
      let parts = taken-parts pages page place there inside in
      ap (λ es. length es + 1) (changed pages page place (suc place) [] there)
      ∙ sym (ap length parts.1 ∙ one-more (before pages page place) (behind pages page (suc place)) parts.0)

  pub taken-shelf : (first : ℕ) (firsts : List ℕ) (pages : List (List (ℕ × T))) (page place : ℕ) → IsShelf firsts pages → page < length pages → place < length (page_at pages page) → BeginsAt first (remove (page_at pages page) place) → IsShelf (set firsts page first) (set pages page (remove (page_at pages page) place))
  taken-shelf first firsts pages page place shelf there inside begins = record {
    under = under-set firsts pages page first _ shelf.under begins;
    ascends = taken-ascends firsts pages page place shelf there inside;
  }

  -- a page that became empty goes
  pub gone-is : (pages : List (List (ℕ × T))) (page : ℕ) (es : List (ℕ × T)) → page < length pages → es ≡ [] → flatten (remove (set pages page es) page) ≡ flatten (set pages page es)
  gone-is pages page es there empty =
      ap (λ fs. flatten (remove (set pages page fs) page)) empty ∙ flatten-remove pages page there ∙ ap (λ fs. flatten (set pages page fs)) (sym empty)

  pub gone-shelf : (firsts : List ℕ) (pages : List (List (ℕ × T))) (page place : ℕ) → IsShelf firsts pages → page < length pages → place < length (page_at pages page) → remove (page_at pages page) place ≡ [] → IsShelf (remove firsts page) (remove (set pages page (remove (page_at pages page) place)) page)
  gone-shelf firsts pages page place shelf there inside empty =
      let long = under-long firsts pages shelf.under in
      record {
        under = subst (AreUnder (remove firsts page)) (sym (remove-set pages page (remove (page_at pages page) place))) (under-remove firsts pages page shelf.under (omega arith));
        ascends = subst Ascends (sym (gone-is pages page (remove (page_at pages page) place) there empty)) (taken-ascends firsts pages page place shelf there inside);
      }
