-- A page that is begun behind all, and a page that is cut in two: all entries stay where they were.
use Rattle.std.proofs.Common.{◌≡◌, ◌<◌, ◌≤◌, ◌+◌, ◌-◌, ℕ, zero, suc, List, [], ◌∷◌, ◌++◌, length, take, drop, get_or, set, refl, sym, ap, subst, ◌∙◌, arith, append_assoc, take-append-drop, length-append}
use Rattle.std.specs.List.{insert}
use Rattle.std.proofs.lemmas.List.{append-nil, length-set, length-take-le, length-drop, take-take, drop-append-le, drop-drop, drop_all}
use Rattle.std.proofs.lemmas.List.Edits.{length-insert}
use Rattle.occ_pages.specs.Entries.{AllBelow, AllFrom, Ascends, put}
use Rattle.occ_pages.specs.Pages.{BeginsAt, flatten, before, behind, IsShelf, IsGap, cut}
use Rattle.occ_pages.proofs.Laws.{put-new, ascends-put}
use Rattle.occ_pages.proofs.Shelves.{parted, under-long, page-begins, under-push, flatten-push, under-split, flatten-split}

module _ {T : Type 0} where
  -- a page with one row, behind all others
  pub begun-is : (key : ℕ) (row : T) (pages : List (List (ℕ × T))) → AllBelow key (flatten pages) → flatten (pages ++ ((key, row) ∷ []) ∷ []) ≡ put (flatten pages) key row
  begun-is key row pages below =
      flatten-push pages ((key, row) ∷ []) ∙ sym (put-new key row (flatten pages) [] below tt) ∙ ap (λ es. put es key row) (append-nil (flatten pages))

  pub begun-shelf : (key : ℕ) (row : T) (firsts : List ℕ) (pages : List (List (ℕ × T))) → IsShelf firsts pages → AllBelow key (flatten pages) → IsShelf (firsts ++ key ∷ []) (pages ++ ((key, row) ∷ []) ∷ [])
  begun-shelf key row firsts pages shelf below = record {
    under = under-push firsts pages key ((key, row) ∷ []) shelf.under refl;
    ascends = subst Ascends (sym (flatten-push pages ((key, row) ∷ []))) (ascends-put key row (flatten pages) [] below tt (subst Ascends (sym (append-nil (flatten pages))) shelf.ascends));
  }

  pub begun-long : (key : ℕ) (row : T) (pages : List (List (ℕ × T))) → length (flatten (pages ++ ((key, row) ∷ []) ∷ [])) ≡ length (flatten pages) + 1
  begun-long key row pages = ap length (flatten-push pages ((key, row) ∷ [])) ∙ length-append (flatten pages) ((key, row) ∷ [])

  -- nothing stands behind the end of the last page
  behind-last : (pages : List (List (ℕ × T))) (page place : ℕ) → page + 1 ≡ length pages → length (get_or pages page []) ≤ place → behind pages page place ≡ []
  behind-last [] page place last past = refl
  behind-last (es ∷ []) zero place last past = append-nil (drop place es) ∙ drop_all place es past
  behind-last (es ∷ (fs ∷ pages)) zero place last past = absurd (omega arith)
  behind-last (es ∷ pages) (suc page) place last past = behind-last pages page place (omega arith) past

  pub all-below : (key : ℕ) (pages : List (List (ℕ × T))) (page place : ℕ) → IsGap key pages page place → page + 1 ≡ length pages → length (get_or pages page []) ≤ place → AllBelow key (flatten pages)
  all-below key pages page place gap last past =
      subst (AllBelow key) (sym (append-nil (before pages page place)) ∙ ap (λ es. before pages page place ++ es) (sym (behind-last pages page place last past)) ∙ parted pages page place gap.there) gap.below

  -- a page that is cut
  begins-take : (first place : ℕ) (es : List (ℕ × T)) → 0 < place → BeginsAt first es → BeginsAt first (take place es)
  begins-take first zero es h is = absurd (omega arith)
  begins-take first (suc place) [] h is = is
  begins-take first (suc place) (e ∷ es) h is = is

  pub cut-is : (pages : List (List (ℕ × T))) (page place : ℕ) → page < length pages → flatten (cut pages page place) ≡ flatten pages
  cut-is pages page place there = flatten-split pages page _ _ there (take-append-drop place (get_or pages page []))

  pub cut-shelf : (first : ℕ) (firsts : List ℕ) (pages : List (List (ℕ × T))) (page place : ℕ) → IsShelf firsts pages → page < length pages → 0 < place → BeginsAt first (drop place (get_or pages page [])) → IsShelf (insert firsts (suc page) first) (cut pages page place)
  cut-shelf first firsts pages page place shelf there some begins =
      let long = under-long firsts pages shelf.under in
      let within : page < length firsts = omega arith in
      record {
        under = under-split firsts pages page first _ _ shelf.under within (begins-take (get_or firsts page 0) place (get_or pages page []) some (page-begins firsts pages page shelf.under within)) begins;
        ascends = subst Ascends (sym (cut-is pages page place there)) shelf.ascends;
      }

  cut-long : (pages : List (List (ℕ × T))) (page place : ℕ) → page < length pages → length (cut pages page place) ≡ length pages + 1
  cut-long pages page place there =
      let same = length-set pages page (take place (get_or pages page [])) in
      length-insert (set pages page (take place (get_or pages page []))) (suc page) (drop place (get_or pages page [])) (omega arith) ∙ ap (λ n. n + 1) same

  -- its lower part
  pub page-lower : (pages : List (List (ℕ × T))) (page place : ℕ) → page < length pages → get_or (cut pages page place) page [] ≡ take place (get_or pages page [])
  page-lower [] page place there = absurd (omega arith)
  page-lower (es ∷ pages) zero place there = refl
  page-lower (es ∷ pages) (suc page) place there = page-lower pages page place (omega arith)

  -- its upper part
  pub page-upper : (pages : List (List (ℕ × T))) (page place : ℕ) → page < length pages → get_or (cut pages page place) (suc page) [] ≡ drop place (get_or pages page [])
  page-upper [] page place there = absurd (omega arith)
  page-upper (es ∷ pages) zero place there = refl
  page-upper (es ∷ pages) (suc page) place there = page-upper pages page place (omega arith)

  before-lower : (pages : List (List (ℕ × T))) (page half place : ℕ) → page < length pages → place ≤ half → before (cut pages page half) page place ≡ before pages page place
  before-lower [] page half place there h = absurd (omega arith)
  before-lower (es ∷ pages) zero half place there h = take-take place half es h
  before-lower (es ∷ pages) (suc page) half place there h = ap (λ fs. es ++ fs) (before-lower pages page half place (omega arith) h)

  behind-lower : (pages : List (List (ℕ × T))) (page half place : ℕ) → page < length pages → place ≤ half → half ≤ length (get_or pages page []) → behind (cut pages page half) page place ≡ behind pages page place
  behind-lower [] page half place there h within = absurd (omega arith)
  behind-lower (es ∷ pages) zero half place there h within =
      let long = length-take-le half es within in
      sym (append_assoc (drop place (take half es)) (drop half es) (flatten pages))
      ∙ ap (λ fs. fs ++ flatten pages) (sym (drop-append-le place (take half es) (drop half es) (omega arith)) ∙ ap (drop place) (take-append-drop half es))
  behind-lower (es ∷ pages) (suc page) half place there h within = behind-lower pages page half place (omega arith) h within

  take-more : (half more sum : ℕ) (es : List (ℕ × T)) → half + more ≡ sum → take half es ++ take more (drop half es) ≡ take sum es
  take-more zero more sum es e = ap (λ n. take n es) {x = more} (omega arith)
  take-more (suc half) more zero es e = absurd (omega arith)
  take-more (suc half) zero (suc sum) [] e = refl
  take-more (suc half) (suc more) (suc sum) [] e = refl
  take-more (suc half) more (suc sum) (x ∷ es) e = ap (λ fs. x ∷ fs) (take-more half more sum es (omega arith))

  before-upper : (pages : List (List (ℕ × T))) (page half place : ℕ) → page < length pages → half ≤ place → before (cut pages page half) (suc page) (place - half) ≡ before pages page place
  before-upper [] page half place there h = absurd (omega arith)
  before-upper (es ∷ pages) zero half place there h =
      let sum : half + (place - half) ≡ place = omega arith in
      take-more half (place - half) place es sum
  before-upper (es ∷ pages) (suc page) half place there h = ap (λ fs. es ++ fs) (before-upper pages page half place (omega arith) h)

  behind-upper : (pages : List (List (ℕ × T))) (page half place : ℕ) → page < length pages → half ≤ place → behind (cut pages page half) (suc page) (place - half) ≡ behind pages page place
  behind-upper [] page half place there h = absurd (omega arith)
  behind-upper (es ∷ pages) zero half place there h =
      let sum : half + (place - half) ≡ place = omega arith in
      ap (λ fs. fs ++ flatten pages) (drop-drop (place - half) half es ∙ ap (λ n. drop n es) sum)
  behind-upper (es ∷ pages) (suc page) half place there h = behind-upper pages page half place (omega arith) h

  -- a new key belongs to one of the parts
  pub gap-lower : (key : ℕ) (pages : List (List (ℕ × T))) (page half place : ℕ) → IsGap key pages page place → place ≤ half → half ≤ length (get_or pages page []) → IsGap key (cut pages page half) page place
  gap-lower key pages page half place gap h within =
      let long = cut-long pages page half gap.there in
      let part = ap length (page-lower pages page half gap.there) ∙ length-take-le half (get_or pages page []) within in
      record {
        there = omega (arith, gap.there, long);
        inside = omega (arith, part, h);
        below = subst (AllBelow key) (sym (before-lower pages page half place gap.there h)) gap.below;
        above = subst (AllFrom (suc key)) (sym (behind-lower pages page half place gap.there h within)) gap.above;
      }

  pub gap-upper : (key : ℕ) (pages : List (List (ℕ × T))) (page half place : ℕ) → IsGap key pages page place → half ≤ place → IsGap key (cut pages page half) (suc page) (place - half)
  gap-upper key pages page half place gap h =
      let long = cut-long pages page half gap.there in
      let part = ap length (page-upper pages page half gap.there) ∙ length-drop half (get_or pages page []) in
      record {
        there = omega (arith, gap.there, long);
        inside = omega (arith, part, gap.inside);
        below = subst (AllBelow key) (sym (before-upper pages page half place gap.there h)) gap.below;
        above = subst (AllFrom (suc key)) (sym (behind-upper pages page half place gap.there h)) gap.above;
      }
