-- The rows of a range: the pages in which they stand, and what each page has of them.
use Rattle.std.proofs.Common.{◌≡◌, ◌<◌, ◌≤◌, ◌+◌, ◌-◌, ℕ, zero, suc, true, false, cond, List, [], ◌∷◌, ◌++◌, length, take, drop, get_or, Option, None, Some, refl, sym, ap, subst, ◌∙◌, arith, append_assoc, take-append-drop, length-append}
use Rattle.std.proofs.lemmas.List.{append-nil, take_more, drop-drop}
use Rattle.occ_pages.specs.Entries.{AllBelow, AllFrom, Ascends, is_within, within}
use Rattle.occ_pages.specs.Pages.{IsRank, IsPageFor, flatten, before, AreUnder, IsShelf}
use Rattle.occ_pages.proofs.Laws.{ascends-first, ascends-last, within-append, within-below, within-from}
use Rattle.occ_pages.proofs.Shelves.{all-from, before-page, flatten-push}

module _ {T : Type 0} where
  before-start : (pages : List (List (ℕ × T))) (page : ℕ) → before pages page 0 ≡ flatten (take page pages)
  before-start [] zero = refl
  before-start [] (suc page) = refl
  before-start (es ∷ pages) zero = refl
  before-start (es ∷ pages) (suc page) = ap (λ fs. es ++ fs) (before-start pages page)

  flatten-append : (pages others : List (List (ℕ × T))) → flatten (pages ++ others) ≡ flatten pages ++ flatten others
  flatten-append [] others = refl
  flatten-append (es ∷ pages) others = ap (λ fs. es ++ fs) (flatten-append pages others) ∙ sym (append_assoc es (flatten pages) (flatten others))

  -- no row of a range stands before the page that its lower end belongs to
  pub none-before : (lower : ℕ) (upper : Option ℕ) (firsts : List ℕ) (pages : List (List (ℕ × T))) (page : ℕ) → IsShelf firsts pages → IsPageFor firsts lower page → within (Some lower) upper (flatten (take page pages)) ≡ []
  none-before lower upper firsts pages page shelf for =
      within-below lower upper (flatten (take page pages))
      (subst (AllBelow lower) (before-start pages page) (before-page lower firsts pages page 0 shelf.under shelf.ascends for.there for.first tt))

  from-rank : (key : ℕ) (firsts : List ℕ) (pages : List (List (ℕ × T))) (place : ℕ) → AreUnder firsts pages → Ascends (flatten pages) → ((i : ℕ) → place ≤ i → i < length firsts → key ≤ get_or firsts i 0) → AllFrom key (flatten (drop place pages))
  from-rank key firsts pages zero u a from = all-from key firsts pages u a (λ some. from 0 (omega arith) some)
  from-rank key [] [] (suc place) u a from = tt
  from-rank key [] (page ∷ pages) (suc place) u a from = absurd u
  from-rank key (first ∷ firsts) [] (suc place) u a from = absurd u
  from-rank key (first ∷ firsts) (page ∷ pages) (suc place) u a from =
      from-rank key firsts pages place u.1 (ascends-behind page (flatten pages) a) (λ i h less. from (suc i) (omega arith) (omega arith))
    where
      ascends-behind : (xs ys : List (ℕ × T)) → Ascends (xs ++ ys) → Ascends ys
      ascends-behind [] ys p = p
      ascends-behind (x ∷ xs) ys p = ascends-behind xs ys p.1

  -- and none from the first page on that begins at its upper end or above
  pub none-behind : (lower : Option ℕ) (upper : ℕ) (firsts : List ℕ) (pages : List (List (ℕ × T))) (place page : ℕ) → IsShelf firsts pages → IsRank firsts upper place → place ≤ page → within lower (Some upper) (flatten (drop page pages)) ≡ []
  none-behind lower upper firsts pages place page shelf is h =
      within-from lower upper (flatten (drop page pages)) (from-rank upper firsts pages page shelf.under shelf.ascends (λ i more less. is.from i (omega arith) less))

  -- the rows of a range are those in the pages between
  pub one-more-page : (lower upper : Option ℕ) (pages : List (List (ℕ × T))) (page : ℕ) → page < length pages → within lower upper (flatten (take (page + 1) pages)) ≡ within lower upper (flatten (take page pages)) ++ within lower upper (get_or pages page [])
  one-more-page lower upper pages page there =
      ap (λ ps. within lower upper (flatten ps)) (take_more pages page [] there)
      ∙ ap (within lower upper) (flatten-push (take page pages) (get_or pages page []))
      ∙ within-append lower upper (flatten (take page pages)) (get_or pages page [])

  parts-of : (lower upper : Option ℕ) (pages : List (List (ℕ × T))) (page : ℕ) → within lower upper (flatten pages) ≡ within lower upper (flatten (take page pages)) ++ within lower upper (flatten (drop page pages))
  parts-of lower upper pages page =
      ap (λ ps. within lower upper (flatten ps)) (sym (take-append-drop page pages))
      ∙ ap (within lower upper) (flatten-append (take page pages) (drop page pages))
      ∙ within-append lower upper (flatten (take page pages)) (flatten (drop page pages))

  pub all-counted : (lower upper : Option ℕ) (pages : List (List (ℕ × T))) (page : ℕ) → within lower upper (flatten (drop page pages)) ≡ [] → within lower upper (flatten (take page pages)) ≡ within lower upper (flatten pages)
  all-counted lower upper pages page none =
      sym (append-nil (within lower upper (flatten (take page pages))))
      ∙ ap (λ es. within lower upper (flatten (take page pages)) ++ es) (sym none)
      ∙ sym (parts-of lower upper pages page)

  within-short : (lower upper : Option ℕ) (es : List (ℕ × T)) → length (within lower upper es) ≤ length es
  within-short lower upper [] = omega arith
  within-short lower upper (e ∷ es) =
      let h = within-short lower upper es in
      elim (is_within lower upper e.0) as (λ b. length (cond b (e ∷ within lower upper es) (within lower upper es)) ≤ suc (length es)) [
        | true ↦ omega (arith, h)
        | false ↦ omega (arith, h)
      ]

  -- there are no more of them than entries
  pub count-fits : (lower upper : Option ℕ) (pages : List (List (ℕ × T))) (page : ℕ) → length (within lower upper (flatten (take page pages))) ≤ length (flatten pages)
  count-fits lower upper pages page =
      let short = within-short lower upper (flatten pages) in
      let parts = ap length (parts-of lower upper pages page) in
      omega (arith, short, parts, length-append (within lower upper (flatten (take page pages))) (within lower upper (flatten (drop page pages))))

  -- the pages between two places have all rows of a range, where those before and behind have none
  pub between-pages : (lower upper : Option ℕ) (pages : List (List (ℕ × T))) (start end : ℕ) → start ≤ end → within lower upper (flatten (take start pages)) ≡ [] → within lower upper (flatten (drop end pages)) ≡ [] → within lower upper (flatten (take (end - start) (drop start pages))) ≡ within lower upper (flatten pages)
  between-pages lower upper pages start end order none-first none-last =
      let rest : drop (end - start) (drop start pages) ≡ drop end pages = drop-drop (end - start) start pages ∙ ap (λ n. drop n pages) {x = start + (end - start)} (omega arith) in
      all-counted lower upper (drop start pages) (end - start) (ap (λ ps. within lower upper (flatten ps)) rest ∙ none-last)
      ∙ ap (λ es. es ++ within lower upper (flatten (drop start pages))) (sym none-first)
      ∙ sym (parts-of lower upper pages start)

  -- the pages between two places are in order
  pub ascends-between : (pages : List (List (ℕ × T))) (start end : ℕ) → Ascends (flatten pages) → Ascends (flatten (take (end - start) (drop start pages)))
  ascends-between pages start end a =
      let rest = drop start pages in
      let behind = ascends-last (flatten (take start pages)) (flatten rest) (subst Ascends (sym (ap flatten (take-append-drop start pages)) ∙ flatten-append (take start pages) rest) a) in
      ascends-first (flatten (take (end - start) rest)) (flatten (drop (end - start) rest)) (subst Ascends (sym (ap flatten (take-append-drop (end - start) rest)) ∙ flatten-append (take (end - start) rest) (drop (end - start) rest)) behind)

  -- all entries lie within a range without ends
  pub within-all : (es : List (ℕ × T)) → within None None es ≡ es
  within-all [] = refl
  within-all (e ∷ es) = ap (λ fs. e ∷ fs) (within-all es)
