-- Pages in order under their first keys: where a key belongs, and what a change of one page does to all entries.
use Rattle.std.proofs.Common.{◌≡◌, ◌<◌, ◌≤◌, ◌+◌, ℕ, zero, suc, List, [], ◌∷◌, ◌++◌, length, take, drop, get_or, set, refl, sym, ap, subst, ◌∙◌, arith, append_assoc, take-append-drop}
use Rattle.std.specs.List.{insert, remove}
use Rattle.std.proofs.lemmas.List.{append-nil}
use Rattle.occ_pages.specs.Entries.{AllBelow, AllFrom, Ascends}
use Rattle.occ_pages.specs.Pages.{Rises, IsPageFor, BeginsAt, flatten, before, behind, AreUnder, IsSplit, IsShelf, IsPlace}
use Rattle.occ_pages.proofs.Laws.{below-append, from-append, from-last, from-weaker, ascends-first, ascends-last, below-first, from-next}

-- what was set at a place is taken out
pub remove-set : {X : Type 0} (xs : List X) (i : ℕ) (x : X) → remove (set xs i x) i ≡ remove xs i
remove-set [] zero x = refl
remove-set [] (suc i) x = refl
remove-set (y ∷ xs) zero x = refl
remove-set (y ∷ xs) (suc i) x = ap (λ ys. y ∷ ys) (remove-set xs i x)

module _ {T : Type 0} where
  -- a place parts all entries in two
  pub parted : (pages : List (List (ℕ × T))) (page place : ℕ) → page < length pages → before pages page place ++ behind pages page place ≡ flatten pages
  parted [] page place h = absurd (omega arith)
  parted (es ∷ pages) zero place h =
      sym (append_assoc (take place es) (drop place es) (flatten pages)) ∙ ap (λ fs. fs ++ flatten pages) (take-append-drop place es)
  parted (es ∷ pages) (suc page) place h =
      append_assoc es (before pages page place) (behind pages page place) ∙ ap (λ fs. es ++ fs) (parted pages page place (omega arith))

  -- a change of one page between two places
  pub changed : (pages : List (List (ℕ × T))) (page i j : ℕ) (middle : List (ℕ × T)) → page < length pages → flatten (set pages page (take i (get_or pages page []) ++ (middle ++ drop j (get_or pages page [])))) ≡ before pages page i ++ (middle ++ behind pages page j)
  changed [] page i j middle h = absurd (omega arith)
  changed (es ∷ pages) zero i j middle h =
      append_assoc (take i es) (middle ++ drop j es) (flatten pages) ∙ ap (λ fs. take i es ++ fs) (append_assoc middle (drop j es) (flatten pages))
  changed (es ∷ pages) (suc page) i j middle h =
      ap (λ fs. es ++ fs) (changed pages page i j middle (omega arith)) ∙ sym (append_assoc es (before pages page i) (middle ++ behind pages page j))

  -- the entry at a place of a page is that of all entries
  pub behind-next : (pages : List (List (ℕ × T))) (page i j : ℕ) (e : ℕ × T) → page < length pages → drop i (get_or pages page []) ≡ e ∷ drop j (get_or pages page []) → behind pages page i ≡ e ∷ behind pages page j
  behind-next [] page i j e h is = absurd (omega arith)
  behind-next (es ∷ pages) zero i j e h is = ap (λ fs. fs ++ flatten pages) is
  behind-next (es ∷ pages) (suc page) i j e h is = behind-next pages page i j e (omega arith) is

  -- as many pages as first keys
  pub under-long : (firsts : List ℕ) (pages : List (List (ℕ × T))) → AreUnder firsts pages → length firsts ≡ length pages
  under-long [] [] u = refl
  under-long [] (page ∷ pages) u = absurd u
  under-long (first ∷ firsts) [] u = absurd u
  under-long (first ∷ firsts) (page ∷ pages) u = ap suc (under-long firsts pages u.1)

  -- the first entry of a page has its first key
  record Begun (first : ℕ) (es : List (ℕ × T)) : Type 0 where
    entry : ℕ × T
    is : es ≡ entry ∷ drop 1 es
    key : entry.0 ≡ first

  begun : (first : ℕ) (es : List (ℕ × T)) → BeginsAt first es → Begun first es
  begun first [] is = absurd is
  begun first (e ∷ es) is = record { entry = e; is = refl; key = is }

  pub page-begins : (firsts : List ℕ) (pages : List (List (ℕ × T))) (page : ℕ) → AreUnder firsts pages → page < length firsts → BeginsAt (get_or firsts page 0) (get_or pages page [])
  page-begins [] [] page u h = absurd (omega arith)
  page-begins [] (es ∷ pages) page u h = absurd u
  page-begins (first ∷ firsts) [] page u h = absurd u
  page-begins (first ∷ firsts) (es ∷ pages) zero u h = u.0
  page-begins (first ∷ firsts) (es ∷ pages) (suc page) u h = page-begins firsts pages page u.1 (omega arith)

  -- each page is in order
  pub page-ascends : (pages : List (List (ℕ × T))) (page : ℕ) → Ascends (flatten pages) → Ascends (get_or pages page [])
  page-ascends [] page a = tt
  page-ascends (es ∷ pages) zero a = ascends-first es (flatten pages) a
  page-ascends (es ∷ pages) (suc page) a = page-ascends pages page (ascends-last es (flatten pages) a)

  -- the first keys ascend
  firsts-from : (key : ℕ) (firsts : List ℕ) (pages : List (List (ℕ × T))) → AreUnder firsts pages → AllFrom key (flatten pages) → (i : ℕ) → i < length firsts → key ≤ get_or firsts i 0
  firsts-from key [] pages u p i h = absurd (omega arith)
  firsts-from key (first ∷ firsts) [] u p i h = absurd u
  firsts-from key (first ∷ firsts) ([] ∷ pages) u p i h = absurd u.0
  firsts-from key (first ∷ firsts) ((e ∷ es) ∷ pages) u p zero h = omega (arith, p.0, u.0)
  firsts-from key (first ∷ firsts) ((e ∷ es) ∷ pages) u p (suc i) h =
      firsts-from key firsts pages u.1 (from-last key es (flatten pages) p.1) i (omega arith)

  pub firsts-rise : (firsts : List ℕ) (pages : List (List (ℕ × T))) → AreUnder firsts pages → Ascends (flatten pages) → Rises firsts
  firsts-rise [] pages u a i j less h = absurd (omega arith)
  firsts-rise (first ∷ firsts) [] u a i j less h = absurd u
  firsts-rise (first ∷ firsts) ([] ∷ pages) u a i j less h = absurd u.0
  firsts-rise (first ∷ firsts) ((e ∷ es) ∷ pages) u a i zero less h = absurd (omega arith)
  firsts-rise (first ∷ firsts) ((e ∷ es) ∷ pages) u a zero (suc j) less h =
      let above = firsts-from (suc e.0) firsts pages u.1 (from-last (suc e.0) es (flatten pages) a.0) j (omega arith) in
      omega (arith, above, u.0)
  firsts-rise (first ∷ firsts) ((e ∷ es) ∷ pages) u a (suc i) (suc j) less h =
      firsts-rise firsts pages u.1 (ascends-last es (flatten pages) a.1) i j (omega arith) (omega arith)

  -- from the first key of the first page on
  pub all-from : (key : ℕ) (firsts : List ℕ) (pages : List (List (ℕ × T))) → AreUnder firsts pages → Ascends (flatten pages) → (0 < length firsts → key ≤ get_or firsts 0 0) → AllFrom key (flatten pages)
  all-from key [] [] u a h = tt
  all-from key [] (page ∷ pages) u a h = absurd u
  all-from key (first ∷ firsts) [] u a h = absurd u
  all-from key (first ∷ firsts) ([] ∷ pages) u a h = absurd u.0
  all-from key (first ∷ firsts) ((e ∷ es) ∷ pages) u a h =
      let here : key ≤ first = h (omega arith) in
      (omega (arith, u.0), from-weaker (suc e.0) key (es ++ flatten pages) (omega (arith, u.0)) a.0)

  -- a page that begins no later than a key stands behind entries below the key
  below-page : (key : ℕ) (es : List (ℕ × T)) (firsts : List ℕ) (pages : List (List (ℕ × T))) (page : ℕ) → AreUnder firsts pages → page < length firsts → get_or firsts page 0 ≤ key → Ascends (es ++ flatten pages) → AllBelow key es
  below-page key es firsts pages page u h less a =
      let long = under-long firsts pages u in
      let there : page < length pages = omega arith in
      let first = begun _ _ (page-begins firsts pages page u h) in
      let next = behind-next pages page 0 1 first.entry there first.is in
      let all : flatten pages ≡ before pages page 0 ++ first.entry ∷ behind pages page 1 =
      sym (parted pages page 0 there) ∙ ap (λ fs. before pages page 0 ++ fs) next in
      below-first key es (before pages page 0) first.entry (behind pages page 1) (subst (λ fs. Ascends (es ++ fs)) all a) (omega (arith, first.key))

  -- a place of the page that a key belongs to, where all keys before it are below the key and no other is, is that of the key among all
  pub before-page : (key : ℕ) (firsts : List ℕ) (pages : List (List (ℕ × T))) (page place : ℕ) → AreUnder firsts pages → Ascends (flatten pages) → page < length firsts → (0 < page → get_or firsts page 0 ≤ key) → AllBelow key (take place (get_or pages page [])) → AllBelow key (before pages page place)
  before-page key [] pages page place u a h first is = absurd (omega arith)
  before-page key (f ∷ firsts) [] page place u a h first is = absurd u
  before-page key (f ∷ firsts) (es ∷ pages) zero place u a h first is = is
  before-page key (f ∷ firsts) (es ∷ pages) (suc page) place u a h first is =
      let here : page < length firsts = omega arith in
      let low : get_or firsts page 0 ≤ key = first (omega arith) in
      below-append key es (before pages page place) (below-page key es firsts pages page u.1 here low a)
      (before-page key firsts pages page place u.1 (ascends-last es (flatten pages) a) here (λ more. low) is)

  behind-page : (key : ℕ) (firsts : List ℕ) (pages : List (List (ℕ × T))) (page place : ℕ) → AreUnder firsts pages → Ascends (flatten pages) → page < length firsts → (suc page < length firsts → key ≤ get_or firsts (suc page) 0) → AllFrom key (drop place (get_or pages page [])) → AllFrom key (behind pages page place)
  behind-page key [] pages page place u a h next is = absurd (omega arith)
  behind-page key (f ∷ firsts) [] page place u a h next is = absurd u
  behind-page key (f ∷ firsts) (es ∷ pages) zero place u a h next is =
      from-append key (drop place es) (flatten pages) is (all-from key firsts pages u.1 (ascends-last es (flatten pages) a) (λ more. next (omega arith)))
  behind-page key (f ∷ firsts) (es ∷ pages) (suc page) place u a h next is =
      behind-page key firsts pages page place u.1 (ascends-last es (flatten pages) a) (omega arith) (λ more. next (omega arith)) is

  ascends-drop : (place : ℕ) (es : List (ℕ × T)) → Ascends es → Ascends (drop place es)
  ascends-drop place es a = ascends-last (take place es) (drop place es) (subst Ascends (sym (take-append-drop place es)) a)

  pub place-in : (key : ℕ) (firsts : List ℕ) (pages : List (List (ℕ × T))) (page place : ℕ) → IsShelf firsts pages → IsPageFor firsts key page → place ≤ length (get_or pages page []) → IsSplit key (take place (get_or pages page [])) (drop place (get_or pages page [])) → IsPlace key pages page place
  place-in key firsts pages page place shelf for inside is =
      let long = under-long firsts pages shelf.under in
      let last : suc page < length firsts → suc key ≤ get_or firsts (suc page) 0 = λ more. subst (λ n. key < get_or firsts n 0) {x = page + 1} (omega arith) (for.next (omega arith)) in
      record {
        there = omega (arith, for.there);
        inside = inside;
        below = before-page key firsts pages page place shelf.under shelf.ascends for.there for.first is.below;
        absent = λ none.
            behind-page (suc key) firsts pages page place shelf.under shelf.ascends for.there last
            (from-next key (drop place (get_or pages page [])) (ascends-drop place (get_or pages page []) (page-ascends pages page shelf.ascends)) is.from none);
      }

  -- each page stays under its first key: where rows are put at a place behind the first
  pub under-set : (firsts : List ℕ) (pages : List (List (ℕ × T))) (page key : ℕ) (es : List (ℕ × T)) → AreUnder firsts pages → BeginsAt key es → AreUnder (set firsts page key) (set pages page es)
  under-set [] [] page key es u is = tt
  under-set [] (fs ∷ pages) page key es u is = absurd u
  under-set (first ∷ firsts) [] page key es u is = absurd u
  under-set (first ∷ firsts) (fs ∷ pages) zero key es u is = (is, u.1)
  under-set (first ∷ firsts) (fs ∷ pages) (suc page) key es u is = (u.0, under-set firsts pages page key es u.1 is)

  -- and where the first key stays
  pub under-kept : (firsts : List ℕ) (pages : List (List (ℕ × T))) (page : ℕ) (es : List (ℕ × T)) → AreUnder firsts pages → BeginsAt (get_or firsts page 0) es → AreUnder firsts (set pages page es)
  under-kept [] [] page es u is = tt
  under-kept [] (fs ∷ pages) page es u is = absurd u
  under-kept (first ∷ firsts) [] page es u is = absurd u
  under-kept (first ∷ firsts) (fs ∷ pages) zero es u is = (is, u.1)
  under-kept (first ∷ firsts) (fs ∷ pages) (suc page) es u is = (u.0, under-kept firsts pages page es u.1 is)

  -- a page more behind all
  pub under-push : (firsts : List ℕ) (pages : List (List (ℕ × T))) (key : ℕ) (es : List (ℕ × T)) → AreUnder firsts pages → BeginsAt key es → AreUnder (firsts ++ key ∷ []) (pages ++ es ∷ [])
  under-push [] [] key es u is = (is, tt)
  under-push [] (fs ∷ pages) key es u is = absurd u
  under-push (first ∷ firsts) [] key es u is = absurd u
  under-push (first ∷ firsts) (fs ∷ pages) key es u is = (u.0, under-push firsts pages key es u.1 is)

  pub flatten-push : (pages : List (List (ℕ × T))) (es : List (ℕ × T)) → flatten (pages ++ es ∷ []) ≡ flatten pages ++ es
  flatten-push [] es = append-nil es
  flatten-push (fs ∷ pages) es = ap (λ gs. fs ++ gs) (flatten-push pages es) ∙ sym (append_assoc fs (flatten pages) es)

  -- a page that became empty is taken out
  pub under-remove : (firsts : List ℕ) (pages : List (List (ℕ × T))) (page : ℕ) → AreUnder firsts pages → page < length firsts → AreUnder (remove firsts page) (remove pages page)
  under-remove [] pages page u h = absurd (omega arith)
  under-remove (first ∷ firsts) [] page u h = absurd u
  under-remove (first ∷ firsts) (fs ∷ pages) zero u h = u.1
  under-remove (first ∷ firsts) (fs ∷ pages) (suc page) u h = (u.0, under-remove firsts pages page u.1 (omega arith))

  pub flatten-remove : (pages : List (List (ℕ × T))) (page : ℕ) → page < length pages → flatten (remove (set pages page []) page) ≡ flatten (set pages page [])
  flatten-remove [] page h = absurd (omega arith)
  flatten-remove (fs ∷ pages) zero h = refl
  flatten-remove (fs ∷ pages) (suc page) h = ap (λ gs. fs ++ gs) (flatten-remove pages page (omega arith))

  -- a page is split
  pub under-split : (firsts : List ℕ) (pages : List (List (ℕ × T))) (page key : ℕ) (es fs : List (ℕ × T)) → AreUnder firsts pages → page < length firsts → BeginsAt (get_or firsts page 0) es → BeginsAt key fs → AreUnder (insert firsts (suc page) key) (insert (set pages page es) (suc page) fs)
  under-split [] pages page key es fs u h is other = absurd (omega arith)
  under-split (first ∷ firsts) [] page key es fs u h is other = absurd u
  under-split (first ∷ firsts) (gs ∷ pages) zero key es fs u h is other = (is, (other, u.1))
  under-split (first ∷ firsts) (gs ∷ pages) (suc page) key es fs u h is other = (u.0, under-split firsts pages page key es fs u.1 (omega arith) is other)

  -- and all entries stay
  pub flatten-split : (pages : List (List (ℕ × T))) (page : ℕ) (es fs : List (ℕ × T)) → page < length pages → es ++ fs ≡ get_or pages page [] → flatten (insert (set pages page es) (suc page) fs) ≡ flatten pages
  flatten-split [] page es fs h is = absurd (omega arith)
  flatten-split (gs ∷ pages) zero es fs h is = sym (append_assoc es fs (flatten pages)) ∙ ap (λ hs. hs ++ flatten pages) is
  flatten-split (gs ∷ pages) (suc page) es fs h is = ap (λ hs. gs ++ hs) (flatten-split pages page es fs (omega arith) is)

  -- the same lists are the same shelf
  pub same-shelf : (firsts keys : List ℕ) (pages others : List (List (ℕ × T))) → keys ≡ firsts → others ≡ pages → IsShelf firsts pages → IsShelf keys others
  same-shelf firsts keys pages others p q shelf = subst (λ ks. IsShelf ks others) (sym p) (subst (IsShelf firsts) (sym q) shelf)
