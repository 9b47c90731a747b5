-- The keys of a page with their rows, and what a change of both lists does.
use Rattle.std.proofs.Common.{◌≡◌, ◌<◌, ◌≤◌, ℕ, zero, suc, true, false, nat_eq, List, [], ◌∷◌, ◌++◌, length, take, drop, get_or, set, refl, sym, ap, ◌∙◌, arith}
use Rattle.std.specs.List.{insert, remove}
use Rattle.std.specs.Cmp.{unsigned_Decides}
use Rattle.std.proofs.lemmas.List.{length-take-le, drop_all}
use Rattle.occ_pages.specs.Entries.{AllBelow, AllFrom, Ascends}
use Rattle.occ_pages.specs.Page.{StandsAt}
use Rattle.occ_pages.specs.Pages.{Rises, IsRank, zipped, begins_with, IsSplit}

module _ {T : Type 0} where
  pub length-zipped : (keys : List ℕ) (rows : List T) → length keys ≡ length rows → length (zipped keys rows) ≡ length keys
  length-zipped [] rows e = refl
  length-zipped (key ∷ keys) [] e = absurd (omega (arith, e))
  length-zipped (key ∷ keys) (row ∷ rows) e = ap suc (length-zipped keys rows (omega (arith, e)))

  zipped-none : (keys : List ℕ) → ◌≡◌ {A = List (ℕ × T)} (zipped keys []) []
  zipped-none [] = refl
  zipped-none (key ∷ keys) = refl

  pub zipped-take : (n : ℕ) (keys : List ℕ) (rows : List T) → zipped (take n keys) (take n rows) ≡ take n (zipped keys rows)
  zipped-take zero keys rows = refl
  zipped-take (suc n) [] rows = refl
  zipped-take (suc n) (key ∷ keys) [] = refl
  zipped-take (suc n) (key ∷ keys) (row ∷ rows) = ap (λ es. (key, row) ∷ es) (zipped-take n keys rows)

  pub zipped-drop : (n : ℕ) (keys : List ℕ) (rows : List T) → zipped (drop n keys) (drop n rows) ≡ drop n (zipped keys rows)
  zipped-drop zero keys rows = refl
  zipped-drop (suc n) [] rows = refl
  zipped-drop (suc n) (key ∷ keys) [] = zipped-none (drop n keys)
  zipped-drop (suc n) (key ∷ keys) (row ∷ rows) = zipped-drop n keys rows

  pub zipped-append : (keys more : List ℕ) (rows others : List T) → length keys ≡ length rows → zipped (keys ++ more) (rows ++ others) ≡ zipped keys rows ++ zipped more others
  zipped-append [] more [] others e = refl
  zipped-append [] more (row ∷ rows) others e = absurd (omega (arith, e))
  zipped-append (key ∷ keys) more [] others e = absurd (omega (arith, e))
  zipped-append (key ∷ keys) more (row ∷ rows) others e = ap (λ es. (key, row) ∷ es) (zipped-append keys more rows others (omega (arith, e)))

  cut : (keys : List ℕ) (rows : List T) (place : ℕ) → length keys ≡ length rows → place ≤ length keys → length (take place keys) ≡ length (take place rows)
  cut keys rows place e h = length-take-le place keys h ∙ sym (length-take-le place rows (omega (arith, e)))

  pub zipped-insert : (keys : List ℕ) (rows : List T) (place key : ℕ) (row : T) → length keys ≡ length rows → place ≤ length keys → zipped (insert keys place key) (insert rows place row) ≡ insert (zipped keys rows) place (key, row)
  zipped-insert keys rows place key row e h =
      zipped-append (take place keys) (key ∷ drop place keys) (take place rows) (row ∷ drop place rows) (cut keys rows place e h)
      ∙ (λ i. zipped-take place keys rows i ++ (key, row) ∷ zipped-drop place keys rows i)

  pub zipped-remove : (keys : List ℕ) (rows : List T) (place : ℕ) → length keys ≡ length rows → place ≤ length keys → zipped (remove keys place) (remove rows place) ≡ remove (zipped keys rows) place
  zipped-remove keys rows place e h =
      zipped-append (take place keys) (drop (suc place) keys) (take place rows) (drop (suc place) rows) (cut keys rows place e h)
      ∙ (λ i. zipped-take place keys rows i ++ zipped-drop (suc place) keys rows i)

  pub zipped-set : (keys : List ℕ) (rows : List T) (place : ℕ) (row : T) → length keys ≡ length rows → place < length keys → zipped keys (set rows place row) ≡ take place (zipped keys rows) ++ (get_or keys place 0, row) ∷ drop (suc place) (zipped keys rows)
  zipped-set [] rows place row e h = absurd (omega arith)
  zipped-set (key ∷ keys) [] place row e h = absurd (omega (arith, e))
  zipped-set (key ∷ keys) (other ∷ rows) zero row e h = refl
  zipped-set (key ∷ keys) (other ∷ rows) (suc place) row e h = ap (λ es. (key, other) ∷ es) (zipped-set keys rows place row (omega (arith, e)) (omega arith))

  stands-there : (keys : List ℕ) (rows : List T) (place : ℕ) (row : T) → length keys ≡ length rows → place < length keys → drop place (zipped keys rows) ≡ (get_or keys place 0, get_or rows place row) ∷ drop (suc place) (zipped keys rows)
  stands-there [] rows place row e h = absurd (omega arith)
  stands-there (key ∷ keys) [] place row e h = absurd (omega (arith, e))
  stands-there (key ∷ keys) (other ∷ rows) zero row e h = refl
  stands-there (key ∷ keys) (other ∷ rows) (suc place) row e h = stands-there keys rows place row (omega (arith, e)) (omega arith)

  -- whether the key at a place is this one
  pub begins-there : (keys : List ℕ) (rows : List T) (place key : ℕ) → length keys ≡ length rows → place < length keys → begins_with key (drop place (zipped keys rows)) ≡ nat_eq (get_or keys place 0) key
  begins-there [] rows place key e h = absurd (omega arith)
  begins-there (k ∷ keys) [] place key e h = absurd (omega (arith, e))
  begins-there (k ∷ keys) (row ∷ rows) zero key e h = refl
  begins-there (k ∷ keys) (row ∷ rows) (suc place) key e h = begins-there keys rows place key (omega (arith, e)) (omega arith)

  pub begins-past : (keys : List ℕ) (rows : List T) (place key : ℕ) → length keys ≡ length rows → length keys ≤ place → begins_with key (drop place (zipped keys rows)) ≡ false
  begins-past keys rows place key e h =
      let long = length-zipped keys rows e in
      ap (begins_with key) (drop_all place (zipped keys rows) (omega arith))

  pub key-there : (keys : List ℕ) (rows : List T) (place key : ℕ) → length keys ≡ length rows → place < length keys → begins_with key (drop place (zipped keys rows)) ≡ true → get_or keys place 0 ≡ key
  key-there keys rows place key e h is =
      (unsigned_Decides (get_or keys place 0) key).0 (sym (begins-there keys rows place key e h) ∙ is)

  pub stands-at : (keys : List ℕ) (rows : List T) (place key : ℕ) → length keys ≡ length rows → place < length keys → (row : T) → row ≡ get_or rows place row → begins_with key (drop place (zipped keys rows)) ≡ true → StandsAt (zipped keys rows) place key row
  stands-at keys rows place key e h row there is =
      stands-there keys rows place row e h
      ∙ (λ i. (key-there keys rows place key e h is i, sym there i) ∷ drop (suc place) (zipped keys rows))

  pub exchanged : (keys : List ℕ) (rows : List T) (place key : ℕ) → length keys ≡ length rows → place < length keys → (row : T) → begins_with key (drop place (zipped keys rows)) ≡ true → zipped keys (set rows place row) ≡ take place (zipped keys rows) ++ (key, row) ∷ drop (suc place) (zipped keys rows)
  exchanged keys rows place key e h row is =
      zipped-set keys rows place row e h
      ∙ ap (λ k. take place (zipped keys rows) ++ (k, row) ∷ drop (suc place) (zipped keys rows)) (key-there keys rows place key e h is)

  -- a place among the keys parts the entries
  all-from : (key : ℕ) (keys : List ℕ) (rows : List T) → ((i : ℕ) → i < length keys → key ≤ get_or keys i 0) → AllFrom key (zipped keys rows)
  all-from key [] rows from = tt
  all-from key (k ∷ keys) [] from = tt
  all-from key (k ∷ keys) (row ∷ rows) from = (from 0 (omega arith), all-from key keys rows (λ i h. from (suc i) (omega arith)))

  pub split-rank : (key : ℕ) (keys : List ℕ) (rows : List T) (place : ℕ) → IsRank keys key place → IsSplit key (take place (zipped keys rows)) (drop place (zipped keys rows))
  split-rank key keys rows place is = record { below = first keys rows place is.there is.below; from = others keys rows place is.from }
    where
      first : (keys : List ℕ) (rows : List T) (place : ℕ) → place ≤ length keys → ((i : ℕ) → i < place → get_or keys i 0 < key) → AllBelow key (take place (zipped keys rows))
      first keys rows zero there below = tt
      first [] rows (suc place) there below = tt
      first (k ∷ keys) [] (suc place) there below = tt
      first (k ∷ keys) (row ∷ rows) (suc place) there below = (below 0 (omega arith), first keys rows place (omega arith) (λ i h. below (suc i) (omega arith)))

      others : (keys : List ℕ) (rows : List T) (place : ℕ) → ((i : ℕ) → place ≤ i → i < length keys → key ≤ get_or keys i 0) → AllFrom key (drop place (zipped keys rows))
      others keys rows zero from = all-from key keys rows (λ i h. from i (omega arith) h)
      others [] rows (suc place) from = tt
      others (k ∷ keys) [] (suc place) from = tt
      others (k ∷ keys) (row ∷ rows) (suc place) from = others keys rows place (λ i h less. from (suc i) (omega arith) (omega arith))

  -- the keys of entries in order ascend
  over-key : (key : ℕ) (keys : List ℕ) (rows : List T) → length keys ≡ length rows → AllFrom key (zipped keys rows) → (i : ℕ) → i < length keys → key ≤ get_or keys i 0
  over-key key [] rows e p i h = absurd (omega arith)
  over-key key (k ∷ keys) [] e p i h = absurd (omega (arith, e))
  over-key key (k ∷ keys) (row ∷ rows) e p zero h = p.0
  over-key key (k ∷ keys) (row ∷ rows) e p (suc i) h = over-key key keys rows (omega (arith, e)) p.1 i (omega arith)

  pub rises : (keys : List ℕ) (rows : List T) → length keys ≡ length rows → Ascends (zipped keys rows) → Rises keys
  rises [] rows e a i j less h = absurd (omega arith)
  rises (k ∷ keys) [] e a i j less h = absurd (omega (arith, e))
  rises (k ∷ keys) (row ∷ rows) e a i zero less h = absurd (omega arith)
  rises (k ∷ keys) (row ∷ rows) e a zero (suc j) less h = over-key (suc k) keys rows (omega (arith, e)) a.0 j (omega arith)
  rises (k ∷ keys) (row ∷ rows) e a (suc i) (suc j) less h = rises keys rows (omega (arith, e)) a.1 i j (omega arith) (omega arith)
