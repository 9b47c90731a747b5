-- A row is found by its place, and by its session and number, through the places of its session's rows.
use Rattle.std.proofs.Common.{◌≡◌, ℕ, zero, suc, ◌+◌, ◌-◌, ◌<◌, ◌≤◌, Bool, true, false, cond, List, [], ◌∷◌, map, filter, find, length, Option, None, Some, refl, sym, ap, subst, ◌∙◌, arith, eq-eqb, ◌&&◌, ◌==◌, is_some, nat_lt, if◌then◌else◌, option_map, slice_get}
use Rattle.occ_log.proofs.Common.{Counts, Kept, LogRow, decided, get_or_from_slice_get, lt-ltb, ltb-false, ltb-true, ne_eqb, numbers, placed_at, places_of, row_at, rows_of, slice_get-map, slice_get_past, slice_get_within}
use Rattle.std.proofs.lemmas.List.Elements.{All-filter}
use Rattle.std.proofs.lemmas.Option.{slice_get-get_or}
use Rattle.occ_model.specs.Poll.{row_numbered}

-- By place.

pub before_first : (kept : Kept) (place : ℕ) → place < kept.first → None ≡ row_at kept place
unfolding row_at
before_first kept place less = ap (λ b. if b then None else slice_get kept.rows (place - kept.first)) (sym (lt-ltb place kept.first less))

pub row_from : (kept : Kept) (place : ℕ) → kept.first ≤ place → slice_get kept.rows (place - kept.first) ≡ row_at kept place
unfolding row_at
row_from kept place from = decided (nat_lt place kept.first)
    (λ yes. let less = ltb-true place kept.first yes in absurd (omega arith))
    (λ no. ap (λ b. if b then None else slice_get kept.rows (place - kept.first)) (sym no))

-- where a row is found, its place is that of a row of the log
pub found_from : (kept : Kept) (place : ℕ) → is_some (row_at kept place) ≡ true → (kept.first ≤ place) × (place - kept.first < length kept.rows)
found_from kept place found = decided (nat_lt place kept.first)
    (λ yes. let none = before_first kept place (ltb-true place kept.first yes) in let clash = ap is_some none ∙ found in cc)
    (λ no. let from = ltb-false place kept.first no in (
      from,
      decided (nat_lt (place - kept.first) (length kept.rows))
          (λ yes. ltb-true (place - kept.first) (length kept.rows) yes)
          (λ past. let none = slice_get_past kept.rows (place - kept.first) (ltb-false (place - kept.first) (length kept.rows) past) in
          let clash = ap is_some (sym none ∙ row_from kept place from) ∙ found in cc),
    ))

-- and so for what is seen of a log
pub found-in : (inside kept : Kept) (place : ℕ) → inside ≡ kept → is_some (row_at kept place) ≡ true → (inside.first ≤ place) × (place - inside.first < length inside.rows)
found-in inside kept place is found = found_from inside place (ap (λ k. is_some (row_at k place)) is ∙ found)

pub at_index : (kept : Kept) (place : ℕ) (row : LogRow) → row_at kept place ≡ Some row → slice_get kept.rows (place - kept.first) ≡ Some row
at_index kept place row there = row_from kept place (found_from kept place (ap is_some there)).0 ∙ there

-- what passes a test stands in the list
filtered : {X : Type 0} (test : X → Bool) (xs : List X) (i : ℕ) (x : X) → slice_get (filter test xs) i ≡ Some x → (index : ℕ) × (slice_get xs index ≡ Some x)
filtered test xs i x there =
    subst (λ y. (index : ℕ) × (slice_get xs index ≡ Some y)) (get_or_from_slice_get (filter test xs) i x x there)
    (All-filter test (λ y. (index : ℕ) × (slice_get xs index ≡ Some y)) xs (λ k d less. (k, slice_get-get_or xs k d less)) i x (slice_get_within (filter test xs) i x there))

-- at a place of a session stands its row
pub row_is : (kept : Kept) (session i place : ℕ) → Counts kept.first (places_of kept.rows) → slice_get (places_of (rows_of session kept.rows)) i ≡ Some place → row_at kept place ≡ slice_get (rows_of session kept.rows) i
row_is kept session i place placed at = go (slice_get (rows_of session kept.rows) i) refl (sym (slice_get-map (λ (row : LogRow). row.place) (rows_of session kept.rows) i) ∙ at)
  where
    go : (found : Option LogRow) → slice_get (rows_of session kept.rows) i ≡ found → option_map (λ row. row.place) found ≡ Some place → row_at kept place ≡ found
    go None there none = cc
    go (Some row) there some =
        let f = filtered (λ row. row.session == session) kept.rows i row there in
        let own : row.place ≡ place = cc in
        let is = placed_at kept.first f.0 kept.rows row placed f.1 in
        let index : place - kept.first ≡ f.0 = omega arith in
        sym (row_from kept place (omega arith)) ∙ ap (slice_get kept.rows) index ∙ f.1

pub none_is : (session i : ℕ) (rows : List LogRow) → slice_get (places_of (rows_of session rows)) i ≡ None → None ≡ slice_get (rows_of session rows) i
none_is session i rows at = go (slice_get (rows_of session rows) i) (sym (slice_get-map (λ (row : LogRow). row.place) (rows_of session rows) i) ∙ at)
  where
    go : (found : Option LogRow) → option_map (λ row. row.place) found ≡ None → None ≡ found
    go None none = refl
    go (Some row) none = cc

-- By number.

-- of some rows, the first with a number
abbrev with_number : ℕ → List LogRow → Option LogRow
with_number number rows = find (λ row. row.number == number) rows

-- a session's row with a number is among its rows
among : (session number : ℕ) (rows : List LogRow) → row_numbered session number rows ≡ with_number number (rows_of session rows)
among session number [] = refl
among session number (row ∷ rows) = go (row.session == session) (among session number rows)
  where
    go : (b : Bool) → row_numbered session number rows ≡ with_number number (rows_of session rows)
        → (if b && row.number == number then Some row else row_numbered session number rows) ≡ with_number number (cond b (row ∷ rows_of session rows) (rows_of session rows))
    go true again = ap (cond (row.number == number) (Some row)) again
    go false again = again

pub none_numbered : (session number : ℕ) (rows : List LogRow) → slice_get (rows_of session rows) 0 ≡ None → row_numbered session number rows ≡ None
none_numbered session number rows none = among session number rows ∙ go (rows_of session rows) none
  where
    go : (own : List LogRow) → slice_get own 0 ≡ None → with_number number own ≡ None
    go [] none = refl
    go (row ∷ own) none = cc

-- of rows whose numbers have no gap, none has a number below that of the first
below : (n number : ℕ) (rows : List LogRow) → Counts n (map (λ r. r.number) rows) → number < n → with_number number rows ≡ None
below n number [] counts less = refl
below n number (row ∷ rows) counts less =
    ap (λ b. cond b (Some row) (with_number number rows)) (ne_eqb row.number number (λ e. let is = counts.0 in absurd (omega arith))) ∙ below (suc n) number rows counts.1 (omega arith)

-- and the one whose number lies so far above that of the first has so many before it
above : (n far : ℕ) (rows : List LogRow) → Counts n (map (λ r. r.number) rows) → with_number (n + far) rows ≡ slice_get rows far
above n far [] counts = refl
above n zero (row ∷ rows) counts = let is = counts.0 in ap (λ b. cond b (Some row) (with_number (n + 0) rows)) (eq-eqb row.number (n + 0) (omega arith))
above n (suc far) (row ∷ rows) counts =
    let next : n + suc far ≡ suc n + far = omega arith in
    ap (λ b. cond b (Some row) (with_number (n + suc far) rows)) (ne_eqb row.number (n + suc far) (λ e. let is = counts.0 in absurd (omega arith)))
    ∙ ap (λ m. with_number m rows) next ∙ above (suc n) far rows counts.1

module _ (session number : ℕ) (rows : List LogRow) (oldest : LogRow) (counts : (first : ℕ) × Counts first (numbers session rows)) (there : slice_get (rows_of session rows) 0 ≡ Some oldest) where
  -- the session's rows count from the number of the oldest
  counted : Counts oldest.number (numbers session rows)
  counted = go (rows_of session rows) counts there
    where
      go : (own : List LogRow) → (first : ℕ) × Counts first (map (λ r. r.number) own) → slice_get own 0 ≡ Some oldest → Counts oldest.number (map (λ r. r.number) own)
      go [] counts there = cc
      go (row ∷ own) counts there = let same : row ≡ oldest = cc in subst (λ n. Counts n (row.number ∷ map (λ r. r.number) own)) (sym counts.1.0 ∙ ap (λ (r : LogRow). r.number) same) counts.1

  pub below_none : number < oldest.number → row_numbered session number rows ≡ None
  below_none less = among session number rows ∙ below oldest.number number (rows_of session rows) counted less

  pub numbered_from : oldest.number ≤ number → slice_get (rows_of session rows) (number - oldest.number) ≡ row_numbered session number rows
  numbered_from from =
      let same : oldest.number + (number - oldest.number) ≡ number = omega arith in
      sym (above oldest.number (number - oldest.number) (rows_of session rows) counted) ∙ ap (λ m. with_number m (rows_of session rows)) same ∙ sym (among session number rows)
