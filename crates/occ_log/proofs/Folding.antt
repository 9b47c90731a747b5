-- The rows and the places that are listed, as rows come in, take another standing and go.
use Rattle.std.proofs.Common.{◌≡◌, ℕ, zero, suc, ◌+◌, ◌-◌, ◌≤◌, Bool, true, false, cond, List, [], ◌∷◌, ◌++◌, map, filter, drop, get_or, length, Some, refl, sym, ap, subst, ◌∙◌, arith, ◌&&◌, ◌||◌, ◌==◌, nat_le, slice_get, slice_set}
use Rattle.occ_log.proofs.Common.{AreListed, Case, Counts, Counts-push, HaveNoGap, Listed, LogRow, append-nil, decided, filter-append, foldable_part, is_open, leb-false, leb-true, length-map, list_any, listed_at, log_of, log_row_of, map-append, places_of, prefix_len, rows_of, standing_of, unlisted}
use Rattle.std.proofs.Math.Seq.{drop-nil}
use Rattle.occ_model.specs.Refusal.{foldable}
use Rattle.occ_sets.specs.declared.log_rows.LogRow as code_row
use Rattle.occ_log.proofs.Listed.{either}
use Rattle.occ_log.proofs.Places.{of_cond, set-unseen}

-- What is listed.

-- the places of a session's rows, by the first of all rows
places-cons : (session : ℕ) (row : LogRow) (rows : List LogRow) → places_of (rows_of session (row ∷ rows)) ≡ cond (row.session == session) (row.place ∷ places_of (rows_of session rows)) (places_of (rows_of session rows))
places-cons session row rows = of_cond places_of (row.session == session) (row ∷ rows_of session rows) (rows_of session rows)

-- a row comes in
pub listed-push : (first : ℕ) (rows log : List LogRow) (row : LogRow) (old new : List Listed) → AreListed first rows old → row.place ≡ first + length rows → log ≡ rows ++ row ∷ []
    → ((session : ℕ) → (listed_at new session).places ≡ cond (row.session == session) ((listed_at old session).places ++ row.place ∷ []) (listed_at old session).places) → AreListed first log new
listed-push first rows log row old new are place is now = record {
  placed = subst (Counts first) (sym (ap places_of is ∙ map-append (λ (r : LogRow). r.place) rows (row ∷ [])))
      (Counts-push first row.place (places_of rows) are.placed (place ∙ ap (λ n. first + n) (sym (length-map rows (λ (r : LogRow). r.place)))));
  listed = λ session.
      let old_places = places_of (rows_of session rows) in
      now session ∙ ap (λ l. cond (row.session == session) (l ++ row.place ∷ []) l) (are.listed session)
      ∙ ap (cond (row.session == session) (old_places ++ row.place ∷ [])) (sym (append-nil old_places))
      ∙ sym (of_cond (λ l. old_places ++ places_of l) (row.session == session) (row ∷ []) [])
      ∙ sym (map-append (λ (r : LogRow). r.place) (rows_of session rows) (cond (row.session == session) (row ∷ []) []))
      ∙ ap places_of (sym (filter-append (λ (r : LogRow). r.session == session) rows (row ∷ [])) ∙ ap (rows_of session) (sym is));
}

-- a row is replaced by one of its session and place
pub listed-set : (first : ℕ) (rows log : List LogRow) (k : ℕ) (row next : LogRow) (lists : List Listed) → AreListed first rows lists → slice_get rows k ≡ Some row → next.session ≡ row.session → next.place ≡ row.place
    → log ≡ slice_set rows k next → AreListed first log lists
listed-set first rows log k row next lists are there own place is = record {
  placed = subst (Counts first) (sym (ap places_of is ∙ set-unseen places_of (λ (r : LogRow). r.place) (λ p ps. p ∷ ps) (λ r rs. refl) rows k row next there place)) are.placed;
  listed = λ session. are.listed session ∙ sym (ap (λ l. places_of (rows_of session l)) is
      ∙ set-unseen {Y = ℕ × ℕ} (λ l. places_of (rows_of session l)) (λ r. (r.session, r.place)) (λ seen ps. cond (seen.0 == session) (seen.1 ∷ ps) ps) (places-cons session) rows k row next there (λ i. (own i, place i)));
}

-- the rows stay, and what is listed of each session
pub listed-same : (first : ℕ) (rows log : List LogRow) (old new : List Listed) → AreListed first rows old → log ≡ rows → ((session : ℕ) → (listed_at new session).places ≡ (listed_at old session).places) → AreListed first log new
listed-same first rows log old new are is now = record {
  placed = subst (λ l. Counts first (places_of l)) (sym is) are.placed;
  listed = λ session. now session ∙ are.listed session ∙ ap (λ l. places_of (rows_of session l)) (sym is);
}

counts-drop : (n count : ℕ) (rows : List LogRow) → Counts n (places_of rows) → Counts (n + count) (places_of (drop count rows))
counts-drop n zero rows counts = let same : n ≡ n + 0 = omega arith in subst (λ m. Counts m (places_of rows)) same counts
counts-drop n (suc count) [] counts = tt
counts-drop n (suc count) (row ∷ rows) counts =
    let same : suc n + count ≡ n + suc count = omega arith in
    subst (λ m. Counts m (places_of (drop count rows))) same (counts-drop (suc n) count rows counts.1)

-- of a session's places, those from one on are the places of its rows from there on
places-from : (session n first : ℕ) (rows : List LogRow) → Counts first (places_of rows)
    → filter (λ place. nat_le n place) (places_of (rows_of session rows)) ≡ places_of (rows_of session (drop (n - first) rows))
places-from session n first [] counts = ap (λ (l : List LogRow). places_of (rows_of session l)) (sym (drop-nil (n - first)))
places-from session n first (row ∷ rows) counts =
    let later = places-from session n (suc first) rows counts.1 in
    let is = counts.0 in
    ap from (places-cons session row rows) ∙ of_cond from (row.session == session) (row.place ∷ own) own
    ∙ decided (nat_le n row.place)
    (λ yes. let up = leb-true n row.place yes in
    let none : n - first ≡ 0 = omega arith in
    let none_later : n - suc first ≡ 0 = omega arith in
    let all : from own ≡ own = later ∙ ap (λ m. places_of (rows_of session (drop m rows))) none_later in
    (λ i. cond (row.session == session) (cond (yes i) (row.place ∷ all i) (all i)) (all i))
    ∙ sym (places-cons session row rows) ∙ ap (λ m. places_of (rows_of session (drop m (row ∷ rows)))) (sym none))
    (λ no. let below = leb-false n row.place no in
    let one : n - first ≡ suc (n - suc first) = omega arith in
    (λ i. cond (row.session == session) (cond (no i) (row.place ∷ from own) (from own)) (from own))
    ∙ either (row.session == session) (from own) ∙ later ∙ ap (λ m. places_of (rows_of session (drop m (row ∷ rows)))) (sym one))
  where
    own : List ℕ
    own = places_of (rows_of session rows)

    from : List ℕ → List ℕ
    from places = filter (λ place. nat_le n place) places

-- the first rows go
pub listed-drop : (first count : ℕ) (rows log : List LogRow) (old new : List Listed) → AreListed first rows old → log ≡ drop count rows
    → ((session : ℕ) → (listed_at new session).places ≡ filter (λ place. nat_le (first + count) place) (listed_at old session).places) → AreListed (first + count) log new
listed-drop first count rows log old new are is now =
    let far : first + count - first ≡ count = omega arith in
    record {
      placed = subst (λ l. Counts (first + count) (places_of l)) (sym is) (counts-drop first count rows are.placed);
      listed = λ session. now session ∙ ap (filter (λ place. nat_le (first + count) place)) (are.listed session) ∙ places-from session (first + count) first rows are.placed
          ∙ ap (λ n. places_of (rows_of session (drop n rows))) far ∙ ap (λ l. places_of (rows_of session l)) (sym is);
    }

-- one more row of a session takes no memory where its list and the rows have room
pub room-at : (b : Bool) (lists : List Listed) (k : ℕ) → get_or (map (λ list. list.free && b) lists) k false ≡ ((get_or lists k unlisted).free && b)
room-at b [] k = refl
room-at b (list ∷ lists) zero = refl
room-at b (list ∷ lists) (suc k) = room-at b lists k

pub room-of : (b : Bool) (lists : List Listed) (session : ℕ) → 1 ≤ session → get_or (map (λ list. list.free && b) lists) (session - 1) false ≡ ((listed_at lists session).free && b)
room-of b lists session from =
    let index : suc (session - 1) ≡ session = omega arith in
    room-at b lists (session - 1) ∙ ap (λ n. (listed_at lists n).free && b) index

-- What can be folded.

no_gap-later : (row : LogRow) (rows : List LogRow) → HaveNoGap (row ∷ rows) → HaveNoGap rows
no_gap-later row rows counts session = go (row.session == session) (counts session)
  where
    go : (b : Bool) → (first : ℕ) × Counts first (map (λ r. r.number) (cond b (row ∷ rows_of session rows) (rows_of session rows))) → (first : ℕ) × Counts first (map (λ r. r.number) (rows_of session rows))
    go true f = (suc f.0, f.1.1)
    go false f = f

-- the rows that stay have no gap where all had none
pub no_gap-drop : (count : ℕ) (rows : List LogRow) → HaveNoGap rows → HaveNoGap (drop count rows)
no_gap-drop zero rows counts = counts
no_gap-drop (suc count) [] counts = counts
no_gap-drop (suc count) (row ∷ rows) counts = no_gap-drop count rows (no_gap-later row rows counts)

module _ {Z : Type 0} where
  pub foldable_rows : (low : ℕ) (rows : List (code_row.LogRow Z (ℕ × Case))) → prefix_len (λ row. foldable low (standing_of row.standing)) rows ≡ length (foldable_part low (log_of rows))
  foldable_rows low [] = refl
  foldable_rows low (row ∷ rows) = go (foldable low (standing_of row.standing)) (foldable_rows low rows)
    where
      go : (b : Bool) → prefix_len (λ row. foldable low (standing_of row.standing)) rows ≡ length (foldable_part low (log_of rows))
          → cond b (1 + prefix_len (λ row. foldable low (standing_of row.standing)) rows) 0 ≡ length (elim b as (λ _. List LogRow) [ true ↦ log_row_of row ∷ foldable_part low (log_of rows) | false ↦ [] ])
      go true again = let e : 1 + prefix_len (λ row. foldable low (standing_of row.standing)) rows ≡ suc (length (foldable_part low (log_of rows))) = omega arith in e
      go false again = refl
