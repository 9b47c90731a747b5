-- The window of kept write sets, as transactions enter, turn and finish.
use Rattle.std.proofs.Common.{◌≡◌, ℕ, ◌+◌, ◌-◌, ◌≤◌, Bool, false, ◌||◌, List, [], ◌∷◌, ◌++◌, drop, length, refl, sym, ap, ◌∙◌, arith, length-append, nat_lt}
use Rattle.occ_log.proofs.Common.{AreSame, Done, LogRow, NumbersAreBelow, Standing, Write, decided, drop-append-le, drop-drop, drop_all, finished_opponents, finished_within, length-drop, list_any, list_any-append, ltb-false, ltb-true, nat_tests, standing_at}
use Rattle.std.proofs.Math.Bool.{or-false}
use Rattle.occ_log.proofs.Opponents.{some_finished, finished-more, finished-low, any-finished}

-- from the counter on nothing has finished
none_after : (test : List Write → Bool) (rows : List LogRow) (finish low start : ℕ) → finish ≤ start → some_finished test rows finish low start ≡ false
none_after test [] finish low start up = refl
none_after test (row ∷ rows) finish low start up = grind (arith, any-finished test row rows finish low start, out row.standing, none_after test rows finish low start up)
  where
    out : (s : Standing) → finished_within start finish s ≡ false
    out (Done number) = grind (arith, nat_tests)
    out standing = refl

-- what the window has become once a row finished: its write set at the end, and the first one gone where there would be more than are kept
abbrev pub moved_window : ℕ → List (List Write) → List Write → List (List Write)
moved_window keep window writes = drop (length window + 1 - keep) (window ++ writes ∷ [])

-- how many of so many the window has then
moved_length : (keep : ℕ) (window : List (List Write)) (writes : List Write) → length (moved_window keep window writes) ≡ length window + 1 - (length window + 1 - keep)
moved_length keep window writes =
    let l = length-append window (writes ∷ []) in length-drop (length window + 1 - keep) (window ++ writes ∷ []) ∙ omega arith

module _ (before later : List LogRow) (row : LogRow) (window : List (List Write)) (counter keep : ℕ)
    (below : NumbersAreBelow counter (before ++ row ∷ later)) (was : (bound : ℕ) → finished_within bound counter row.standing ≡ false)
    (size : length window ≤ counter - (counter - keep))
    (is : (start : ℕ) → counter - keep ≤ start → AreSame (drop (start - (counter - length window)) window) (finished_opponents (before ++ row ∷ later) counter (counter - keep) start)) where
  pub window_moved : (start : ℕ) → (counter + 1) - keep ≤ start
      → AreSame (drop (start - ((counter + 1) - length (moved_window keep window row.writes))) (moved_window keep window row.writes)) (finished_opponents (before ++ standing_at row (Done (counter + 1)) ∷ later) (counter + 1) ((counter + 1) - keep) start)
  window_moved start above test =
      ap (list_any test) (drop-drop (start - ((counter + 1) - length (moved_window keep window row.writes))) (length window + 1 - keep) (window ++ row.writes ∷ []) ∙ ap (λ k. drop k (window ++ row.writes ∷ [])) there)
      ∙ decided (nat_lt counter start)
      (λ e. let past = ltb-true counter start e in
      ap (list_any test) (drop_all (start - (counter - length window)) (window ++ row.writes ∷ []) (let l = length-append window (row.writes ∷ []) in omega arith))
      ∙ sym (none_after test (before ++ standing_at row (Done (counter + 1)) ∷ later) (counter + 1) ((counter + 1) - keep) start (omega arith)))
      (λ e. let begun = ltb-false counter start e in
      ap (list_any test) (drop-append-le (start - (counter - length window)) window (row.writes ∷ []) (omega arith))
      ∙ list_any-append test (drop (start - (counter - length window)) window) (row.writes ∷ [])
      ∙ (λ i. is start (omega arith) test i || or-false (test row.writes) i)
      ∙ sym (finished-more test counter (counter - keep) start before later row below (was (counter - keep)) (omega arith) begun)
      ∙ finished-low test (before ++ standing_at row (Done (counter + 1)) ∷ later) (counter + 1) (counter - keep) ((counter + 1) - keep) start (omega arith) above)
    where
      there : (length window + 1 - keep) + (start - ((counter + 1) - length (moved_window keep window row.writes))) ≡ start - (counter - length window)
      there = let l = moved_length keep window row.writes in omega arith

  pub moved_size : length (moved_window keep window row.writes) ≤ (counter + 1) - ((counter + 1) - keep)
  moved_size = let l = moved_length keep window row.writes in omega arith
