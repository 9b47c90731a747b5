-- Rows and writes in the order of their keys, merged: the list is in order, and has what the writes make of the rows.
use Rattle.std.proofs.Common.{◌≡◌, Bool, true, false, nat_eq, cond, List, [], ◌∷◌, ◌++◌, append_assoc, Option, None, Some, refl, sym, ap, ◌∙◌}
use Rattle.std.specs.declared.cmp.Ordering.{Ordering}
use Rattle.std.specs.declared.cmp.Ordering.TheVariants.{Less, Equal, Greater}
use Rattle.std.specs.FinMap.Entries.{by_order}
use Rattle.std.specs.List.{AllByRecursion}
use Rattle.std.specs.List.Sorted.{IsStrictlySortedBy}
use Rattle.std.specs.Map.{keys_of, lookup}
use Rattle.std.specs.Ordering.{is_eq, ordering_index, ordering_reverse}
use Rattle.std.specs.Cmp.{IsTotalOrder, Equal-is, alike_right}
use Rattle.occ_types.specs.Row.{Row}
use Rattle.occ_sets.specs.Merging.{row_put, rows_put, first_to, laid, merged, LaysFirst, LaysRow, row_after}

-- what is neither below nor tied is above
pub is_greater : (r : Ordering) → false ≡ nat_eq (ordering_index r) 0 → (r ≡ Equal → ⊥) → r ≡ Greater
is_greater Less below tied = cc
is_greater Equal below tied = absurd (tied refl)
is_greater Greater below tied = refl

module _ {K : Type 0} (R : K → K → Ordering) where
  -- the row goes first, where the first write is above it
  pub lays_row : (key : K) (row : Row) (own : List (K × Option Row)) (before after : List (K × Row)) → first_to R own key ≡ Greater → after ≡ before ++ (key, row) ∷ [] → LaysRow R key row own own before after
  lays_row key row [] before after above is = λ others. ap (λ es. es ++ others []) is ∙ append_assoc before ((key, row) ∷ []) (others [])
  lays_row key row (w ∷ ws) before after above is = λ others.
      ap (λ es. es ++ others (w ∷ ws)) is
      ∙ append_assoc before ((key, row) ∷ []) (others (w ∷ ws))
      ∙ ap (λ o. before ++ by_order o (row_put w.0 w.1 ++ laid R key row others ws) (row_put w.0 w.1 ++ others ws) ((key, row) ∷ others (w ∷ ws))) (sym above)

  -- and its own write goes first, where it has one
  pub lays_own : (key : K) (row : Row) (old new : List (K × Option Row)) (before after : List (K × Row)) → first_to R old key ≡ Equal → LaysFirst old new before after → LaysRow R key row old new before after
  lays_own key row [] new before after tied lays = absurd_order tied
    where
      absurd_order : Greater ≡ Equal → LaysRow R key row [] new before after
      absurd_order e = cc
  lays_own key row (w ∷ ws) new before after tied lays = λ others.
      ap (λ es. es ++ others new) lays.1
      ∙ ap (λ rest. (before ++ row_put w.0 w.1) ++ others rest) lays.0
      ∙ append_assoc before (row_put w.0 w.1) (others ws)
      ∙ ap (λ o. before ++ by_order o (row_put w.0 w.1 ++ laid R key row others ws) (row_put w.0 w.1 ++ others ws) ((key, row) ∷ others (w ∷ ws))) (sym tied)

module _ {K : Type 0} {R : K → K → Ordering} (o : IsTotalOrder R) where
  -- the value at a key
  abbrev at : {X : Type 0} → K → List (K × X) → Option X
  at t es = lookup (λ x. is_eq (R t x)) es

  -- all keys are above this one
  abbrev Above : {X : Type 0} → K → List (K × X) → Type 0
  Above p es = AllByRecursion (λ y. R p y ≡ Less) (keys_of es)

  abbrev Sorted : {X : Type 0} → List (K × X) → Type 0
  Sorted es = IsStrictlySortedBy R (keys_of es)

  above_less : {X : Type 0} (p q : K) (es : List (K × X)) → R p q ≡ Less → Above q es → Above p es
  above_less p q [] less h = tt
  above_less p q (e ∷ es) less h = (o.trans p q e.0 less h.0, above_less p q es less h.1)

  above_tied : {X : Type 0} (p q : K) (es : List (K × X)) → R p q ≡ Equal → Above q es → Above p es
  above_tied p q [] tied h = tt
  above_tied p q (e ∷ es) tied h = (o.congr p q e.0 tied ∙ h.0, above_tied p q es tied h.1)

  -- what is above a key hasn't the key
  absent : {X : Type 0} (t : K) (es : List (K × X)) → Above t es → at t es ≡ None
  absent t [] h = refl
  absent t (e ∷ es) h = ap (λ r. cond (is_eq r) (Some e.1) (at t es)) h.0 ∙ absent t es h.1

  tie : (a b : K) → is_eq (R a b) ≡ true → R a b ≡ Equal
  tie a b e = (Equal-is (R a b)).0 e

  -- a row that is put at another key, or at this one
  put_elsewhere : (t k : K) (w : Option Row) (es : List (K × Row)) → is_eq (R t k) ≡ false → at t (row_put k w ++ es) ≡ at t es
  put_elsewhere t k None es e = refl
  put_elsewhere t k (Some row) es e = ap (λ b. cond b (Some row) (at t es)) e

  put_here : (t k : K) (w : Option Row) (es : List (K × Row)) → is_eq (R t k) ≡ true → at t es ≡ None → at t (row_put k w ++ es) ≡ w
  put_here t k None es e none = none
  put_here t k (Some row) es e none = ap (λ b. cond b (Some row) (at t es)) e

  above_put : (p k : K) (w : Option Row) (es : List (K × Row)) → R p k ≡ Less → Above p es → Above p (row_put k w ++ es)
  above_put p k None es less h = h
  above_put p k (Some row) es less h = (less, h)

  sorted_put : (k : K) (w : Option Row) (es : List (K × Row)) → Above k es → Sorted es → Sorted (row_put k w ++ es)
  unfolding IsStrictlySortedBy
  sorted_put k None es above h = h
  sorted_put k (Some row) es above h = (above, h)

  -- one more write, whose row goes before the others
  found_put : (t : K) (w : K × Option Row) (ws : List (K × Option Row)) (es : List (K × Row)) (given : Option Row) → Above w.0 ws → (R t w.0 ≡ Equal → given ≡ None) → at t es ≡ row_after (at t ws) given → at t (row_put w.0 w.1 ++ es) ≡ row_after (at t (w ∷ ws)) given
  found_put t w ws es given above none h = by (is_eq (R t w.0)) refl
    where
      by : (b : Bool) → is_eq (R t w.0) ≡ b → at t (row_put w.0 w.1 ++ es) ≡ row_after (at t (w ∷ ws)) given
      by true e =
          let tied = tie t w.0 e in
          put_here t w.0 w.1 es e (h ∙ ap (λ l. row_after l given) (absent t ws (above_tied t w.0 ws tied above)) ∙ none tied)
          ∙ sym (ap (λ b. row_after (cond b (Some w.1) (at t ws)) given) e)
      by false e = put_elsewhere t w.0 w.1 es e ∙ h ∙ sym (ap (λ b. row_after (cond b (Some w.1) (at t ws)) given) e)

  found_rows_put : (t : K) (ws : List (K × Option Row)) → Sorted ws → at t (rows_put ws) ≡ row_after (at t ws) None
  unfolding IsStrictlySortedBy
  found_rows_put t [] h = refl
  found_rows_put t (w ∷ ws) h = found_put t w ws (rows_put ws) None h.0 (λ _. refl) (found_rows_put t ws h.1)

  above_rows_put : (p : K) (ws : List (K × Option Row)) → Above p ws → Above p (rows_put ws)
  above_rows_put p [] h = tt
  above_rows_put p (w ∷ ws) h = above_put p w.0 w.1 (rows_put ws) h.0 (above_rows_put p ws h.1)

  sorted_rows_put : (ws : List (K × Option Row)) → Sorted ws → Sorted (rows_put ws)
  unfolding IsStrictlySortedBy
  sorted_rows_put [] h = tt
  sorted_rows_put (w ∷ ws) h = sorted_put w.0 w.1 (rows_put ws) (above_rows_put w.0 ws h.0) (sorted_rows_put ws h.1)

  above_laid : (key : K) (row : Row) (others : List (K × Option Row) → List (K × Row)) (p : K) → R p key ≡ Less → ((ws : List (K × Option Row)) → Above p ws → Above p (others ws)) → (ws : List (K × Option Row)) → Above p ws → Above p (laid R key row others ws)
  above_laid key row others p less others_are [] h = (less, others_are [] h)
  above_laid key row others p less others_are (w ∷ ws) h = elim (R w.0 key) as (λ r. Above p (by_order r (row_put w.0 w.1 ++ laid R key row others ws) (row_put w.0 w.1 ++ others ws) ((key, row) ∷ others (w ∷ ws)))) [
    | Less ↦ above_put p w.0 w.1 (laid R key row others ws) h.0 (above_laid key row others p less others_are ws h.1)
    | Equal ↦ above_put p w.0 w.1 (others ws) h.0 (others_are ws h.1)
    | Greater ↦ (less, others_are (w ∷ ws) h)
  ]

  -- what stands behind the row, where the other rows are above it
  module _ (key : K) (row : Row) (rows : List (K × Row)) (behind : Above key rows) (others : List (K × Option Row) → List (K × Row)) where
    abbrev three : K × Option Row → List (K × Option Row) → Ordering → List (K × Row)
    three w ws r = by_order r (row_put w.0 w.1 ++ laid R key row others ws) (row_put w.0 w.1 ++ others ws) ((key, row) ∷ others (w ∷ ws))

    reversed : (w : K) → R w key ≡ Greater → R key w ≡ Less
    reversed w e = o.antisymm key w ∙ ap ordering_reverse e

    found_laid : (t : K) → ((ws : List (K × Option Row)) → Sorted ws → at t (others ws) ≡ row_after (at t ws) (at t rows))
        → (ws : List (K × Option Row)) → Sorted ws → at t (laid R key row others ws) ≡ row_after (at t ws) (at t ((key, row) ∷ rows))
    unfolding IsStrictlySortedBy
    found_laid t others_are [] h = ap (cond (is_eq (R t key)) (Some row)) (others_are [] h)
    found_laid t others_are (w ∷ ws) h = by (R w.0 key) refl (found_laid t others_are ws h.1)
      where
        at_row : R t key ≡ Equal → Above key (w ∷ ws) → at t (w ∷ ws) ≡ None
        at_row tied above = absent t (w ∷ ws) (above_tied t key (w ∷ ws) tied above)

        first : (b : Bool) → is_eq (R t key) ≡ b → Above key (w ∷ ws) → at t ((key, row) ∷ others (w ∷ ws)) ≡ row_after (at t (w ∷ ws)) (at t ((key, row) ∷ rows))
        first true e above =
            ap (λ b. cond b (Some row) (at t (others (w ∷ ws)))) e
            ∙ sym (ap (λ l. row_after l (at t ((key, row) ∷ rows))) (at_row (tie t key e) above) ∙ ap (λ b. cond b (Some row) (at t rows)) e)
        first false e above =
            ap (λ b. cond b (Some row) (at t (others (w ∷ ws)))) e
            ∙ others_are (w ∷ ws) h
            ∙ sym (ap (λ b. row_after (at t (w ∷ ws)) (cond b (Some row) (at t rows))) e)

        by : (r : Ordering) → R w.0 key ≡ r → at t (laid R key row others ws) ≡ row_after (at t ws) (at t ((key, row) ∷ rows)) → at t (three w ws (R w.0 key)) ≡ row_after (at t (w ∷ ws)) (at t ((key, row) ∷ rows))
        by Less e rest = ap (λ r. at t (three w ws r)) e
            ∙ found_put t w ws (laid R key row others ws) (at t ((key, row) ∷ rows)) h.0 (λ tied. absent t ((key, row) ∷ rows) (above_tied t w.0 ((key, row) ∷ rows) tied (e, above_less w.0 key rows e behind))) rest
        by Equal e rest =
            let same : is_eq (R t w.0) ≡ is_eq (R t key) = ap is_eq (alike_right o w.0 key t e) in
            ap (λ r. at t (three w ws r)) e ∙ replaced (is_eq (R t w.0)) refl same
          where
            replaced : (b : Bool) → is_eq (R t w.0) ≡ b → is_eq (R t w.0) ≡ is_eq (R t key) → at t (row_put w.0 w.1 ++ others ws) ≡ row_after (at t (w ∷ ws)) (at t ((key, row) ∷ rows))
            replaced true here same =
                let tied = tie t w.0 here in
                put_here t w.0 w.1 (others ws) here (others_are ws h.1
                ∙ ap (λ l. row_after l (at t rows)) (absent t ws (above_tied t w.0 ws tied h.0))
                ∙ absent t rows (above_tied t key rows (tie t key (sym same ∙ here)) behind))
                ∙ sym (ap (λ b. row_after (cond b (Some w.1) (at t ws)) (at t ((key, row) ∷ rows))) here)
            replaced false here same =
                put_elsewhere t w.0 w.1 (others ws) here
                ∙ others_are ws h.1
                ∙ sym (ap (λ b. row_after (cond b (Some w.1) (at t ws)) (at t ((key, row) ∷ rows))) here ∙ ap (λ b. row_after (at t ws) (cond b (Some row) (at t rows))) (sym same ∙ here))
        by Greater e rest = ap (λ r. at t (three w ws r)) e ∙ first (is_eq (R t key)) refl (reversed w.0 e, above_less key w.0 ws (reversed w.0 e) h.0)

    sorted_laid : ((p : K) (ws : List (K × Option Row)) → Above p rows → Above p ws → Above p (others ws)) → ((ws : List (K × Option Row)) → Sorted ws → Sorted (others ws))
        → (ws : List (K × Option Row)) → Sorted ws → Sorted (laid R key row others ws)
    unfolding IsStrictlySortedBy
    sorted_laid above_others others_are [] h = (above_others key [] behind h, others_are [] h)
    sorted_laid above_others others_are (w ∷ ws) h = elim (R w.0 key) as (λ r. R w.0 key ≡ r → Sorted (three w ws r)) [
      | Less ↦ λ e. sorted_put w.0 w.1 (laid R key row others ws) (above_laid key row others w.0 e (λ us. above_others w.0 us (above_less w.0 key rows e behind)) ws h.0) (sorted_laid above_others others_are ws h.1)
      | Equal ↦ λ e. sorted_put w.0 w.1 (others ws) (above_others w.0 ws (above_tied w.0 key rows e behind) h.0) (others_are ws h.1)
      | Greater ↦ λ e. (above_others key (w ∷ ws) behind (reversed w.0 e, above_less key w.0 ws (reversed w.0 e) h.0), others_are (w ∷ ws) h)
    ] refl

  -- at each key the merged list has the row after its write
  pub found_merged : (t : K) (rows : List (K × Row)) → Sorted rows → (ws : List (K × Option Row)) → Sorted ws → at t (merged R rows ws) ≡ row_after (at t ws) (at t rows)
  unfolding IsStrictlySortedBy
  found_merged t [] h ws sorted = found_rows_put t ws sorted
  found_merged t (row ∷ rows) h ws sorted = found_laid row.0 row.1 rows h.0 (merged R rows) t (found_merged t rows h.1) ws sorted

  above_merged : (p : K) (rows : List (K × Row)) (ws : List (K × Option Row)) → Above p rows → Above p ws → Above p (merged R rows ws)
  above_merged p [] ws h above = above_rows_put p ws above
  above_merged p (row ∷ rows) ws h above = above_laid row.0 row.1 (merged R rows) p h.0 (λ us. above_merged p rows us h.1) ws above

  -- and its keys are in order
  pub sorted_merged : (rows : List (K × Row)) → Sorted rows → (ws : List (K × Option Row)) → Sorted ws → Sorted (merged R rows ws)
  unfolding IsStrictlySortedBy
  sorted_merged [] h ws sorted = sorted_rows_put ws sorted
  sorted_merged (row ∷ rows) h ws sorted = sorted_laid row.0 row.1 rows h.0 (merged R rows) (λ p us. above_merged p rows us) (sorted_merged rows h.1) ws sorted
