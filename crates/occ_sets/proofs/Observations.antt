-- Copies of the entries of a read set, and one more of them.
use Rattle.std.proofs.Common.{◌≡◌, ◌⊎◌, inl, inr, ℕ, ◌<◌, false, nat_le, List, [], ◌∷◌, ◌++◌, refl, ap, ◌∙◌, arith}
use Rattle.std.proofs.lemmas.Bool.Decides.{nat_tests}
use Rattle.occ_types.specs.declared.limits.TheConstants.{MAX_QUESTIONS}
use Rattle.std.proofs.lemmas.List.{map-append}
use Rattle.std.specs.List.{AllZip}
use Rattle.std.specs.Prelude.{map}
use Rattle.occ_sets.specs.declared.entries.Entry as code
use Rattle.occ_sets.specs.declared.short_list.ShortList as code_list
use Rattle.occ_sets.specs.Entries.{seen}
use Rattle.occ_sets.specs.ShortList.{values}

-- there is room for one more where there are fewer than there may be
pub room_for : (n : ℕ) → n < 256 → nat_le MAX_QUESTIONS n ≡ false
room_for n few = grind (arith, nat_tests)

module _ {Z : Type 0} where
  -- entries that are copies of others are seen alike
  seen_alike : (es copies : List (code.Entry Z)) → AllZip (λ e copy. seen copy ≡ seen e) es copies → map seen copies ≡ map seen es
  seen_alike [] [] are = refl
  seen_alike [] (c ∷ cs) are = absurd are
  seen_alike (e ∷ es) [] are = absurd are
  seen_alike (e ∷ es) (c ∷ cs) are =
      let first = are.0 in
      let rest = seen_alike es cs are.1 in
      λ i. first i ∷ rest i

  -- what one gets to change is what was there, or a copy
  pub own_alike : (list own : code_list.ShortList (code.Entry Z) Z) → (own ≡ list) ⊎ AllZip (λ e copy. seen copy ≡ seen e) (values list) (values own) → map seen (values own) ≡ map seen (values list)
  own_alike list own (inl same) = ap (λ (l : code_list.ShortList (code.Entry Z) Z). map seen (values l)) same
  own_alike list own (inr copied) = seen_alike (values list) (values own) copied

  -- one more observation
  pub one_more_seen : (es more : List (code.Entry Z)) (entry : code.Entry Z) → more ≡ es ++ entry ∷ [] → map seen more ≡ map seen es ++ seen entry ∷ []
  one_more_seen es more entry e = ap (map seen) e ∙ map-append seen es (entry ∷ [])
