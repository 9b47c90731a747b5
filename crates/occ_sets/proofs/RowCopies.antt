-- Copies of the rows of a range.
use Rattle.std.proofs.Common.{◌≡◌, ◌⊎◌, inl, inr, Vec, vec_len, ap}
use Rattle.std.proofs.lemmas.Map.Entries.{entries_from_clone}
use Rattle.std.specs.List.{AllZip}
use Rattle.occ_types.specs.declared.keys.Key as code_key
use Rattle.occ_types.specs.Row.{Row}
use Rattle.occ_sets.specs.PlainSets.{rows_of}

module _ {Z : Type 0} where
  -- what is made of rows for one more owner is what was there, or a copy
  pub rows_alike : (rows own : Vec (code_key.Key Z × Row) Z) → (own ≡ rows) ⊎ (AllZip (λ e copy. (copy.0 ≡ e.0) × (copy.1 ≡ e.1)) rows.items own.items × (vec_len own ≡ vec_len rows)) → rows_of own.items ≡ rows_of rows.items
  rows_alike rows own (inl same) = ap (λ (v : Vec (code_key.Key Z × Row) Z). rows_of v.items) same
  rows_alike rows own (inr copied) = ap rows_of (entries_from_clone (λ a b. b ≡ a) (λ a b. b ≡ a) (λ _ _ is. is) (λ _ _ is. is) rows.items own.items copied.0)
