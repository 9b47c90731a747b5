-- The beginning of a list that a loop has gone over, seen through a function.
use Rattle.std.proofs.Common.{◌≡◌, ℕ, ◌+◌, ◌<◌, ◌≤◌, List, [], ◌∷◌, ◌++◌, length, get_or, take, map, Some, refl, sym, ap, ◌∙◌, slice_get, option_map}
use Rattle.std.proofs.lemmas.List.{map_more, take_all, take-map}
use Rattle.std.proofs.lemmas.Option.{slice_get-map, slice_get_read}

module _ {X Y : Type 0} (f : X → Y) where
  -- one element more
  pub prefix-more : (xs : List X) (i : ℕ) (x : X) → i < length xs → x ≡ get_or xs i x → map f (take i xs) ++ f x ∷ [] ≡ map f (take (i + 1) xs)
  prefix-more xs i x h at = ap (λ y. map f (take i xs) ++ f y ∷ []) at ∙ sym (map_more f xs i x h)

  -- all of them
  pub prefix-all : (xs : List X) (i : ℕ) → length xs ≤ i → map f (take i xs) ≡ map f xs
  prefix-all xs i h = ap (map f) (take_all i xs h)

  -- the same of what is seen
  pub prefix-seen : (xs : List X) (i : ℕ) → map f (take i xs) ≡ take i (map f xs)
  prefix-seen xs i = sym (take-map f i xs)

  -- the element that comes next
  pub prefix-next : (xs : List X) (i : ℕ) (x : X) → i < length xs → x ≡ get_or xs i x → slice_get (map f xs) i ≡ Some (f x)
  prefix-next xs i x h at = slice_get-map f xs i ∙ ap (option_map f) (slice_get_read xs (length xs) i x refl h at)
