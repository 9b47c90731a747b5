-- What clauses see of a map in pages: its entries, the keys ascending.
use Rattle.std.specs.Prelude.{ℕ, suc, ◌<◌, ◌≤◌, Bool, true, ◌&&◌, nat_eq, nat_lt, nat_le, List, [], ◌∷◌, Option, None, Some}
use Rattle.std.specs.List.{filter}
use Rattle.std.specs.Map.{lookup, remove_entry}
use Rattle.std.specs.BTreeMap.{insert_entry}
use Rattle.std.specs.Ordering.{nat_cmp}

-- whether a key lies from a lower end on; the end may be missing
abbrev pub is_from : Option ℕ → ℕ → Bool
is_from None key = true
is_from (Some end) key = nat_le end key

-- whether a key lies below an upper end; the end may be missing
abbrev pub is_below : Option ℕ → ℕ → Bool
is_below None key = true
is_below (Some end) key = nat_lt key end

-- whether a key lies from a lower end on and below an upper one
abbrev pub is_within : Option ℕ → Option ℕ → ℕ → Bool
is_within lower upper key = is_from lower key && is_below upper key

module _ {T : Type 0} where
  -- each key is below this one
  abbrev pub AllBelow : ℕ → List (ℕ × T) → Type 0
  AllBelow key [] = Unit {0}
  AllBelow key (e ∷ es) = (e.0 < key) × AllBelow key es

  -- no key is below this one
  abbrev pub AllFrom : ℕ → List (ℕ × T) → Type 0
  AllFrom key [] = Unit {0}
  AllFrom key (e ∷ es) = (key ≤ e.0) × AllFrom key es

  -- the keys ascend
  abbrev pub Ascends : List (ℕ × T) → Type 0
  Ascends [] = Unit {0}
  Ascends (e ∷ es) = AllFrom (suc e.0) es × Ascends es

  -- the row under a key
  abbrev pub get : List (ℕ × T) → ℕ → Option T
  get es key = lookup (nat_eq key) es

  -- with a row under a key
  abbrev pub put : List (ℕ × T) → ℕ → T → List (ℕ × T)
  put = insert_entry nat_cmp

  -- without the row under a key
  abbrev pub without : List (ℕ × T) → ℕ → List (ℕ × T)
  without es key = remove_entry (nat_eq key) es

  -- the entries from a lower end on and below an upper one
  abbrev pub within : Option ℕ → Option ℕ → List (ℕ × T) → List (ℕ × T)
  within lower upper = filter (λ e. is_within lower upper e.0)
