-- One page: keys and rows of the same number, with room for 64.
use Rattle.std.specs.Prelude.{◌≡◌, ◌≤◌, ℕ, suc, List, ◌∷◌, length, drop, Vec, vec_capacity}

module _ {T Z : Type 0} where
  -- each key has its row, and up to 64 of them take no more memory
  pub record IsPage (keys : Vec ℕ Z) (rows : Vec T Z) : Type 0 where
    pub same : length keys.items ≡ length rows.items
    pub few : length keys.items ≤ 64
    pub keys_room : 64 ≤ vec_capacity keys
    pub rows_room : 64 ≤ vec_capacity rows

module _ {T : Type 0} where
  -- this key and this row stand at a place
  abbrev pub StandsAt : List (ℕ × T) → ℕ → ℕ → T → Type 0
  StandsAt es place key row = drop place es ≡ (key, row) ∷ drop (suc place) es
