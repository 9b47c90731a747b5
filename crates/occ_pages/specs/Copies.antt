-- Copies of entries: the same keys, and a copy of each row.
use Rattle.std.specs.Prelude.{◌≡◌, ℕ, List}
use Rattle.std.specs.List.{AllZip}

module _ {T : Type 0} where
  -- each entry has the key of the other, and a copy of its row
  abbrev pub AreCopies : (T → T → Type 0) → List (ℕ × T) → List (ℕ × T) → Type 0
  AreCopies IsCopy = AllZip (λ e f. (f.0 ≡ e.0) × IsCopy e.1 f.1)
