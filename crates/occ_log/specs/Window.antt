-- What clauses see of the window: the write sets that are kept, oldest first, and how many are kept at most.
use Rattle.std.specs.Prelude.{ℕ, ◌+◌, ◌-◌, List, [], ◌∷◌, ◌++◌, length, drop}
use Rattle.occ_model.specs.State.{Write}

pub record Window : Type 0 where
  pub keep : ℕ
  pub sets : List (List Write)

-- the window with one more write set, without the oldest where there would be too many
abbrev pub advanced : Window → List Write → Window
advanced window writes = record {
  keep = window.keep;
  sets = drop (length window.sets + 1 - window.keep) (window.sets ++ writes ∷ []);
}
