-- The order of a log from its base on, in parts, and what its audit keeps of the sessions.
use Rattle.std.specs.Prelude.{◌≡◌, ℕ, suc, ◌+◌, length, List, map, Some, unwrap_or}
use Rattle.std.specs.Ordering.{nat_cmp}
use Rattle.std.specs.BTreeMap.{BTreeMap, get}
use Rattle.std.specs.FinMap as finite
use Rattle.std.specs.FinMap.{FinMap}
use Rattle.occ_model.specs.Log.{LogRow, Base, Counts, numbers, last_folded}

-- the places of the rows count on from a first one
abbrev pub ArePlaced : ℕ → List LogRow → Type 0
ArePlaced first log = Counts first (map (λ row. row.place) log)

-- the numbers of each session count on from the one after its last in the base
abbrev pub AreNumbered : Base → List LogRow → Type 0
AreNumbered base log = (session : ℕ) → Counts (suc (last_folded base session)) (numbers session log)

-- the last number that is kept of a session, or else that of the base
abbrev pub last_of : Base → BTreeMap ℕ ℕ → ℕ → ℕ
last_of base last session = unwrap_or (get nat_cmp last session) (last_folded base session)

-- what is kept of each session is its last number in a log
abbrev pub AreLast : Base → BTreeMap ℕ ℕ → List LogRow → Type 0
AreLast base last log = (session : ℕ) → last_of base last session ≡ last_folded base session + length (numbers session log)

-- each closing mark is the number after the session's last
abbrev pub AreClosed : Base → FinMap nat_cmp ℕ → BTreeMap ℕ ℕ → Type 0
AreClosed base marks last = (session mark : ℕ) → finite.get marks session ≡ Some mark → mark ≡ suc (last_of base last session)
