-- A search by halves among keys that ascend.
use Rattle.std.proofs.Common.{◌≡◌, ◌<◌, ◌≤◌, ◌+◌, ℕ, List, length, get_or, ap, arith}
use Rattle.occ_pages.specs.Pages.{Rises}

-- a key that is below gives all before it
pub all-below : (keys : List ℕ) (key place : ℕ) → Rises keys → place < length keys → get_or keys place 0 < key → (i : ℕ) → i < place + 1 → get_or keys i 0 < key
all-below keys key place rises there h i less =
    grind (arith, rises i place, λ (e : i ≡ place). ap (λ n. get_or keys n 0) e)

-- and one that isn't below gives all behind it
pub none-below : (keys : List ℕ) (key place : ℕ) → Rises keys → key ≤ get_or keys place 0 → (i : ℕ) → place ≤ i → i < length keys → key ≤ get_or keys i 0
none-below keys key place rises h i less there =
    grind (arith, rises place i, λ (e : i ≡ place). ap (λ n. get_or keys n 0) e)
