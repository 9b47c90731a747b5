-- Which requests for memory a plan refuses.
use Rattle.std.specs.Prelude.{◌≡◌, ◌≤◌, ◌<◌, ◌↔◌, ◌^◌, ℕ}
use Rattle.test_tools.specs.declared.plan.Plan.{Plan}
use Rattle.test_tools.specs.declared.plan.Plan.TheVariants.{Nothing, Once, From}

-- The request at this place is refused.
abbrev pub IsRefused : Plan → ℕ → Type 0
IsRefused Nothing place = ⊥
IsRefused (Once only) place = place ≡ only
IsRefused (From first) place = first ≤ place

-- From the first of these places to the last, each is refused, and no other is.
abbrev pub AreBounds : Plan → ℕ × ℕ → Type 0
AreBounds plan ends = (place : ℕ) → place < 2 ^ 64 → ((ends.0 ≤ place) × (place ≤ ends.1)) ↔ IsRefused plan place
