-- What the sets of a transaction keep, and when they are full.
use Rattle.std.specs.Prelude.{ℕ, ◌<◌, ◌≤◌, Bool, ◌&&◌, not, nat_le, List, [], ◌∷◌, Option, map, length, is_some}
use Rattle.std.specs.List.{IsDistinct, position}
use Rattle.std.specs.Ordering.{eq_by_cmp}
use Rattle.occ_types.specs.declared.limits.TheConstants.{MAX_WRITES, MAX_QUESTIONS}
use Rattle.occ_types.specs.Object.{Object, object_cmp}
use Rattle.occ_model.specs.State.{Write, Observation}
use Rattle.occ_model.specs.Overlay.{own}

-- the objects that are written
abbrev pub objects : List Write → List Object
objects = map (λ write. write.0)

-- each write is of one of so many tables
abbrev pub ArePlaced : ℕ → List Write → Type 0
ArePlaced tables [] = Unit {0}
ArePlaced tables (write ∷ writes) = (write.0.0 < tables) × ArePlaced tables writes

-- no object is written twice
abbrev pub WritesOnce : List Write → Type 0
WritesOnce writes = IsDistinct (eq_by_cmp object_cmp) (objects writes)

-- the writes that a transaction may hand in: not too many, and no object twice
pub record IsWriteSet (writes : List Write) : Type 0 where
  pub few : length writes ≤ MAX_WRITES
  pub distinct : WritesOnce writes

-- the place of the write of an object, or none where there is none
abbrev pub place_in : List Write → Object → Option ℕ
place_in writes object = position (λ write. eq_by_cmp object_cmp object write.0) writes

-- whether a write of the object would be one too many: it is new, and there are as many as there may be
abbrev pub is_full_for : List Write → Object → Bool
is_full_for writes object = nat_le MAX_WRITES (length writes) && not (is_some (own writes object))

-- whether one more observation would be one too many
abbrev pub is_full : List Observation → Bool
is_full reads = nat_le MAX_QUESTIONS (length reads)

-- what a transaction keeps to itself in its read phase: its number, the counter as it began, and its writes so far
pub record Copied : Type 0 where
  pub number : ℕ
  pub start : ℕ
  pub writes : List Write
