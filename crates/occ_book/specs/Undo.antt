-- Writes that are done whole or not at all: first the rows that are put, with what they replace kept, then the deletions.
use Rattle.std.specs.Prelude.{◌≡◌, List, [], ◌∷◌, map, Option, None, Some}
use Rattle.std.specs.Borrow.{Bor}
use Rattle.std.specs.FinMap.{get}
use Rattle.occ_types.specs.declared.objects.Object as code_object
use Rattle.occ_types.specs.Object.{Object}
use Rattle.occ_types.specs.Row.{Row}
use Rattle.occ_types.specs.PlainData.{object_of}
use Rattle.occ_model.specs.State.{State, Write, put}

-- a write that puts a row stands before others, and a deletion is left out
abbrev pub if_put : Object → Option Row → List Write → List Write
if_put object None others = others
if_put object (Some row) others = (object, Some row) ∷ others

-- the writes that put a row, in their order
abbrev pub puts : List Write → List Write
puts [] = []
puts (write ∷ writes) = if_put write.0 write.1 (puts writes)

-- a deletion stands before others, and a write that puts a row is left out
abbrev pub if_deletion : Object → Option Row → List Write → List Write
if_deletion object None others = (object, None) ∷ others
if_deletion object (Some row) others = others

-- the deletions, in their order
abbrev pub deletions : List Write → List Write
deletions [] = []
deletions (write ∷ writes) = if_deletion write.0 write.1 (deletions writes)

-- rows were put one after another, and these stood at their objects before; the first one is the oldest
abbrev pub Replaced : State → List Write → State → Type 0
Replaced old [] now = now ≡ old
Replaced old (was ∷ others) now = (was.1 ≡ get old was.0) × (row : Row) × Replaced (put old (was.0, Some row)) others now

-- what was kept of a state before a call is kept of it after the call
abbrev pub KeepsReplaced : List Write → State → List Write → State → Type 0
KeepsReplaced kept old more new = (start : State) → Replaced start kept old → Replaced start more new

module _ {Z : Type 0} where
  -- the row that stood at an object, or none, as the write that brings it back
  abbrev pub kept_write : Bor (code_object.Object Z) × Option Row → Write
  kept_write e = (object_of e.0.now, e.1)

  -- all that was kept, the oldest first
  abbrev pub kept_writes : List (Bor (code_object.Object Z) × Option Row) → List Write
  kept_writes = map kept_write
