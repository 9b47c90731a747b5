-- What each kind of step of a story does (our own choice).
use Rattle.std.specs.Prelude.{◌≡◌, ℕ, ◌⊎◌, ◌∷◌, [], ◌++◌}
use mathlib.Core.List.{IsPrefix}
use Rattle.atomic_table.specs.Table.{Me, Step}
use Rattle.occ_history.specs.History.{Happened, FrontView, StoryView, IsWhole, Begins, adding}
use Rattle.occ_history.specs.Rule.{Known, Shows, Compares}

abbrev Mine : Type 0
Mine = Me (Unit {0}) Known

-- an event is added to the history, and the front that is shown has seen it with all before it
abbrev pub adds : Happened → Step (Unit {0}) → Mine → ℕ → Mine → Type 0
adds happened step before found after = (story : StoryView) (front : FrontView) → before.0 ≡ Shows story front
    → IsPrefix front.seen story.log × IsWhole front story.log
    × (after ≡ (Shows (record story { log = story.log ++ happened ∷ [] }) (adding front story.log happened), before.1))

-- the front that is shown sees the whole history
abbrev pub catches_up : Step (Unit {0}) → Mine → ℕ → Mine → Type 0
catches_up step before found after = (story : StoryView) (front : FrontView) → before.0 ≡ Shows story front
    → IsPrefix front.seen story.log × IsWhole front story.log
    × (after ≡ (Shows story (record front { seen = story.log }), before.1))

-- of two fronts one is found to begin the other
abbrev pub compared : Step (Unit {0}) → Mine → ℕ → Mine → Type 0
compared step before found after = (one two : FrontView) → before.0 ≡ Compares one two
    → (Begins one two ⊎ Begins two one) × (after ≡ before)
