-- What printing leaves: all of a text was pushed, or a beginning of it.
use Rattle.std.specs.Prelude.{◌≡◌, ◌<◌, ℕ, List, ◌++◌, Option, Result, Ok, Err, length}
use Rattle.occ_text.specs.declared.faults.WriteFault.{WriteFault}
use Rattle.occ_text.specs.Sending.{Sends}

-- the bytes were pushed behind those that were held, and what was less than a full block is less than one still
pub record Pushed (before after : Option (List ℕ)) (old new bytes : List ℕ) : Type 0 where
  pub sends : Sends before after (old ++ bytes) new
  pub few : length old < 8192 → length new < 8192

-- a beginning of a text was pushed, and it may be that the writer took a part of that alone
pub record PushedFront (before after : Option (List ℕ)) (old new text : List ℕ) : Type 0 where
  pub front : List ℕ
  pub rest : List ℕ
  pub whole : text ≡ front ++ rest
  pub sends : Sends before after (old ++ front) new

-- what printing a text leaves, by its outcome
abbrev pub PrintGives : {T : Type 0} → Result T WriteFault → Option (List ℕ) → Option (List ℕ) → List ℕ → List ℕ → List ℕ → Type 0
PrintGives (Ok done) before after old new text = Pushed before after old new text
PrintGives (Err fault) before after old new text = PushedFront before after old new text
