-- What an output sends of what was pushed.
use Rattle.std.specs.Prelude.{◌≡◌, ◌<◌, ℕ, Bool, List, [], ◌++◌, Option, Result, Ok, Err, length}
use Rattle.std.specs.Io.KnownBytes.{Appends, Keeps}
use Rattle.occ_text.specs.declared.faults.WriteFailed.{WriteFailed}
use Rattle.occ_text.specs.declared.faults.WriteFault.{WriteFault}
use Rattle.occ_text.specs.declared.faults.WriteFault.TheVariants.{Write, Memory}

-- an output without where it lies in memory: what it holds back, and whether the writer failed
pub record Outgoing : Type 0 where
  pub held : List ℕ
  pub failed : Bool

-- the writer took a front of the bytes, and the rest is held back
pub record Sends (before after : Option (List ℕ)) (bytes held : List ℕ) : Type 0 where
  pub sent : List ℕ
  pub written : Appends before after sent
  pub whole : bytes ≡ sent ++ held

-- what a push leaves, by its outcome: nothing is lost, doubled or out of order, and less than a full block is held back
abbrev pub PushGives : {T : Type 0} → Result T WriteFault → Option (List ℕ) → Option (List ℕ) → List ℕ → List ℕ → List ℕ → Type 0
PushGives (Ok done) before after old new bytes = Sends before after (old ++ bytes) new × (length new < 8192)
PushGives (Err Write) before after old new bytes = Sends before after (old ++ bytes) new
PushGives (Err Memory) before after old new bytes = Keeps before after × (new ≡ old)

-- what sending all leaves, by its outcome: all was written, or a front of it and the rest is held back
abbrev pub FlushGives : {T : Type 0} → Result T WriteFailed → Option (List ℕ) → Option (List ℕ) → List ℕ → List ℕ → Type 0
FlushGives (Ok done) before after old new = Appends before after old × (new ≡ [])
FlushGives (Err failed) before after old new = Sends before after old new
