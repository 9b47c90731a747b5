-- What holds of the definitions of the store (our own choice). Each law is the contract of a function of this crate.
use Rattle.std.specs.Prelude.{◌≡◌, ℕ}
use Rattle.occ_model.specs.World.{World}
use Rattle.occ_model.specs.Event.{BackUp, BackedUp}
use Rattle.occ_model.specs.Step.{Step}
use Rattle.occ_model.specs.Invariant.{Invariant}
use Rattle.occ_model.specs.EndLaws.{IsToBackUp}
use Rattle.occ_model.specs.declared.verdict.Verdict.TheVariants as verdicts
use Rattle.occ_model.specs.declared.verdict.Cause.{Cause}
use Rattle.occ_board.specs.declared.words.Words.{Words}
use Rattle.occ_board.specs.Words.{settled}
use Rattle.occ_store.specs.Locked.{told}

-- Where a transaction waits for its back-up for the cause that was kept, the back-up tells that cause, whether its row was folded or not.
abbrev pub KeptCausesAreTold : Type 0
KeptCausesAreTold = (old new : World) (words : Words) (session number : ℕ) (kept : Cause) → Invariant old → Step old (BackUp session) (BackedUp number) new → IsToBackUp session kept old
    → told words session kept new (BackedUp number) ≡ settled words session number (verdicts.BackUp kept)
