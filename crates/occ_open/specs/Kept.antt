-- A transaction that comes back when what it was handed in as is refused (our own choice).
use Rattle.std.specs.Prelude.{◌≡◌, Bool, true, false, Option, Some}
use Rattle.occ_sets.specs.Sets.{Copied}
use Rattle.occ_open.specs.declared.kept_transactions.Content as code
use Rattle.occ_open.specs.declared.kept_transactions.Content.TheVariants.{Open, Returned}

pub record Kept : Type 0 where
  -- the transaction that is open, if one is
  pub current : Option Copied
  -- it came back as a request, and others may share its writes
  pub returned : Bool

-- a call that needs the writes may want memory for a copy of them
abbrev pub IsShared : Kept → Type 0
IsShared kept = kept.returned ≡ true

module _ {Z : Type 0} where
  abbrev pub kept_of : code.Content Z → Kept
  kept_of (Open transaction) = record { current = transaction; returned = false }
  kept_of (Returned number start writes) = record { current = Some (record { number = number; start = start; writes = writes }); returned = true }
