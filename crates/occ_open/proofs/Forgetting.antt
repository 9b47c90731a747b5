-- What the store is told to forget of an open transaction.
use Rattle.std.proofs.Common.{◌≡◌, ℕ, Option, Some, sym, subst}
use Rattle.occ_model.specs.Event.{Event, Forget, Reply}
use Rattle.occ_sets.specs.Sets.{Copied}
use Rattle.occ_open.specs.Transactions.{AbandonsBy}

-- the store was told to forget what the open transaction read
pub told_to_forget : (Stays : Type 0) (Moves : Event → Reply → Type 0) (session : ℕ) (current : Option Copied) (copy : Copied) (reply : Reply) → current ≡ Some copy
    → Moves (Forget session copy.number) reply → AbandonsBy Stays Moves session current reply
told_to_forget Stays Moves session current copy reply is moved = subst (λ (c : Option Copied). AbandonsBy Stays Moves session c reply) (sym is) moved
