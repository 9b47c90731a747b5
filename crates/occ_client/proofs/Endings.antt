-- What comes back of a request.
use Rattle.std.proofs.Common.{◌≡◌, ℕ, List}
use Rattle.occ_model.specs.State.{Write}
use Rattle.occ_model.specs.Event.{Item, Request, Alone, Close}
use Rattle.occ_core.specs.Replies.{CanEnd}
use Rattle.occ_core.specs.declared.outcomes.Outcome as code_outcome
use Rattle.occ_core.specs.declared.outcomes.Outcome.TheVariants as outcomes
use Rattle.occ_client.specs.Clients.{IsEnd, IsRequest}

-- what equals a request is one
pub is_request : (item : Item) (number start : ℕ) (writes : List Write) → item ≡ Request number start writes → IsRequest item
is_request (Request n s w) number start writes e = tt
is_request (Alone n operations) number start writes e = cc
is_request (Close n) number start writes e = cc

-- what can come of a request that ends serially is an end
pub can_end : {Z : Type 0} (outcome : code_outcome.Outcome Z) (number start : ℕ) (writes : List Write) → CanEnd (Request number start writes) outcome → IsEnd outcome
can_end (outcomes.Committed tn) number start writes can = tt
can_end (outcomes.BackedUp cause) number start writes can = tt
can_end (outcomes.Entered place) number start writes can = can
can_end (outcomes.RanAlone tn answers) number start writes can = can
can_end outcomes.MarkedClosed number start writes can = can
