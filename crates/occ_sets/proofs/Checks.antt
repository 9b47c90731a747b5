-- The step of the loop that checks operations.
use Rattle.std.proofs.Common.{◌≡◌, ℕ, ◌+◌, ◌<◌, List, [], ◌∷◌, Option, None, Some, length, get_or, drop, refl, sym, ap, ◌∙◌}
use Rattle.occ_types.specs.declared.fault.Fault.{Fault}
use Rattle.occ_types.specs.Schema.{Schema, first_fault}
use Rattle.occ_types.proofs.Walks.{drop_at}
use Rattle.occ_model.specs.Refusal.{check_operation, check_operations}
use Rattle.occ_sets.specs.declared.operations.Op.{Op}
use Rattle.occ_sets.specs.Operations.{op_of, ops_of}

-- without a fault of the first test, the answer is that of the second
passes : (a b : Option Fault) → None ≡ a → first_fault (a ∷ b ∷ []) ≡ b
passes None None e = refl
passes None (Some fault) e = refl
passes (Some fault) b e = cc

-- an operation that fits leaves the check of the rest
pub check_operations-fit : {Z : Type 0} (schema : Schema) (operations : List (Op Z)) (i : ℕ) (o : Op Z) → i < length operations → o ≡ get_or operations i o → None ≡ check_operation schema (op_of o) → check_operations schema (ops_of (drop (i + 1) operations)) ≡ check_operations schema (ops_of (drop i operations))
check_operations-fit schema operations i o h e fits =
    let rest = check_operations schema (ops_of (drop (i + 1) operations)) in
    sym (ap (λ (l : List (Op _)). check_operations schema (ops_of l)) (drop_at operations i o o h e) ∙ passes (check_operation schema (op_of o)) rest fits)

-- a fault of the first test is the answer
stops : (a b : Option Fault) (fault : Fault) → Some fault ≡ a → first_fault (a ∷ b ∷ []) ≡ Some fault
stops None b fault e = cc
stops (Some f) b fault e = sym e

-- an operation that does not fit is the answer
pub check_operations-fault : {Z : Type 0} (schema : Schema) (operations : List (Op Z)) (i : ℕ) (o : Op Z) (fault : Fault) → i < length operations → o ≡ get_or operations i o → Some fault ≡ check_operation schema (op_of o) → check_operations schema (ops_of (drop i operations)) ≡ Some fault
check_operations-fault schema operations i o fault h e faulty =
    let rest = check_operations schema (ops_of (drop (i + 1) operations)) in
    ap (λ (l : List (Op _)). check_operations schema (ops_of l)) (drop_at operations i o o h e) ∙ stops (check_operation schema (op_of o)) rest fault faulty
