-- The tokens of the operations of a run alone: what is read is spelled so, and what is spelled so is read again.
use Rattle.std.proofs.Common.{◌≡◌, ℕ, ◌<◌, List, [], ◌∷◌, ◌++◌, length, map, Option, Some, None, option_map, refl, sym, ap, subst, ◌∙◌, append_assoc, arith}
use Rattle.std.specs.Prelude.{true, false, ◌==◌}
use Rattle.std.proofs.lemmas.Bool.{eqb-true, eq-eqb}
use Rattle.std.specs.List.{All}
use Rattle.std.specs.Option.{option_and_then}
use Rattle.std.proofs.lemmas.List.{map-append, append-nil}
use Rattle.std.proofs.lemmas.List.Elements.{All-nil, All-cons, All-head, All-tail}
use Rattle.occ_text.specs.declared.versions.Version.{Version}
use Rattle.occ_text.specs.Spelling.{IsToken}
use Rattle.occ_text.specs.Operations.{Operation, operation_text, OperationFits}
use Rattle.occ_text.specs.OperationReading.{read_operation, read_operations, if_any, operations_of}
use Rattle.occ_text.proofs.Escapes.{some_is, bind_value, map_value}
use Rattle.occ_text.proofs.OperationsTaken.{operation_takes}
use Rattle.occ_text.proofs.OperationsSpelled.{operation_again, IsToken-operation}

-- operations that were read are spelled by their tokens, and fit
pub record Operations (version : Version) (tokens : List (List ℕ)) (operations : List Operation) : Type 0 where
  pub spelled : tokens ≡ map operation_text operations
  pub each : All (OperationFits version) operations

each_takes : (version : Version) (tokens : List (List ℕ)) (operations : List Operation) → read_operations version tokens ≡ Some operations → Operations version tokens operations
each_takes version [] operations h = subst (Operations version []) (some_is [] operations h) (record { spelled = refl; each = All-nil (OperationFits version) })
each_takes version (token ∷ tokens) operations h =
    let b = bind_value (read_operation version token) (λ operation. option_map (λ more. operation ∷ more) (read_operations version tokens)) operations h in
    let m = map_value (read_operations version tokens) (λ more. b.0 ∷ more) operations b.2 in
    let o = operation_takes version token b.0 b.1 in
    let rest = each_takes version tokens m.0 m.1 in
    subst (Operations version (token ∷ tokens)) m.2 (record {
      spelled = λ i. o.0 i ∷ rest.spelled i;
      each = All-cons (OperationFits version) b.0 m.0 o.1 rest.each;
    })

-- ---- the loop

regroup : {S : Type 0} (view : S → Operation) (old : List S) (x : S) (o : Option (List Operation))
    → option_map (λ more. map view (old ++ x ∷ []) ++ more) o ≡ option_map (λ more. map view old ++ more) (option_map (λ more. view x ∷ more) o)
regroup view old x None = refl
regroup view old x (Some more) = ap Some (ap (λ (l : List Operation). l ++ more) (map-append view old (x ∷ [])) ∙ append_assoc (map view old) (view x ∷ []) more)

-- one more operation behind those that were read
pub one_more : {S : Type 0} (version : Version) (view : S → Operation) (all tokens rest : List (List ℕ)) (token : List ℕ) (old new : List S) (x : S) → tokens ≡ token ∷ rest → read_operation version token ≡ Some (view x) → new ≡ old ++ x ∷ []
    → option_map (λ more. map view old ++ more) (read_operations version tokens) ≡ read_operations version all → option_map (λ more. map view new ++ more) (read_operations version rest) ≡ read_operations version all
one_more version view all tokens rest token old new x same read pushed so_far =
    let e : read_operations version (token ∷ rest) ≡ option_map (λ more. view x ∷ more) (read_operations version rest) = rw read refl in
    ap (λ l. option_map (λ more. map view l ++ more) (read_operations version rest)) pushed ∙ regroup view old x (read_operations version rest)
    ∙ ap (option_map (λ (more : List Operation). map view old ++ more)) (sym (ap (read_operations version) same ∙ e)) ∙ so_far

-- ---- one operation or more

any_is : (operations more : List Operation) → if_any operations ≡ Some more → (operations ≡ more) × (0 < length operations)
any_is [] more h = absurd cc
any_is (operation ∷ operations) more h = (some_is (operation ∷ operations) more h, omega arith)

-- what was read of the tokens of a run alone
pub record Taken (version : Version) (tokens : List (List ℕ)) (operations : List Operation) : Type 0 where
  pub spelled : tokens ≡ map operation_text operations
  pub some : 0 < length operations
  pub each : All (OperationFits version) operations

pub operations_take : (version : Version) (tokens : List (List ℕ)) (operations : List Operation) → operations_of version tokens ≡ Some operations → Taken version tokens operations
unfolding operations_of
operations_take version tokens operations h =
    let b = bind_value (read_operations version tokens) if_any operations h in
    let a = any_is b.0 operations b.2 in
    let all = each_takes version tokens b.0 b.1 in
    subst (Taken version tokens) a.0 (record { spelled = all.spelled; some = a.1; each = all.each })

-- where no token is left, what was read is all
pub all_read : (version : Version) (tokens rest : List (List ℕ)) (done : List Operation) → rest ≡ []
    → option_map (λ more. done ++ more) (read_operations version rest) ≡ read_operations version tokens → operations_of version tokens ≡ if_any done
unfolding operations_of
all_read version tokens rest done none so_far =
    let end = ap (λ left. option_map (λ more. done ++ more) (read_operations version left)) none in
    ap (option_and_then if_any) (sym so_far ∙ end ∙ ap Some (append-nil done))

pub none_if_empty : {X : Type 0} (view : X → Operation) (items : List X) (count : ℕ) → count ≡ length items → true ≡ (count == 0) → if_any (map view items) ≡ None
none_if_empty view [] count e empty = refl
none_if_empty view (x ∷ items) count e empty = let none = eqb-true count 0 (sym empty) in absurd (omega arith)

pub some_if_not : {X : Type 0} (view : X → Operation) (items : List X) (count : ℕ) → count ≡ length items → false ≡ (count == 0) → if_any (map view items) ≡ Some (map view items)
some_if_not view [] count e more = let no : false ≡ true = more ∙ eq-eqb count 0 e in cc
some_if_not view (x ∷ items) count e more = refl

each_again : (version : Version) (operations : List Operation) → All (OperationFits version) operations → read_operations version (map operation_text operations) ≡ Some operations
each_again version [] each = refl
each_again version (operation ∷ operations) each =
    rw (operation_again version operation (All-head (OperationFits version) operation operations each), each_again version operations (All-tail (OperationFits version) operation operations each)) refl

any_again : (operations : List Operation) → 0 < length operations → if_any operations ≡ Some operations
any_again [] some = absurd (omega arith)
any_again (operation ∷ operations) some = refl

pub operations_again : (version : Version) (operations : List Operation) → 0 < length operations → All (OperationFits version) operations → operations_of version (map operation_text operations) ≡ Some operations
unfolding operations_of
operations_again version operations some each = rw (each_again version operations each) (any_again operations some)

pub AreTokens-operations : (version : Version) (operations : List Operation) → All (OperationFits version) operations → All IsToken (map operation_text operations)
AreTokens-operations version [] each = All-nil IsToken
AreTokens-operations version (operation ∷ operations) each =
    All-cons IsToken (operation_text operation) (map operation_text operations) (IsToken-operation version operation (All-head (OperationFits version) operation operations each))
    (AreTokens-operations version operations (All-tail (OperationFits version) operation operations each))
