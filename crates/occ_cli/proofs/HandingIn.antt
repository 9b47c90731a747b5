-- Operations that are handed in to run alone, over plain data.
use Rattle.std.proofs.Common.{◌≡◌, ℕ, List, [], ◌∷◌, ◌++◌, length, map, Option, Some, None, Result, Err, refl, sym, ap, subst, ◌∙◌, inl, inr, MatchResult, true, false, not, is_some, nat_le, nat_lt, ◌==◌}
use Rattle.occ_cli.proofs.Common.{map-append, eq-eqb, Fault, Schema, first_fault, Operation, check_operation, check_operations, op_of, ops_of, operation_of, numbers_exhausted, fault_if, MAX_NUMBER, MAX_OPERATIONS, next, with_item, is_full, refusal_of_submit, Client, Given, and_then, unless, unfit, handed_in, HandsIn, IsUnlisted, WantsList, PlayedIn, operation_named, operations_named}
use Rattle.std.specs.Vec.Iter.{into_iter_items, into_iter_steps}
use Rattle.std.specs.declared.vec.IntoIter.{IntoIter}
use Rattle.std.specs.Iterator.{Yields}
use Rattle.occ_model.proofs.Admitted.{passed}
use Rattle.occ_sets.specs.declared.operations.Op as code_op
use Rattle.occ_text.specs.declared.operations.Operation as code_operation
use Rattle.occ_model.specs.Event as events
use Rattle.occ_types.specs.declared.fault.Fault.TheVariants as faults
use Rattle.occ_cli.specs.declared.answers.Answer as code_answer
use Rattle.occ_cli.specs.Answers.{Answer}
use Rattle.occ_cli.specs.Answers as says

-- one test alone is its own first fault
single : (test : Option Fault) → first_fault (test ∷ []) ≡ test
single None = refl
single (Some fault) = refl

-- behind operations that fit, the others decide
pub check_append : (schema : Schema) (list others : List Operation) → check_operations schema list ≡ None → check_operations schema (list ++ others) ≡ check_operations schema others
check_append schema [] others fits = refl
check_append schema (operation ∷ list) others fits =
    let p = passed (check_operation schema operation) (check_operations schema list ∷ []) fits in
    ap (λ test. first_fault (test ∷ check_operations schema (list ++ others) ∷ [])) p.0
    ∙ (single (check_operations schema (list ++ others)) ∙ check_append schema list others (sym (single (check_operations schema list)) ∙ p.1))

-- a fault of the operations is why they have no list
pub no_list : {T : Type 0} (result : Result T Fault) (Listed : T → Type 0) (schema : Schema) (seen wanted : List Operation) (fault : Fault) → result ≡ Err fault → seen ≡ wanted → Some fault ≡ check_operations schema seen → MatchResult result Listed (IsUnlisted schema wanted)
no_list result Listed schema seen wanted fault is same why =
    subst (λ (r : Result _ Fault). MatchResult r Listed (IsUnlisted schema wanted)) (sym is) (inl (sym (why ∙ ap (check_operations schema) same)))

-- what the iterator of a vector has given is a front of its items
taken_front : {X Z : Type 0} (s : IntoIter X Z) (xs : List X) (t : IntoIter X Z) → Yields into_iter_steps s xs t → into_iter_items s ≡ xs ++ into_iter_items t
taken_front s [] t y = ap into_iter_items y
taken_front s (x ∷ xs) t y = y.1.0 ∙ ap (λ ys. x ∷ ys) (taken_front y.0 xs t y.2)

module _ {Z : Type 0} (schema : Schema) where
  -- the operations of a text, with the places of their tables
  abbrev named : List (code_operation.Operation Z) → List Operation
  named operations = operations_named schema (map operation_of operations)

  named_append : (before after : List (code_operation.Operation Z)) → named (before ++ after) ≡ named before ++ named after
  named_append before after = ap (operations_named schema) (map-append operation_of before after) ∙ map-append (operation_named schema) (map operation_of before) (map operation_of after)

  module _ (so_far : List (code_operation.Operation Z)) (next : code_operation.Operation Z) where
    -- one operation more has its place
    pub named_more : (list : List (code_op.Op Z)) (op : code_op.Op Z) → ops_of list ≡ named so_far → op_of op ≡ operation_named schema (operation_of next) → ops_of (list ++ op ∷ []) ≡ named (so_far ++ next ∷ [])
    named_more list op same is =
        map-append op_of list (op ∷ []) ∙ (ap (λ front. front ++ op_of op ∷ []) same ∙ (ap (λ o. named so_far ++ o ∷ []) is ∙ sym (named_append so_far (next ∷ []))))

    -- one operation more fits
    pub fits_more : check_operations schema (named so_far) ≡ None → check_operation schema (operation_named schema (operation_of next)) ≡ None → check_operations schema (named (so_far ++ next ∷ [])) ≡ None
    fits_more fits fit =
        ap (check_operations schema) (named_append so_far (next ∷ []))
        ∙ (check_append schema (named so_far) (named (next ∷ [])) fits ∙ ap (λ test. first_fault (test ∷ None ∷ [])) fit)

    -- the first operation that doesn't fit decides
    pub unfit_so : (s t u : IntoIter (code_operation.Operation Z) Z) (fault : Fault) (all : List (code_operation.Operation Z)) → into_iter_items s ≡ all → Yields into_iter_steps s so_far t → into_iter_steps t (Some next) u
        → check_operations schema (named so_far) ≡ None → check_operation schema (operation_named schema (operation_of next)) ≡ Some fault → check_operations schema (named all) ≡ Some fault
    unfit_so s t u fault all starts yields steps fits unfit =
        let whole : all ≡ so_far ++ next ∷ into_iter_items u = sym starts ∙ (taken_front s so_far t yields ∙ ap (λ later. so_far ++ later) steps.0) in
        let later = named (into_iter_items u) in
        ap (λ operations. check_operations schema (named operations)) whole
        ∙ (ap (check_operations schema) (named_append so_far (next ∷ into_iter_items u))
        ∙ (check_append schema (named so_far) (named (next ∷ into_iter_items u)) fits
        ∙ ap (λ test. first_fault (test ∷ check_operations schema later ∷ [])) unfit))

-- what a client does with operations

module _ (schema : Schema) (list : List Operation) (client : Client) (open_still : client.queue.closed ≡ false) (none_open : is_some client.copy ≡ false) (spare : nat_le MAX_NUMBER (next client.queue) ≡ false) (few : nat_lt MAX_OPERATIONS (length list) ≡ false) where
  -- where only the operations are left to be tried
  pub tried : unfit schema list client ≡ check_operations schema list
  tried =
      ap (λ closed. first_fault (fault_if closed faults.Closed ∷ fault_if (is_some client.copy) faults.ReadOpen ∷ numbers_exhausted (next client.queue) ∷ fault_if (nat_lt MAX_OPERATIONS (length list)) faults.SetFull ∷ check_operations schema list ∷ [])) open_still
      ∙ (ap (λ copied. first_fault (fault_if copied faults.ReadOpen ∷ numbers_exhausted (next client.queue) ∷ fault_if (nat_lt MAX_OPERATIONS (length list)) faults.SetFull ∷ check_operations schema list ∷ [])) none_open
      ∙ (ap (λ none. first_fault (fault_if none faults.NumbersExhausted ∷ fault_if (nat_lt MAX_OPERATIONS (length list)) faults.SetFull ∷ check_operations schema list ∷ [])) spare
      ∙ (ap (λ full. first_fault (fault_if full faults.SetFull ∷ check_operations schema list ∷ [])) few
      ∙ single (check_operations schema list))))

  -- what is answered, by the first fault
  by_fault : (fault : Option Fault) → unfit schema list client ≡ fault → handed_in schema list client ≡ and_then (unless fault client) (λ c. unless (fault_if (is_full c.queue) faults.QueueFull) (next c.queue))
  by_fault fault is = ap (λ f. and_then (unless f client) (λ c. unless (fault_if (is_full c.queue) faults.QueueFull) (next c.queue))) is

  module _ {Z : Type 0} where
    -- the operations have no list
    pub unlisted : (r : Result (code_answer.Answer Z) Fault) (e f : Fault) → r ≡ Err e → e ≡ f → IsUnlisted schema list f → PlayedIn client client r (WantsList schema list client) (λ answer. HandsIn schema list client answer client)
    unlisted r e f is same (inl unfits) =
        subst (λ (x : Result (code_answer.Answer Z) Fault). PlayedIn client client x (WantsList schema list client) (λ answer. HandsIn schema list client answer client)) (sym (is ∙ ap Err same))
        (inr (subst (λ (g : Result ℕ Fault). Given g client (says.refused f) client (λ number. (says.refused f ≡ says.Queued number) × (client ≡ record client { queue = with_item client.queue (events.Alone number list) }))) (sym (by_fault (Some f) (tried ∙ unfits))) (refl, refl)))
    unlisted r e f is same (inr starves) =
        subst (λ (x : Result (code_answer.Answer Z) Fault). PlayedIn client client x (WantsList schema list client) (λ answer. HandsIn schema list client answer client)) (sym (is ∙ ap Err (same ∙ starves.1)))
        (inl (refl, (tried ∙ starves.0, refl)))

  -- the queue refuses them only where it is full
  pub queue_refuses : (number : ℕ) → number ≡ next client.queue → refusal_of_submit client.queue (events.Alone number list) ≡ fault_if (is_full client.queue) faults.QueueFull
  queue_refuses number is =
      let same : (number == next client.queue) ≡ true = eq-eqb number (next client.queue) is in
      ap (λ closed. first_fault (first_fault (fault_if closed faults.Closed ∷ fault_if (nat_le MAX_NUMBER (next client.queue)) faults.NumbersExhausted ∷ fault_if (not (number == next client.queue)) faults.OutOfTurn ∷ []) ∷ fault_if (is_full client.queue) faults.QueueFull ∷ [])) open_still
      ∙ (ap (λ none. first_fault (first_fault (fault_if none faults.NumbersExhausted ∷ fault_if (not (number == next client.queue)) faults.OutOfTurn ∷ []) ∷ fault_if (is_full client.queue) faults.QueueFull ∷ [])) spare
      ∙ (ap (λ turn. first_fault (first_fault (fault_if (not turn) faults.OutOfTurn ∷ []) ∷ fault_if (is_full client.queue) faults.QueueFull ∷ [])) same
      ∙ single (fault_if (is_full client.queue) faults.QueueFull)))

  -- what hands them in, where they fit
  abbrev Hands : Result ℕ Fault → Answer → Client → Type 0
  Hands given answer new = Given given client answer new (λ number. (answer ≡ says.Queued number) × (new ≡ record client { queue = with_item client.queue (events.Alone number list) }))

  -- they are handed in
  pub listed : (answer : Answer) (new : Client) → check_operations schema list ≡ None
      → Hands (unless (refusal_of_submit client.queue (events.Alone (next client.queue) list)) (next client.queue)) answer new → HandsIn schema list client answer new
  listed answer new fits hands =
      subst (λ (g : Result ℕ Fault). Hands g answer new) (sym (by_fault None (tried ∙ fits)))
      (subst (λ (f : Option Fault). Hands (unless f (next client.queue)) answer new) (queue_refuses (next client.queue) refl) hands)

-- more operations than a list may have are refused
module _ (schema : Schema) (list : List Operation) (client : Client) (open_still : client.queue.closed ≡ false) (none_open : is_some client.copy ≡ false) (spare : nat_le MAX_NUMBER (next client.queue) ≡ false) (many : nat_lt MAX_OPERATIONS (length list) ≡ true) where
  crowded : unfit schema list client ≡ Some faults.SetFull
  crowded =
      ap (λ closed. first_fault (fault_if closed faults.Closed ∷ fault_if (is_some client.copy) faults.ReadOpen ∷ numbers_exhausted (next client.queue) ∷ fault_if (nat_lt MAX_OPERATIONS (length list)) faults.SetFull ∷ check_operations schema list ∷ [])) open_still
      ∙ (ap (λ copied. first_fault (fault_if copied faults.ReadOpen ∷ numbers_exhausted (next client.queue) ∷ fault_if (nat_lt MAX_OPERATIONS (length list)) faults.SetFull ∷ check_operations schema list ∷ [])) none_open
      ∙ (ap (λ none. first_fault (fault_if none faults.NumbersExhausted ∷ fault_if (nat_lt MAX_OPERATIONS (length list)) faults.SetFull ∷ check_operations schema list ∷ [])) spare
      ∙ ap (λ full. first_fault (fault_if full faults.SetFull ∷ check_operations schema list ∷ [])) many))

  pub too_many : (Z : Type 0) → PlayedIn {Z = Z} client client (Err faults.SetFull) (WantsList schema list client) (λ answer. HandsIn schema list client answer client)
  too_many Z =
      let given = ap (λ f. and_then (unless f client) (λ c. unless (fault_if (is_full c.queue) faults.QueueFull) (next c.queue))) crowded in
      inr (subst (λ (g : Result ℕ Fault). Given g client (says.refused faults.SetFull) client (λ number. (says.refused faults.SetFull ≡ says.Queued number) × (client ≡ record client { queue = with_item client.queue (events.Alone number list) }))) (sym given) (refl, refl))
