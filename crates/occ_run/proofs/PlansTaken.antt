-- The lines of transactions that are taken one after another, up to the end of a text.
use Rattle.std.proofs.Common.{◌≡◌, ℕ, ◌+◌, ◌^◌, ◌≤◌, Bool, true, false, List, [], ◌∷◌, ◌++◌, length, map, Option, Some, Result, Ok, Err, sym, ap, subst, ◌∙◌, arith}
use Rattle.std.specs.Prelude.{IsTrue, ◌↔◌}
use Rattle.std.specs.Result.{IsErrAnd}
use Rattle.std.specs.Io.KnownBytes.{Consumes, IsAtEnd}
use Rattle.std.proofs.Math.Nat.{le-mul_of_pos_right}
use Rattle.std.proofs.lemmas.List.{map-append, length-map}
use Rattle.occ_types.specs.Schema.{Schema}
use Rattle.occ_text.specs.declared.tokens.Unread.{Unread}
use Rattle.occ_text.specs.declared.tokens.Unread.TheVariants as unread
use Rattle.occ_text.specs.declared.faults.LineFault.{LineFault}
use Rattle.occ_text.specs.declared.faults.ReadFault.{ReadFault}
use Rattle.occ_text.specs.declared.faults.ReadFault.TheVariants as faults
use Rattle.occ_text.specs.Escapes.{Gives}
use Rattle.occ_text.specs.Faults.{read_fault, told}
use Rattle.occ_text.specs.Languages.{Position, point, Stays, Took, FailsFrom}
use Rattle.occ_text.specs.Line.{Source, IsLine, LineGives}
use Rattle.occ_run.specs.declared.workloads.Settings.{Settings}
use Rattle.occ_run.specs.TransactionLines.{Transaction, transaction_text, TransactionFits}
use Rattle.occ_run.specs.Workloads.{Transactions, HasRoom, loads}
use Rattle.occ_run.specs.Plans.{Planned, planned, PlanTaken, PlansTaken}
use Rattle.occ_text.proofs.LinesTaken.{none, ◌and◌, spelled, fails, line_refused, next_taken, next_line_fails, viewed_more}

-- what the line of the input is, once it was taken
abbrev LineIs : Option (List ℕ) → Option (List ℕ) → List ℕ → ℕ → ℕ → Type 0
LineIs a b line first last = Consumes a b (line ++ 10 ∷ []) × IsLine line × (last ≡ first + 1)

-- ---- one more

-- no line was taken
pub no_line : {X : Type 0} (view : X → Planned) (fault : LineFault) (result : Result (Option X) ReadFault) (settings : Settings) (schema : Schema) (count : ℕ) (a b : Option (List ℕ)) (old new : Source) (last : ℕ) → IsErrAnd result (λ e. e ≡ read_fault fault)
    → LineGives (Err fault) a b old new → PlanTaken view result settings schema count (point a old.number) (point b last)
no_line view fault (Ok x) settings schema count a b old new last is t = absurd is
no_line view fault (Err e) settings schema count a b old new last is t = λ before long.
    subst (λ (f : ReadFault). FailsFrom loads f (Transactions settings schema before) (point a old.number) b) (sym is) (next_line_fails loads fault (Transactions settings schema before) a b old new t)

-- a line was taken that isn't that of a transaction
pub plan_unread : {X Y : Type 0} (view : X → Planned) (seen : Y → Transaction) (read : Result Y Unread) (fault : ReadFault) (result : Result (Option X) ReadFault) (settings : Settings) (schema : Schema) (count : ℕ) (shown line : List ℕ) (a b : Option (List ℕ)) (n first last : ℕ)
    → LineIs a b line first last → shown ≡ line
    → ((transaction : Transaction) → TransactionFits settings.limits.version settings.limits.sessions transaction → shown ≡ transaction_text transaction → Gives seen read (Some transaction))
    → Err fault ≡ told read n → IsErrAnd result (λ e. e ≡ fault) → n ≡ last → PlanTaken view result settings schema count (point a first) (point b last)
plan_unread view seen read fault (Ok x) settings schema count shown line a b n first last taken same again told_so is here = absurd is
plan_unread view seen (Ok y) fault (Err e) settings schema count shown line a b n first last taken same again told_so is here = absurd cc
plan_unread view seen (Err unread.Malformed) fault (Err e) settings schema count shown line a b n first last taken same again told_so is here = λ before long.
    let q : e ≡ faults.Malformed n = is ∙ (cc told_so) in
    subst (λ (f : ReadFault). FailsFrom loads f (Transactions settings schema before) (point a first) b) (sym q)
    (line_refused loads (Transactions settings schema before) line a b first last n (taken.0, taken.2, taken.1) (λ leads. let f = again leads.1.0 leads.1.1.0.fits (same ∙ leads.1.2) in cc f) here)
plan_unread view seen (Err unread.Memory) fault (Err e) settings schema count shown line a b n first last taken same again told_so is here = λ before long.
    let q : e ≡ faults.Memory = is ∙ (cc told_so) in
    subst (λ (f : ReadFault). FailsFrom loads f (Transactions settings schema before) (point a first) b) (sym q) tt

-- a line was taken with which the transactions are too many
pub plan_barred : {X : Type 0} (view : X → Planned) (settings : Settings) (schema : Schema) (count : ℕ) (line : List ℕ) (a b : Option (List ℕ)) (n first last : ℕ) (room : Bool)
    → LineIs a b line first last → (IsTrue room ↔ HasRoom settings.retries (count + 1)) → room ≡ false → n ≡ last → PlanTaken view (Err (faults.Malformed n)) settings schema count (point a first) (point b last)
plan_barred view settings schema count line a b n first last room taken is full here = λ before long.
    line_refused loads (Transactions settings schema before) line a b first last n (taken.0, taken.2, taken.1)
    (λ leads. let yes = is.1 (subst (λ k. HasRoom settings.retries (k + 1)) long leads.1.1.1) in let f : false ≡ true = sym full ∙ yes in cc f) here

-- the line of a transaction was taken
pub plan_read : {X : Type 0} (view : X → Planned) (settings : Settings) (schema : Schema) (count : ℕ) (shown line : List ℕ) (transaction : Transaction) (x : X) (a b : Option (List ℕ)) (first last : ℕ) (room : Bool)
    → LineIs a b line first last → shown ≡ line → (shown ≡ transaction_text transaction) × TransactionFits settings.limits.version settings.limits.sessions transaction → (IsTrue room ↔ HasRoom settings.retries (count + 1)) → room ≡ true
    → view x ≡ planned schema transaction → PlanTaken view (Ok (Some x)) settings schema count (point a first) (point b last)
plan_read view settings schema count shown line transaction x a b first last room taken same found is spare kept = (
  transaction,
  kept,
  is.0 spare,
  (λ before long.
      (next_taken loads (Transactions settings schema before) transaction (
        subst (λ (l : List ℕ). Consumes a b (l ++ 10 ∷ [])) (sym same ∙ found.0) taken.0,
        (record { fits = found.1; short = subst (λ (l : List ℕ). length l ≤ 8192) (sym same ∙ found.0) taken.1.short }, subst (λ k. HasRoom settings.retries (k + 1)) (sym long) (is.0 spare)),
        taken.2,
      )).0),
)

-- ---- all of them

-- so many transactions were taken
pub record PlansSoFar (settings : Settings) (schema : Schema) (a b : Position) (plans : List Planned) : Type 0 where
  pub transactions : List Transaction
  pub kept : plans ≡ map (planned schema) transactions
  pub took : Took loads (Transactions settings schema []) (Transactions settings schema transactions) a b (map transaction_text transactions)

pub no_plans : {a : Position} (settings : Settings) (schema : Schema) (plans : List Planned) → plans ≡ [] → PlansSoFar settings schema a a plans
no_plans settings schema plans is = record { transactions = []; kept = is; took = none }

same_count : (schema : Schema) (plans : List Planned) (transactions : List Transaction) (count : ℕ) → plans ≡ map (planned schema) transactions → length plans ≡ count → length transactions ≡ count
same_count schema plans transactions count kept long = sym (length-map transactions (planned schema)) ∙ ap length (sym kept) ∙ long

pub plan_more : {X : Type 0} {a b c : Position} (view : X → Planned) (settings : Settings) (schema : Schema) (xs now : List X) (x : X) (count : ℕ) → now ≡ xs ++ x ∷ [] → length (map view xs) ≡ count → PlansSoFar settings schema a b (map view xs)
    → PlanTaken view (Ok (Some x)) settings schema count b c → PlansSoFar settings schema a c (map view now)
plan_more {a = a} {c = c} view settings schema xs now x count is long so_far next =
    let more = viewed_more view xs now x is in
    subst (PlansSoFar settings schema a c) (sym more) (record {
      transactions = so_far.transactions ++ next.0 ∷ [];
      kept = ap (λ l. l ++ view x ∷ []) so_far.kept ∙ ap (λ p. map (planned schema) so_far.transactions ++ p ∷ []) next.1 ∙ sym (map-append (planned schema) so_far.transactions (next.0 ∷ []));
      took = spelled (sym (map-append transaction_text so_far.transactions (next.0 ∷ []))) (so_far.took and next.3 so_far.transactions (same_count schema (map view xs) so_far.transactions count so_far.kept long));
    })

pub plans_fail : {X V : Type 0} {a b : Position} (view : X → Planned) (seen : V → List Planned) (settings : Settings) (schema : Schema) (xs : List X) (count : ℕ) (fault : ReadFault) (result : Result V ReadFault) (c : Position) → IsErrAnd result (λ e. e ≡ fault)
    → length (map view xs) ≡ count → PlansSoFar settings schema a b (map view xs) → PlanTaken view (Err fault) settings schema count b c → PlansTaken seen result settings schema a c
plans_fail view seen settings schema xs count fault (Ok x) c is long so_far next = absurd is
plans_fail {a = a} view seen settings schema xs count fault (Err e) c is long so_far next =
    subst (λ (f : ReadFault). FailsFrom loads f (Transactions settings schema []) a c.left) (sym is)
    (fails fault c.left so_far.took (next so_far.transactions (same_count schema (map view xs) so_far.transactions count so_far.kept long)))

pub plans_end : {V : Type 0} {a b : Position} (seen : V → List Planned) (settings : Settings) (schema : Schema) (v : V) (plans : List Planned) (c : Position) → seen v ≡ plans → PlansSoFar settings schema a b plans → IsAtEnd b.left × Stays b c → PlansTaken seen (Ok v) settings schema a c
plans_end seen settings schema v plans c is so_far end = (so_far.transactions, _, so_far.took, end.0, is ∙ so_far.kept, end.1)

-- the log has room for no more than 2^20 transactions
pub room_bounds : (retries count : ℕ) → HasRoom retries count → count ≤ 2 ^ 20
room_bounds retries count room = let le = le-mul_of_pos_right {m = retries + 2} count (omega arith) in omega (arith, room, le)
