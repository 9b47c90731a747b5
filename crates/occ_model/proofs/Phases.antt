-- What is known of the read phases under way, as the world moves on.
use Rattle.std.proofs.Common.{◌≡◌, ℕ, ◌≤◌, ◌⊎◌, Bool, true, false, cond, List, [], ◌∷◌, ◌++◌, Option, None, Some, refl, sym, ap, subst, ◌∙◌, inl, inr, arith, not}
use Rattle.std.specs.Prelude.{nat_lt, ◌==◌}
use Rattle.std.proofs.lemmas.Bool.{ltb-false, eqb-true}
use Rattle.std.specs.declared.cmp.Ordering.{Ordering}
use Rattle.std.specs.declared.cmp.Ordering.TheVariants.{Less, Equal, Greater}
use Rattle.std.specs.Ordering.{nat_cmp, eq_by_cmp, ordering_then}
use Rattle.std.specs.Cmp.{IsTotalOrder, nat_cmp_total, on_total, then_total, Equal-is}
use Rattle.std.specs.FinMap.{FinMap, get, insert, remove, retain_keys, get-insert, get-remove, get-retain_keys, IsAntisymmetric, nat_cmp-IsAntisymmetric}
use Rattle.occ_types.specs.Schema.{fault_if}
use Rattle.occ_types.specs.declared.fault.Fault.{Fault}
use Rattle.occ_types.specs.declared.fault.Fault.TheVariants.{FutureStart, StartDiffers}
use Rattle.occ_types.specs.Question.{Question}
use Rattle.occ_model.specs.State.{State, Observation, answer}
use Rattle.occ_model.specs.Log.{LogRow}
use Rattle.occ_model.specs.World.{World, ReadPhase, low, phase_cmp, reads_under}
use Rattle.occ_model.specs.Refusal.{wrong_start}
use Rattle.occ_model.specs.Invariant.{is_touched, AreFresh, IsFresh}
use Rattle.occ_model.proofs.Tests.{decided, not_false}

pub phase_cmp_total : IsTotalOrder phase_cmp
phase_cmp_total = then_total (on_total (λ p. p.0) nat_cmp_total) (on_total (λ p. p.1) nat_cmp_total)

both_equal : (r s : Ordering) → ordering_then r s ≡ Equal → (r ≡ Equal) × (s ≡ Equal)
both_equal Less s e = cc
both_equal Equal s e = (refl, e)
both_equal Greater s e = cc

pub phase_cmp-IsAntisymmetric : IsAntisymmetric phase_cmp
phase_cmp-IsAntisymmetric a b e =
    let parts = both_equal (nat_cmp a.0 b.0) (nat_cmp a.1 b.1) e in
    λ i. (nat_cmp-IsAntisymmetric a.0 b.0 parts.0 i, nat_cmp-IsAntisymmetric a.1 b.1 parts.1 i)

-- what a removal or a test leaves was there before
pub get-remove-from : {X : Type 0} (m : FinMap phase_cmp X) (k q : ℕ × ℕ) (x : X) → get (remove m k) q ≡ Some x → get m q ≡ Some x
get-remove-from m k q x is = go (eq_by_cmp phase_cmp q k) (sym (get-remove phase_cmp_total m k q) ∙ is)
  where
    go : (b : Bool) → cond b None (get m q) ≡ Some x → get m q ≡ Some x
    go true e = cc
    go false e = e

pub get-retain-from : {X : Type 0} (m : FinMap phase_cmp X) (test : ℕ × ℕ → Bool) (q : ℕ × ℕ) (x : X) → get (retain_keys m test) q ≡ Some x → get m q ≡ Some x
get-retain-from m test q x is = go (test q) (sym (get-retain_keys m test q (λ y e. ap test (sym (phase_cmp-IsAntisymmetric q y e)))) ∙ is)
  where
    go : (b : Bool) → cond b (get m q) None ≡ Some x → get m q ≡ Some x
    go true e = e
    go false e = cc

-- what an insertion leaves at a key is the new value there, and the old one elsewhere
pub get-insert-cases : {X : Type 0} (m : FinMap phase_cmp X) (k q : ℕ × ℕ) (v x : X) → get (insert m k v) q ≡ Some x → ((q ≡ k) × (x ≡ v)) ⊎ (get m q ≡ Some x)
get-insert-cases m k q v x is = decided (eq_by_cmp phase_cmp q k)
    (λ same. inl (phase_cmp-IsAntisymmetric q k ((Equal-is (phase_cmp q k)).0 same), inside (sym (at true same) ∙ is)))
    (λ other. inr (sym (at false other) ∙ is))
  where
    at : (b : Bool) → eq_by_cmp phase_cmp q k ≡ b → get (insert m k v) q ≡ cond b (Some v) (get m q)
    at b e = get-insert phase_cmp_total m k v q ∙ ap (λ c. cond c (Some v) (get m q)) e

    inside : Some v ≡ Some x → x ≡ v
    inside e = cc

-- Answers stay fresh where touches stay, and where each answer that changes is touched.
pub AreFresh-step : (log next : List LogRow) (table after : State) (start : ℕ)
    → ((question : Question) → is_touched start question log ≡ true → is_touched start question next ≡ true)
    → ((question : Question) → (answer question after ≡ answer question table) ⊎ (is_touched start question next ≡ true))
    → (reads : List Observation) → AreFresh log table start reads → AreFresh next after start reads
AreFresh-step log next table after start still moved [] fresh = tt
AreFresh-step log next table after start still moved (seen ∷ others) fresh = (
  elim fresh.0 [
    | inl is ↦ elim (moved seen.0) [ inl same ↦ inl (is ∙ sym same) | inr touched ↦ inr touched ]
    | inr touched ↦ inr (still seen.0 touched)
  ],
  AreFresh-step log next table after start still moved others fresh.1,
)

pub AreFresh-push : (log : List LogRow) (table : State) (start : ℕ) (question : Question) (reads : List Observation) → AreFresh log table start reads → AreFresh log table start (reads ++ (question, answer question table) ∷ [])
AreFresh-push log table start question [] fresh = (inl refl, tt)
AreFresh-push log table start question (seen ∷ others) fresh = (fresh.0, AreFresh-push log table start question others fresh.1)

pub IsFresh-step : (old new : World) → old.counter ≤ new.counter → low old ≤ low new
    → ((start : ℕ) (question : Question) → start ≤ old.counter → low old ≤ start → is_touched start question old.log ≡ true → is_touched start question new.log ≡ true)
    → ((start : ℕ) (question : Question) → start ≤ old.counter → (answer question new.table ≡ answer question old.table) ⊎ (is_touched start question new.log ≡ true))
    → (phase : ReadPhase) → IsFresh old phase → IsFresh new phase
IsFresh-step old new up rise still moved phase fresh = record {
  begun = let b = fresh.begun in omega arith;
  answers = λ inside.
      let was : low old ≤ phase.start = omega arith in
      AreFresh-step old.log new.log old.table new.table phase.start (λ question. still phase.start question fresh.begun was)
      (λ question. moved phase.start question fresh.begun) phase.reads (fresh.answers was);
}

pub not_refused : (b : Bool) (fault : Fault) → fault_if b fault ≡ None → b ≡ false
not_refused true fault e = cc
not_refused false fault e = refl

-- What is known of the reads that a request takes along.
pub known_reads : (world : World) (session number start : ℕ) → ((phase : ReadPhase) → get world.phases (session, number) ≡ Some phase → IsFresh world phase)
    → wrong_start world session number start ≡ None → (start ≤ world.counter) × (low world ≤ start → AreFresh world.log world.table start (reads_under world session number))
known_reads world session number start fresh right = go (get world.phases (session, number)) fresh right
  where
    go : (p : Option ReadPhase) → ((phase : ReadPhase) → p ≡ Some phase → IsFresh world phase)
        → (elim p as (λ _. Option Fault) [ None ↦ fault_if (nat_lt world.counter start) FutureStart | Some phase ↦ fault_if (not (phase.start == start)) StartDiffers ]) ≡ None
        → (start ≤ world.counter) × (low world ≤ start → AreFresh world.log world.table start (elim p as (λ _. List Observation) [ None ↦ [] | Some phase ↦ phase.reads ]))
    go None known e = (ltb-false world.counter start (not_refused _ FutureStart e), λ inside. tt)
    go (Some phase) known e =
        let same : phase.start ≡ start = eqb-true phase.start start (not_false _ (not_refused _ StartDiffers e)) in
        let f = known phase refl in (
          subst (λ n. n ≤ world.counter) same f.begun,
          λ inside. subst (λ n. AreFresh world.log world.table n phase.reads) same (f.answers (subst (λ n. low world ≤ n) (sym same) inside)),
        )
