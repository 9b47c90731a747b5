-- The figures of a core add up, and how the sessions that read are counted.
use Rattle.std.proofs.Common.{◌≡◌, ℕ, zero, suc, ◌+◌, ◌-◌, ◌<◌, ◌≤◌, Bool, true, false, not, ◌&&◌, nat_le, cond, length, Option, None, Some, refl, sym, ap, subst, ◌∙◌, arith}
use Rattle.std.specs.FinMap.{FinMap}
use Rattle.occ_types.specs.declared.fault.Fault.{Fault}
use Rattle.occ_types.specs.declared.fault.Fault.TheVariants as faults
use Rattle.occ_types.specs.declared.limits.TheConstants.{MAX_NUMBER}
use Rattle.occ_types.specs.Schema.{fault_if}
use Rattle.occ_model.specs.World.{World, ReadPhase, phase_cmp, has_session, last_entered}
use Rattle.occ_model.proofs.Tests as tests
use Rattle.occ_model.proofs.Phases.{not_refused}
use Rattle.occ_log.specs.Phases.{is_reading}
use Rattle.occ_log.specs.SessionStates.{last_of}
use Rattle.occ_core.specs.declared.totals.Totals.{Totals}
use Rattle.occ_core.specs.Totals.{AddUp}
use Rattle.occ_core.specs.CoreParts.{Parts, world_of, AreSound}
use Rattle.occ_core.specs.Reads.{session_fault}
use Rattle.occ_core.specs.Figures.{reading_from, figures_of, IsBalanced, numbers_left}
use Rattle.occ_core.proofs.ReadPhases.{last_is}

-- the next session is the first of those that are left
reading_first : (phases : FinMap phase_cmp ReadPhase) (from left : ℕ) → 0 < left → reading_from phases from left ≡ cond (is_reading phases from) 1 0 + reading_from phases (from + 1) (left - 1)
reading_first phases from zero some = absurd (omega arith)
reading_first phases from (suc left) some =
    let next : suc from ≡ from + 1 = omega arith in
    let less : left ≡ suc left - 1 = omega arith in
    λ i. cond (is_reading phases from) 1 0 + reading_from phases (next i) (less i)

-- what is counted so far, and those that are left
abbrev pub Counting : FinMap phase_cmp ReadPhase → ℕ → ℕ → ℕ → Type 0
Counting phases sessions place count = (count + reading_from phases (place + 1) (sessions - place) ≡ reading_from phases 1 sessions) × (count ≤ place)

reading_counted : (phases : FinMap phase_cmp ReadPhase) (sessions place count next : ℕ) (reads : Bool) → place < sessions → reads ≡ is_reading phases (place + 1) → next ≡ count + cond reads 1 0 → Counting phases sessions place count
    → Counting phases sessions (place + 1) next
reading_counted phases sessions place count next reads below is one was =
    let first = reading_first phases (place + 1) (sessions - place) (omega arith) in
    let bit : ◌≡◌ {A = ℕ} (cond reads 1 0) (cond (is_reading phases (place + 1)) 1 0) = ap (λ b. cond b 1 0) is in
    let less : sessions - place - 1 ≡ sessions - (place + 1) = omega arith in
    let rest = ap (reading_from phases (place + 1 + 1)) less in
    let so_far = was.0 in
    let few = was.1 in
    (sums _ _ _ _ _ _ _ first rest so_far (one_more reads one bit), at_most reads one few)
  where
    sums : (left own later after count next total : ℕ) → left ≡ own + later → later ≡ after → count + left ≡ total → next ≡ count + own → next + after ≡ total
    sums left own later after count next total a b c d = omega arith

    one_more : (reads : Bool) → next ≡ count + cond reads 1 0 → ◌≡◌ {A = ℕ} (cond reads 1 0) (cond (is_reading phases (place + 1)) 1 0) → next ≡ count + cond (is_reading phases (place + 1)) 1 0
    one_more reads a b = omega arith

    at_most : (reads : Bool) → next ≡ count + cond reads 1 0 → count ≤ place → next ≤ place + 1
    at_most true a b = omega arith
    at_most false a b = omega arith

pub reading_found : (phases : FinMap phase_cmp ReadPhase) (sessions place count next : ℕ) → place < sessions → true ≡ is_reading phases (place + 1) → next ≡ count + 1 → Counting phases sessions place count → Counting phases sessions (place + 1) next
reading_found phases sessions place count next below is one = reading_counted phases sessions place count next true below is one

pub reading_skipped : (phases : FinMap phase_cmp ReadPhase) (sessions place count next : ℕ) → place < sessions → false ≡ is_reading phases (place + 1) → next ≡ count → Counting phases sessions place count → Counting phases sessions (place + 1) next
reading_skipped phases sessions place count next below is same = reading_counted phases sessions place count next false below is (let none : next ≡ count + 0 = omega arith in none)

-- the figures of a core that is seen so
pub balanced : (parts : Parts) (totals : Totals) → AreSound parts → AddUp totals (world_of parts) → IsBalanced (figures_of (world_of parts) totals)
balanced parts totals sound adds =
    let each = adds.each in
    let begins = adds.begins in
    let room = sound.counter_room in
    record { rows = omega arith; among = adds.among; numbered = adds.numbered; numbers = omega arith; room = omega arith }

-- what is left of a session's numbers
pub left_there : (parts : Parts) (world : World) (session left : ℕ) → world_of parts ≡ world → AreSound parts → session_fault parts.slots session ≡ None → left ≡ MAX_NUMBER - last_of parts.slots (session - 1) → Some left ≡ numbers_left world session
left_there parts world session left seen sound free is =
    subst (λ w. Some left ≡ numbers_left w session) seen
    (ap Some (is ∙ ap (λ n. MAX_NUMBER - n) (last_is parts session sound free)) ∙ ap (λ b. cond b (Some (MAX_NUMBER - last_entered (world_of parts) session)) None) (sym exists))
  where
    exists : has_session (world_of parts) session ≡ true
    exists = ap (λ n. nat_le 1 session && nat_le session n) (sym sound.each_session) ∙ tests.not_false _ (not_refused _ faults.NoSession free)

-- a session that is not there has none
pub left_none : (parts : Parts) (world : World) (session : ℕ) (fault : Fault) → world_of parts ≡ world → AreSound parts → session_fault parts.slots session ≡ Some fault → None ≡ numbers_left world session
left_none parts world session fault seen sound out =
    subst (λ w. None ≡ numbers_left w session) seen
    (ap (λ b. cond b (Some (MAX_NUMBER - last_entered (world_of parts) session)) None) (sym missing))
  where
    told : (b : Bool) → fault_if (not b) faults.NoSession ≡ Some fault → b ≡ false
    told true e = cc
    told false e = refl

    missing : has_session (world_of parts) session ≡ false
    missing = ap (λ n. nat_le 1 session && nat_le session n) (sym sound.each_session) ∙ told (nat_le 1 session && nat_le session (length parts.slots)) out
