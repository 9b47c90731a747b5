-- What holds of every core, seen from outside.
use Rattle.std.proofs.Common.{◌≡◌, ℕ, suc, ◌+◌, ◌-◌, ◌<◌, ◌≤◌, ◌^◌, true, length, Some, ap, subst, ◌∙◌, arith, nat_le, unwrap_or}
use Rattle.std.specs.FinMap as finite
use Rattle.std.proofs.lemmas.Bool.{leb-true, le-leb}
use Rattle.occ_model.proofs.Orders.{latest_number}
use Rattle.occ_types.specs.declared.limits.TheConstants.{MAX_COUNTER, MAX_LOG_ROWS, MAX_NUMBER}
use Rattle.occ_model.proofs.Tests as tests
use Rattle.occ_model.proofs.Steps.{audited}
use Rattle.occ_model.specs.Invariant.{Invariant}
use Rattle.occ_model.specs.Content.{IsInSchema}
use Rattle.occ_model.specs.Log.{Audited, last_folded, numbers}
use Rattle.occ_model.specs.World.{World, next_place, empty_base, active_count, has_session, last_entered}
use Rattle.occ_core.specs.CoreParts.{Parts, world_of, AreSound}
use Rattle.occ_core.proofs.ReadPhases.{there}

pub record Lawful (world : World) : Type 0 where
  pub invariant : Invariant world
  pub content : IsInSchema world
  pub audited : Audited world.base world.marks world.table world.log
  pub counter : world.counter + active_count world ≤ MAX_COUNTER
  pub numbers : (session : ℕ) → has_session world session ≡ true → last_entered world session ≤ MAX_NUMBER
  pub rows : length world.log ≤ MAX_LOG_ROWS
  pub places : next_place world < 2 ^ 64
  pub begins : world.base.place ≡ 0 → world.base ≡ empty_base
  pub folded : (session number : ℕ) → finite.get world.base.last session ≡ Some number → number ≤ MAX_NUMBER

last_fits : (parts : Parts) → AreSound parts → (session : ℕ) → has_session (world_of parts) session ≡ true → last_entered (world_of parts) session ≤ MAX_NUMBER
last_fits parts sound session has =
    let both = tests.and_true (nat_le 1 session) (nat_le session parts.settings.sessions) has in
    let from = leb-true 1 session both.0 in
    let below = leb-true session parts.settings.sessions both.1 in
    let count = sound.each_session in
    let found = there parts.slots (session - 1) (omega arith) in
    let same : suc (session - 1) ≡ session = omega arith in
    let slot = sound.slots_true (session - 1) found.0 found.1 in
    subst (λ n. n ≤ MAX_NUMBER) (slot.last_is ∙ ap (last_entered (world_of parts)) same) slot.last_fits

-- a folded number lies below that of the session's last transaction
folded_fits : (parts : Parts) → AreSound parts → (session number : ℕ) → finite.get parts.base.last session ≡ Some number → number ≤ MAX_NUMBER
folded_fits parts sound session number is =
    let known = sound.law.content.folded session number is in
    let from = known.first in
    let below = known.last in
    let has : has_session (world_of parts) session ≡ true = tests.both_true _ _ (le-leb 1 session from) (le-leb session parts.settings.sessions below) in
    let last = last_fits parts sound session has in
    let counted = latest_number session (last_folded parts.base session) parts.log (sound.law.invariant.in_order.numbered session) in
    let own : last_folded parts.base session ≡ number = ap (λ o. unwrap_or o 0) is in
    within (last_entered (world_of parts) session) (last_folded parts.base session) (length (numbers session parts.log)) number last counted own
  where
    within : (last folded more number : ℕ) → last ≤ MAX_NUMBER → last ≡ folded + more → folded ≡ number → number ≤ MAX_NUMBER
    within last folded more number fits counted own = omega arith

pub lawful : (parts : Parts) (world : World) → world_of parts ≡ world → AreSound parts → Lawful world
lawful parts world seen sound = subst Lawful seen (record {
  invariant = sound.law.invariant;
  content = sound.law.content;
  audited = audited (world_of parts) sound.law.invariant;
  counter = sound.counter_room;
  numbers = last_fits parts sound;
  rows = sound.log_room;
  places = let p = sound.place_room in let r = sound.log_room in omega arith;
  begins = sound.base_begins;
  folded = folded_fits parts sound;
})
