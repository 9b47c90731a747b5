-- What the entry of a closing mark has to show, over plain parts.
use Rattle.std.proofs.Common.{◌≡◌, ℕ, ◌-◌, ◌≤◌, not, [], ◌∷◌, length, Option, None, Some, refl, sym, ap, subst, ◌∙◌, ◌==◌, slice_get, nat_le}
use Rattle.std.specs.Ordering.{nat_cmp}
use Rattle.std.specs.FinMap as finite
use Rattle.std.specs.FinMap.{FinMap}
use Rattle.std.proofs.lemmas.Bool.{leb-true}
use Rattle.occ_types.specs.declared.fault.Fault.{Fault}
use Rattle.occ_types.specs.declared.fault.Fault.TheVariants as faults
use Rattle.occ_types.specs.Schema.{first_fault}
use Rattle.occ_model.specs.World.{World, ReadPhase, phase_cmp}
use Rattle.occ_model.specs.Event.{Item, Reply, Enter, Close, Closed}
use Rattle.occ_model.specs.Refusal as refusals
use Rattle.occ_model.specs.Refusal.{refusal}
use Rattle.occ_model.specs.Step.{Step, taken}
use Rattle.occ_model.proofs.Tests as tests
use Rattle.occ_model.proofs.Phases.{not_refused}
use Rattle.occ_model.proofs.Admitted.{passed}
use Rattle.occ_model.proofs.InSchema.{keeps_lawful}
use Rattle.occ_core.specs.Reads.{session_fault, closed_fault}
use Rattle.occ_core.specs.EntryFaults.{due_fault, busy_fault, turn_to_close}
use Rattle.occ_log.specs.SessionStates.{last_of}
use Rattle.occ_core.specs.CoreParts.{Parts, world_of, AreSound}
use Rattle.occ_core.proofs.Entries.{busy_is}
use Rattle.occ_core.proofs.Moves.{slot_same}
use Rattle.occ_core.proofs.ReadPhases.{session_is, last_is}

-- When it is refused.

pub close_refusal : (parts : Parts) (session number : ℕ) → AreSound parts → refusal (world_of parts) (Enter session (Close number)) ≡ turn_to_close parts.slots parts.marks session number
close_refusal parts session number sound =
    ap (λ o. first_fault (o ∷ refusals.session_closed w session ∷ refusals.not_due w session number ∷ refusals.session_busy w session ∷ [])) (session_is parts session sound)
    ∙ at (session_fault parts.slots session) refl
  where
    w : World
    w = world_of parts

    closed : Option Fault
    closed = closed_fault parts.marks session

    at : (o : Option Fault) → session_fault parts.slots session ≡ o
        → first_fault (session_fault parts.slots session ∷ refusals.session_closed w session ∷ refusals.not_due w session number ∷ refusals.session_busy w session ∷ [])
        ≡ turn_to_close parts.slots parts.marks session number
    at (Some f) e =
        ap (λ o. first_fault (o ∷ refusals.session_closed w session ∷ refusals.not_due w session number ∷ refusals.session_busy w session ∷ [])) e
        ∙ sym (ap (λ o. first_fault (o ∷ closed ∷ due_fault (last_of parts.slots (session - 1)) number ∷ busy_fault (slice_get parts.slots (session - 1)) ∷ [])) e)
    at None e =
        ap (λ last. first_fault (session_fault parts.slots session ∷ closed ∷ due_fault last number ∷ refusals.session_busy w session ∷ [])) (sym (last_is parts session sound e))
        ∙ ap (λ o. first_fault (session_fault parts.slots session ∷ closed ∷ due_fault (last_of parts.slots (session - 1)) number ∷ o ∷ [])) (busy_is parts session sound e)

-- so it is refused for just what the parts are tested for
pub close_tested : (parts : Parts) (world : World) → world_of parts ≡ world → AreSound parts → (session number : ℕ) → turn_to_close parts.slots parts.marks session number ≡ refusal world (Enter session (Close number))
close_tested parts world seen sound session number =
    sym (close_refusal parts session number sound) ∙ ap (λ w. refusal w (Enter session (Close number))) seen

-- a session that may close is one of those that there are
pub close_there : (parts : Parts) (world : World) → world_of parts ≡ world → AreSound parts → (session number : ℕ) → refusal world (Enter session (Close number)) ≡ None → (1 ≤ session) × (session ≤ length parts.slots)
close_there parts world seen sound session number none =
    let n = subst (λ w. refusal w (Enter session (Close number)) ≡ None) (sym seen) none in
    let exists = tests.not_false _ (not_refused _ faults.NoSession (passed (refusals.no_session (world_of parts) session) _ n).0) in
    let both = tests.and_true (nat_le 1 session) (nat_le session parts.settings.sessions) exists in
    (leb-true 1 session both.0, subst (λ n. session ≤ n) (sym sound.each_session) (leb-true session parts.settings.sessions both.1))

-- What it does.

-- the parts with the mark, and without the session's read phases
abbrev closed_parts : Parts → ℕ → ℕ → Parts
closed_parts parts session number = record parts {
  marks = finite.insert parts.marks session number;
  phases = finite.retain_keys parts.phases (λ key. not (key.0 == session));
}

close_step : (parts : Parts) (session number : ℕ) → refusal (world_of parts) (Enter session (Close number)) ≡ None → Step (world_of parts) (Enter session (Close number)) Closed (world_of (closed_parts parts session number))
close_step parts session number none = taken none (refl, refl)

close_sound : (parts : Parts) (session number : ℕ) → AreSound parts → refusal (world_of parts) (Enter session (Close number)) ≡ None → AreSound (closed_parts parts session number)
close_sound parts session number sound none = record {
  law = keeps_lawful (world_of parts) (Enter session (Close number)) Closed (world_of (closed_parts parts session number)) sound.law (close_step parts session number none);
  each_session = sound.each_session;
  slots_true = λ place slot at. slot_same parts (closed_parts parts session number) refl refl place slot (sound.slots_true place slot at);
  window_size = sound.window_size;
  window_is = sound.window_is;
  log_room = sound.log_room;
  place_room = sound.place_room;
  base_begins = sound.base_begins;
  counter_room = sound.counter_room;
}

pub close_whole : (parts : Parts) (world : World) → world_of parts ≡ world → AreSound parts → (session number : ℕ) → refusal world (Enter session (Close number)) ≡ None
    → (marks : FinMap nat_cmp ℕ) → marks ≡ finite.insert parts.marks session number → (phases : FinMap phase_cmp ReadPhase) → phases ≡ finite.retain_keys parts.phases (λ key. not (key.0 == session))
    → Step world (Enter session (Close number)) Closed (world_of (record parts { marks = marks; phases = phases })) × AreSound (record parts { marks = marks; phases = phases })
close_whole parts world seen sound session number none marks marks_are phases phases_are =
    let free = subst (λ w. refusal w (Enter session (Close number)) ≡ None) (sym seen) none in
    let moved : closed_parts parts session number ≡ record parts { marks = marks; phases = phases } = λ i. record parts { marks = sym marks_are i; phases = sym phases_are i } in (
      subst (λ w. Step w (Enter session (Close number)) Closed (world_of (record parts { marks = marks; phases = phases }))) seen
          (subst (λ p. Step (world_of parts) (Enter session (Close number)) Closed (world_of p)) moved (close_step parts session number free)),
      subst AreSound moved (close_sound parts session number sound free),
    )

-- the entry of a mark is that of the item which it is
pub close_of : (old new : World) (session number : ℕ) (item : Item) (reply : Reply) → Step old (Enter session (Close number)) reply new → Close number ≡ item → Step old (Enter session item) reply new
close_of old new session number item reply step is = subst (λ i. Step old (Enter session i) reply new) is step
