use Rattle.std.proofs.Common.{◌≡◌, ◌<◌, ◌+◌, ℕ, suc, None, length, sym, ap, subst, ◌∙◌, arith, slice_get, nat_lt, if◌then◌else◌}
use Rattle.std.specs.Prelude.{unwrap_or}
use Rattle.std.proofs.lemmas.Bool.{lt-ltb, le-ltb}
use Rattle.std.specs.FinMap as finite
use Rattle.occ_model.specs.Log.{last_folded}
use Rattle.occ_log.specs.SessionStates.{Slot}
use Rattle.occ_log.proofs.Places.{length-set, slice_get-below}
use Rattle.occ_core.proofs.Openings.{idle_at, idle_length}
use Rattle.occ_core.proofs.Resumptions.{slot_had, slot_stays}
use Rattle.occ_core.proofs.resuming.slots_of.Goals as goal
use Rattle.occ_core.proofs.resuming.slots_of.Goals.{in-Some, in_default}

pub loop-place-init : goal.loop-place-init
loop-place-init g c = record {
  each = ap length c.in_ok-states.ensures ∙ idle_length c.args.sessions;
  idle = λ place slot at.
      idle_at c.args.sessions place slot (ap (λ s. slice_get s place) (sym c.in_ok-states.ensures) ∙ at)
      ∙ ap (λ b. record { last = if b then last_folded c.args.base.now.base (suc place) else 0; hold = None }) (sym (le-ltb place 0 (omega arith)));
}

pub loop-place-preserved : goal.loop-place-preserved
loop-place-preserved g c =
    let base = c.args.base.now.base in
    let place = c.loop-place.place in
    let at_one : place + 1 ≡ suc place = omega arith in
    elim c.match-last.branch [
      | in-Some w ↦ record {
        each = ap length (w.states-is ∙ w.pass.ensures) ∙ length-set c.loop-place.states place _ ∙ c.loop-place.invariant.each;
        idle = slot_had base c.loop-place.states place c.match-last.states w.in-Some.number
            (ap (λ o. unwrap_or o 0) (w.in-Some.ensures ∙ ap (finite.get base.last) at_one)) (w.states-is ∙ w.pass.ensures) c.loop-place.invariant.idle;
      }
      | in_default w ↦ record {
        each = ap length w.states-is ∙ c.loop-place.invariant.each;
        idle = λ k slot there.
            slot_stays base c.loop-place.states place (sym (ap (λ o. unwrap_or o 0) (w.in_default.ensures ∙ ap (finite.get base.last) at_one))) c.loop-place.invariant.idle k slot (ap (λ s. slice_get s k) (sym w.states-is) ∙ there);
      }
    ]

pub returns : goal.returns
returns g c = record {
  each = c.loop-place.invariant.each;
  idle = λ place slot at.
      let below = slice_get-below c.loop-place.states place slot at in
      let all = c.loop-place.invariant.each in
      c.loop-place.invariant.idle place slot at
      ∙ ap (λ b. record { last = if b then last_folded c.args.base.now.base (suc place) else 0; hold = None }) (lt-ltb place c.loop-place.place (omega arith));
}
