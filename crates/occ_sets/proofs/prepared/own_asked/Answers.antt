use Rattle.std.proofs.Common.{◌≡◌, ◌<◌, length, refl, sym, subst, ap, ◌∙◌, arith}
use Rattle.std.specs.Prelude.{[], drop}
use Rattle.std.proofs.lemmas.List.{drop_all}
use Rattle.occ_types.specs.PlainData.{question_of}
use Rattle.occ_model.specs.State.{put, apply}
use Rattle.occ_sets.specs.Handles.{kept}
use Rattle.occ_sets.specs.Merging.{Led}
use Rattle.occ_sets.proofs.Agreement.{at_place, drop-slice_get}
use Rattle.occ_sets.proofs.Leading.{led-none}
use Rattle.occ_sets.proofs.prepared.own_asked.Goals as goal

-- no write is noted yet
pub loop-place-init : goal.loop-place-init
loop-place-init g c = λ state. (state, led-none (question_of c.args.question.now) c.new-own.result.entries state c.new-own.ensures.empty, refl)

-- the next write is noted
pub loop-place-preserved : goal.loop-place-preserved
loop-place-preserved g c = λ state.
    let before = c.loop-place.invariant state in
    let within : c.loop-place.place < length (kept c.args.writes.now) = omega arith in
    let here = at_place (kept c.args.writes.now) c.loop-place.place within in (
      put before.0 here.0,
      c.in_ok-note_write.ensures here.0 here.1 state before.0 before.1,
      sym (ap (apply before.0) (drop-slice_get (kept c.args.writes.now) c.loop-place.place here.0 here.1)) ∙ before.2,
    )

-- all writes are noted
pub returns : goal.returns
returns g c = λ state.
    let before = c.loop-place.invariant state in
    let none : drop c.loop-place.place (kept c.args.writes.now) ≡ [] = drop_all c.loop-place.place (kept c.args.writes.now) (omega arith) in
    subst (λ s. Led (question_of c.args.question.now) c.loop-place.own.entries state s) (sym (ap (apply before.0) none) ∙ before.2) before.1
