use Rattle.std.proofs.Common.{◌≡◌, drop}
use Rattle.occ_types.specs.PlainData.{question_of}
use Rattle.occ_model.specs.State.{State, apply}
use Rattle.occ_sets.specs.Handles.{kept}
use Rattle.occ_sets.specs.Overlays.{Agrees}
use Rattle.occ_sets.proofs.overlays.write_all.Given as goal

-- the entries agree with a state from which the writes that are left lead to the same end
abbrev pub invariant-loop-place : goal.invariant-loop-place
invariant-loop-place g l = (state : State) → Agrees (question_of l.question) l.fn.seen.entries state → (reached : State) × Agrees (question_of l.question) l.seen.entries reached × (apply reached (drop l.place (kept l.writes)) ≡ apply state (kept l.writes))
