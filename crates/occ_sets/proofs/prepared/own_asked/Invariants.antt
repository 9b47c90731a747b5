use Rattle.std.proofs.Common.{◌≡◌, drop}
use Rattle.occ_types.specs.PlainData.{question_of}
use Rattle.occ_model.specs.State.{State, apply}
use Rattle.occ_sets.specs.Handles.{kept}
use Rattle.occ_sets.specs.Merging.{Led}
use Rattle.occ_sets.proofs.prepared.own_asked.Given as goal

-- the writes so far lead to a state from which those that are left lead to the same end
abbrev pub invariant-loop-place : goal.invariant-loop-place
invariant-loop-place g l = (state : State) → (reached : State) × Led (question_of l.question) l.own.entries state reached × (apply reached (drop l.place (kept l.writes)) ≡ apply state (kept l.writes))
