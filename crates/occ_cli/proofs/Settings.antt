-- No step of a store changes how it was opened.
use Rattle.std.proofs.Common.{◌≡◌, ℕ, ◌+◌, List, [], ◌∷◌, Option, Some, None, refl, ap, ◌∙◌, inl, inr, MatchOption, slice_get}
use Rattle.occ_cli.proofs.Common.{Write, put, Writing, World, turn, Request, Event, Enter, Decide, WriteOne, Finish, SerialEnd, Reply, Wrote, NoMore, Step, Taken, EndsSerially, starved, taken, validity_of, Replayed, AtMostOneStep, Plays, Turn, PlaysAll}
use Rattle.occ_model.specs.Step.{refused}
use Rattle.occ_model.specs.declared.verdict.Verdict.{Verdict}
use Rattle.occ_model.specs.declared.verdict.Verdict.TheVariants as verdicts
use Rattle.occ_text.specs.Steps as steps
use Rattle.occ_cli.specs.Answers.{Answer}
use Rattle.occ_cli.proofs.StoreSteps.{plays_steps}

abbrev AreKept : World → World → Type 0
AreKept old new = new.settings ≡ old.settings

same_world : (old mid new : World) → AreKept old mid → new ≡ mid → AreKept old new
same_world old mid new kept is = ap (λ (w : World). w.settings) is ∙ kept

writes_keep : (old : World) (session done : ℕ) (reply : Reply) (new : World) (found : Option Write)
    → MatchOption found ((reply ≡ NoMore) × (new ≡ old)) (λ write. (reply ≡ Wrote write.0) × (new ≡ record old { table = put old.table write; log = turn session (Writing (done + 1)) old.log }))
    → AreKept old new
writes_keep old session done reply new None h = same_world old old new refl h.1
writes_keep old session done reply new (Some write) h = same_world old (record old { table = put old.table write; log = turn session (Writing (done + 1)) old.log }) new refl h.1

ends_keep : (old : World) (session number start : ℕ) (writes : List Write) (verdict : Verdict) (reply : Reply) (new : World) → EndsSerially old session number start writes verdict reply new → AreKept old new
ends_keep old session number start writes verdicts.Commit reply new h = ap (λ (w : World). w.settings) h.1
ends_keep old session number start writes (verdicts.BackUp cause) reply new h = ap (λ (w : World). w.settings) h.1

taken_keeps : (old : World) (event : Event) (reply : Reply) (new : World) → Taken old event reply new → AreKept old new
taken_keeps old (Enter session (Request number start writes)) reply new h = ap (λ (w : World). w.settings) h.4
taken_keeps old (Decide session) reply new h = ap (λ (w : World). w.settings) h.6
taken_keeps old (WriteOne session) reply new h = writes_keep old session h.1 reply new (slice_get h.0.writes h.1) h.4
taken_keeps old (Finish session) reply new h = ap (λ (w : World). w.settings) h.5
taken_keeps old (SerialEnd session (Request number start writes)) reply new h = ends_keep old session number start writes (validity_of old session number start writes) reply new h
taken_keeps old event reply new h = ap (λ (w : World). w.settings) h.1

step_keeps : (old : World) (event : Event) (reply : Reply) (new : World) → Step old event reply new → AreKept old new
step_keeps old event reply new (refused fault first is same) = same_world old old new refl same
step_keeps old event reply new (starved none takes is same) = same_world old old new refl same
step_keeps old event reply new (taken none does) = taken_keeps old event reply new does

at_most_keeps : (old new : World) → AtMostOneStep old new → AreKept old new
at_most_keeps old new (inl same) = same_world old old new refl same
at_most_keeps old new (inr h) = step_keeps old h.0 h.1 new h.2

-- nor does one of a replay
pub plays_keep : (old : Replayed) (step : steps.Step) (answer : Answer) (new : Replayed) → Plays old step answer new → new.world.settings ≡ old.world.settings
plays_keep old step answer new h = at_most_keeps old.world new.world (plays_steps old step answer new h)

pub plays_all_keep : (old : Replayed) (turns : List Turn) (new : Replayed) → PlaysAll old turns new → new.world.settings ≡ old.world.settings
plays_all_keep old [] new h = ap (λ (r : Replayed). r.world.settings) h
plays_all_keep old (step ∷ turns) new h =
    plays_all_keep h.0 turns new h.3 ∙ plays_keep old step.0 step.1 h.0 h.1
