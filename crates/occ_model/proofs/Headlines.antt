-- The headline, and two short laws.
use Rattle.std.proofs.Common.{◌≡◌, sym, ◌∙◌}
use Rattle.occ_types.specs.declared.fault.Fault.{Fault}
use Rattle.occ_model.specs.Log.{serial}
use Rattle.occ_model.specs.World.{World, resumed}
use Rattle.occ_model.specs.Event.{Request, Alone, Close, Event, Read, Forget, Enter, Decide, WriteOne, Finish, BackUp, SerialEnd, RunAlone, Checkpoint, Reply, Refused}
use Rattle.occ_model.specs.State.{Write}
use Rattle.occ_model.specs.Step.{refused, starved, taken, Taken, EndsSerially, validity_of}
use Rattle.occ_model.specs.Laws.{Headline, VerdictIsValidity, RefusalsLeave}
use Rattle.occ_model.specs.declared.verdict.Verdict.{Verdict}
use Rattle.occ_model.specs.declared.verdict.Verdict.TheVariants as verdicts
use Rattle.std.specs.Prelude.{Option, None, Some, slice_get, MatchOption}
use Rattle.occ_model.proofs.AtEntry.{verdict-validity}
use Rattle.occ_model.proofs.Steps.{keeps_run, invariant_resumed, audited, settled_quiet}

pub headline : Headline
headline settings base counter events world run =
    let inv = keeps_run events (resumed settings base counter) world (invariant_resumed settings base counter) run in
    (audited world inv, λ quiet. sym (settled_quiet world.table world.log quiet) ∙ inv.replayed)

pub verdict_is_validity : VerdictIsValidity
verdict_is_validity = verdict-validity

-- no event that is taken is replied to as a refusal
pub not_told : (old new : World) (event : Event) (fault : Fault) → Taken old event (Refused fault) new → ⊥
not_told old new (Read session number start question) fault t = let e = t.0 in cc e
not_told old new (Forget session number) fault t = let e = t.0 in cc e
not_told old new (Enter session (Request number start writes)) fault t = let e = t.3 in cc e
not_told old new (Enter session (Alone number operations)) fault t = let e = t.0 in cc e
not_told old new (Enter session (Close number)) fault t = let e = t.0 in cc e
not_told old new (Decide session) fault t = let e = t.5 in cc e
not_told old new (WriteOne session) fault t = go (slice_get t.0.writes t.1) t.4
  where
    go : (o : Option Write) → MatchOption o ((Refused fault ≡ Reply.NoMore) × (new ≡ old))
        (λ write. (Refused fault ≡ Reply.Wrote write.0) × (new ≡ record old {
          table = Rattle.occ_model.specs.State.put old.table write;
          log = Rattle.occ_model.specs.World.turn session (Rattle.occ_model.specs.Log.Standing.Writing (Prim.Native.Nat.◌+◌ t.1 1)) old.log;
        })) → ⊥
    go None w = let e = w.0 in cc e
    go (Some write) w = let e = w.0 in cc e
not_told old new (Finish session) fault t = let e = t.4 in cc e
not_told old new (BackUp session) fault t = let e = t.0 in cc e
not_told old new (SerialEnd session (Request number start writes)) fault t = go (validity_of old session number start writes) t
  where
    go : (v : Verdict) → EndsSerially old session number start writes v (Refused fault) new → ⊥
    go verdicts.Commit w = let e = w.0 in cc e
    go (verdicts.BackUp cause) w = let e = w.0 in cc e
not_told old new (SerialEnd session (Alone number operations)) fault t = let e = t.0 in cc e
not_told old new (SerialEnd session (Close number)) fault t = let e = t.0 in cc e
not_told old new (RunAlone session number operations) fault t = let e = t.0 in cc e
not_told old new Checkpoint fault t = let e = t.0 in cc e

pub refusals_leave : RefusalsLeave
refusals_leave old new event fault (refused other is told same) = same
refusals_leave old new event fault (starved none takes told same) = same
refusals_leave old new event fault (taken none t) = absurd (not_told old new event fault t)
