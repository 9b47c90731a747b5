-- How many rows each event brings into the log, those that were folded counted too.
use Rattle.std.proofs.Common.{◌≡◌, ℕ, suc, ◌+◌, List, [], ◌∷◌, ◌++◌, length, drop, Option, None, Some, refl, ap, ◌∙◌, arith, length-append}
use Rattle.std.specs.Prelude.{MatchOption, slice_get, if◌then◌else◌, ◌==◌}
use Rattle.occ_types.specs.declared.fault.Fault.{Fault}
use Rattle.occ_types.specs.declared.fault.Fault.TheVariants as faults
use Rattle.occ_model.specs.State.{Write, put}
use Rattle.occ_model.specs.Log.{LogRow, Standing, Writing, Done}
use Rattle.occ_model.specs.Operations.{Operation}
use Rattle.occ_model.specs.Validity.{verdict}
use Rattle.occ_model.specs.World.{World, low, next_place, latest, turn}
use Rattle.occ_model.specs.Event.{Request, Alone, Close, Event, Read, Forget, Enter, Decide, WriteOne, Finish, BackUp, SerialEnd, RunAlone, Checkpoint, Reply, Refused, Wrote, NoMore}
use Rattle.occ_model.specs.Step.{Step, Run, refused, starved, taken, Taken, decided, validity_of, EndsSerially, RunsAlone, foldable_part, shortened}
use Rattle.occ_model.specs.declared.verdict.Verdict.{Verdict}
use Rattle.occ_model.specs.declared.verdict.Verdict.TheVariants as verdicts
use Rattle.occ_model.proofs.Folds.{part_rest}
use Rattle.occ_history.specs.History.{Happened}
use Rattle.occ_store.specs.Locked.{rows_entered, rows_by, rows_in}

none_come : (event : Event) (fault : Fault) → rows_by event (Refused fault) ≡ 0
none_come (Read session number start question) fault = refl
none_come (Forget session number) fault = refl
none_come (Enter session item) fault = refl
none_come (Decide session) fault = refl
none_come (WriteOne session) fault = refl
none_come (Finish session) fault = refl
none_come (BackUp session) fault = refl
none_come (SerialEnd session item) fault = refl
none_come (RunAlone session number operations) fault = refl
none_come Checkpoint fault = refl

length-turn : (session : ℕ) (standing : Standing) (log : List LogRow) → length (turn session standing log) ≡ length log
length-turn session standing [] = refl
length-turn session standing (x ∷ xs) = go (latest session xs) (length-turn session standing xs)
  where
    go : (l : Option LogRow) → length (turn session standing xs) ≡ length xs
        → length (elim l as (λ _. List LogRow) [ None ↦ (if x.session == session then record x { standing = standing } else x) ∷ xs | Some later ↦ x ∷ turn session standing xs ]) ≡ suc (length xs)
    go None e = refl
    go (Some later) e = ap suc e

length-fold : (world : World) → next_place (shortened world) ≡ next_place world
length-fold world =
    let whole = part_rest (low world) world.log in
    let e = length-append (foldable_part (low world) world.log) (drop (length (foldable_part (low world) world.log)) world.log) in
    let f = ap length whole in
    omega arith

turned : (world : World) (session : ℕ) (standing : Standing) → world.base.place + length (turn session standing world.log) ≡ next_place world
turned world session standing = ap (λ n. world.base.place + n) (length-turn session standing world.log)

grown : (world : World) (row : LogRow) → world.base.place + length (world.log ++ row ∷ []) ≡ next_place world + 1
grown world row = let e = length-append world.log (row ∷ []) in omega arith

stay : (old new : World) → next_place new ≡ next_place old → next_place new ≡ next_place old + 0
stay old new same = omega arith

-- one comes, by a reply that says so
one : (old new : World) (reply told : Reply) → rows_entered told ≡ 1 → reply ≡ told → next_place new ≡ next_place old + 1 → next_place new ≡ next_place old + rows_entered reply
one old new reply told says is grows = let count : rows_entered reply ≡ 1 = ap rows_entered is ∙ says in omega arith

none : (old new : World) (reply told : Reply) → rows_entered told ≡ 0 → reply ≡ told → next_place new ≡ next_place old → next_place new ≡ next_place old + rows_entered reply
none old new reply told says is stays = let count : rows_entered reply ≡ 0 = ap rows_entered is ∙ says in omega arith

alone : (old new : World) (session number : ℕ) (operations : List Operation) (reply : Reply) → RunsAlone old session number operations reply new → next_place new ≡ next_place old + rows_entered reply
alone old new session number operations reply t = one old new reply _ refl t.0 (ap next_place t.1 ∙ grown old _)

serially : (old new : World) (session number start : ℕ) (writes : List Write) (reply : Reply) (v : Verdict) → EndsSerially old session number start writes v reply new → next_place new ≡ next_place old + rows_entered reply
serially old new session number start writes reply verdicts.Commit t = one old new reply _ refl t.0 (ap next_place t.1 ∙ grown old _)
serially old new session number start writes reply (verdicts.BackUp cause) t = one old new reply _ refl t.0 (ap next_place t.1 ∙ grown old _)

rows_taken : (old new : World) (event : Event) (reply : Reply) → Taken old event reply new → next_place new ≡ next_place old + rows_by event reply
rows_taken old new (Read session number start question) reply t = stay old new (ap next_place t.1)
rows_taken old new (Forget session number) reply t = stay old new (ap next_place t.1)
rows_taken old new (Enter session (Request number start writes)) reply t = one old new reply _ refl t.3 (ap next_place t.4 ∙ grown old _)
rows_taken old new (Enter session (Alone number operations)) reply t = alone old new session number operations reply t
rows_taken old new (Enter session (Close number)) reply t = none old new reply _ refl t.0 (ap next_place t.1)
rows_taken old new (Decide session) reply t = stay old new (ap next_place t.6 ∙ turned old session (decided (verdict t.2)))
rows_taken old new (WriteOne session) reply t = stay old new (go (slice_get t.0.writes t.1) t.4)
  where
    go : (w : Option Write) → MatchOption w ((reply ≡ NoMore) × (new ≡ old))
        (λ write. (reply ≡ Wrote write.0) × (new ≡ record old { table = put old.table write; log = turn session (Writing (t.1 + 1)) old.log }))
        → next_place new ≡ next_place old
    go None w = ap next_place w.1
    go (Some write) w = ap next_place w.1 ∙ turned old session (Writing (t.1 + 1))
rows_taken old new (Finish session) reply t = stay old new (ap next_place t.5 ∙ turned old session (Done (old.counter + 1)))
rows_taken old new (BackUp session) reply t = stay old new (ap next_place t.1)
rows_taken old new (SerialEnd session (Request number start writes)) reply t = serially old new session number start writes reply (validity_of old session number start writes) t
rows_taken old new (SerialEnd session (Alone number operations)) reply t = alone old new session number operations reply t
rows_taken old new (SerialEnd session (Close number)) reply t = none old new reply _ refl t.0 (ap next_place t.1)
rows_taken old new (RunAlone session number operations) reply t = alone old new session number operations reply t
rows_taken old new Checkpoint reply t = stay old new (ap next_place t.1 ∙ length-fold old)

-- Each step brings so many rows.
pub rows_come : (old new : World) (event : Event) (reply : Reply) → Step old event reply new → next_place new ≡ next_place old + rows_by event reply
rows_come old new event reply (refused fault is told same) =
    let count : rows_by event reply ≡ 0 = ap (rows_by event) told ∙ none_come event fault in
    let stays = ap next_place same in
    omega arith
rows_come old new event reply (starved free takes told same) =
    let count : rows_by event reply ≡ 0 = ap (rows_by event) told ∙ none_come event faults.Memory in
    let stays = ap next_place same in
    omega arith
rows_come old new event reply (taken free t) = rows_taken old new event reply t

-- A history brings what stands in the log then and did not at its beginning.
pub rows_ran : (old new : World) (story : List Happened) → Run old story new → next_place new ≡ next_place old + rows_in story
rows_ran old new [] ran = let same = ap next_place ran in omega arith
rows_ran old new (first ∷ others) ran =
    let one = rows_come old ran.0 first.0 first.1 ran.1 in
    let more = rows_ran ran.0 new others ran.2 in
    omega arith
