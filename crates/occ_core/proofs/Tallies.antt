-- The totals add up over every step, and there is always room to count one more.
use Rattle.std.proofs.Common.{◌≡◌, ℕ, suc, ◌+◌, ◌^◌, ◌≤◌, Bool, true, false, cond, List, [], ◌∷◌, ◌++◌, length, drop, Option, None, Some, refl, sym, ap, subst, ◌∙◌, arith, length-append, ◌==◌, if◌then◌else◌, MatchOption, slice_get, Result, Ok, Err}
use Rattle.occ_types.specs.declared.fault.Fault.{Fault}
use Rattle.occ_types.specs.declared.fault.Fault.TheVariants as faults
use Rattle.occ_types.specs.Object.{Object}
use Rattle.occ_model.specs.State.{Write, Observation, put}
use Rattle.occ_model.specs.Log.{LogRow, Standing, Case, Open, Writing, Done, Back, is_active}
use Rattle.occ_model.specs.Operations.{Operation, Progress, perform_all, nothing_yet}
use Rattle.occ_model.specs.World.{World, low, latest, turn, next_place, active_count, reads_under}
use Rattle.occ_model.specs.Event.{Request, Alone, Close, Event, Read, Forget, Enter, Decide, WriteOne, Finish, BackUp, SerialEnd, RunAlone, Checkpoint, Reply, Refused, Decided, Finished, EndedBack}
use Rattle.occ_model.specs.Event as events
use Rattle.occ_model.specs.Refusal.{foldable}
use Rattle.occ_model.specs.Replies.{replied}
use Rattle.occ_model.specs.Step.{Step, refused, starved, taken, Taken, entering, validity_of, decided, EndsSerially, RunsAlone, foldable_part, shortened}
use Rattle.occ_model.specs.declared.verdict.Verdict.{Verdict}
use Rattle.occ_model.specs.declared.verdict.Verdict.TheVariants as verdicts
use Rattle.occ_model.specs.declared.verdict.Cause.{Cause}
use Rattle.occ_model.specs.declared.verdict.Cause.TheVariants as causes
use Rattle.occ_model.specs.Validity.{verdict}
use Rattle.occ_core.specs.declared.totals.Totals.{Totals}
use Rattle.occ_core.specs.declared.totals.OneStep.{OneStep}
use Rattle.occ_core.specs.declared.totals.OneStep.TheVariants as steps
use Rattle.occ_core.specs.declared.writing.SingleWrite.{SingleWrite}
use Rattle.occ_core.specs.declared.writing.SingleWrite.TheVariants as writes
use Rattle.occ_core.specs.AtOnce.{committed, backed}
use Rattle.occ_core.specs.Replies.{written_in, wrote}
use Rattle.occ_core.specs.Totals.{no_totals, with_commit, with_alone, with_one_step, with_cause, with_verdict, moved, AddTo, AddUp, CanCount}
use Rattle.occ_core.specs.CoreParts.{Parts, world_of, AreSound}
use Rattle.occ_core.proofs.Counting.{count, count-cons}

-- What a change of the log makes of the number of active rows and of all.

abbrev bit : Standing → ℕ
bit standing = cond (is_active standing) 1 0

-- a row that comes in at the end
count-push : (rows : List LogRow) (row : LogRow) → count (rows ++ row ∷ []) ≡ count rows + bit row.standing
count-push [] row = let first = count-cons row [] in omega arith
count-push (x ∷ xs) row =
    let first = count-cons x (xs ++ row ∷ []) in
    let before = count-cons x xs in
    let again = count-push xs row in
    omega arith

length-push : (rows : List LogRow) (row : LogRow) → length (rows ++ row ∷ []) ≡ length rows + 1
length-push rows row = length-append rows (row ∷ [])

-- the latest row of a session with another standing
count-turn : (session : ℕ) (standing : Standing) (log : List LogRow) (row : LogRow) → latest session log ≡ Some row → count (turn session standing log) + bit row.standing ≡ count log + bit standing
count-turn session standing [] row at = cc
count-turn session standing (x ∷ xs) row at = go (latest session xs) refl (count-turn session standing xs) at
  where
    sums : (now was own other more : ℕ) → now ≡ other + more → was ≡ own + more → now + own ≡ was + other
    sums now was own other more a b = omega arith

    own : (b : Bool) → (if b then Some x else None) ≡ Some row → count ((if b then record x { standing = standing } else x) ∷ xs) + bit row.standing ≡ count (x ∷ xs) + bit standing
    own true is =
        let same : x ≡ row = cc in
        subst (λ (r : LogRow). count (record x { standing = standing } ∷ xs) + bit r.standing ≡ count (x ∷ xs) + bit standing) same
        (sums _ _ _ _ _ (count-cons (record x { standing = standing }) xs) (count-cons x xs))
    own false is = cc

    more : (now was rest after first other own : ℕ) → now ≡ first + after → was ≡ first + rest → after + own ≡ rest + other → now + own ≡ was + other
    more now was rest after first other own a b c = omega arith

    go : (o : Option LogRow) → latest session xs ≡ o → ((later : LogRow) → latest session xs ≡ Some later → count (turn session standing xs) + bit later.standing ≡ count xs + bit standing)
        → (elim o as (λ _. Option LogRow) [ None ↦ if x.session == session then Some x else None | Some later ↦ Some later ]) ≡ Some row
        → count (elim o as (λ _. List LogRow) [ None ↦ (if x.session == session then record x { standing = standing } else x) ∷ xs | Some later ↦ x ∷ turn session standing xs ]) + bit row.standing ≡ count (x ∷ xs) + bit standing
    go None e again is = own (x.session == session) is
    go (Some later) e again is = more _ _ _ _ _ _ _ (count-cons x (turn session standing xs)) (count-cons x xs) (again row (e ∙ is))

length-turn : (session : ℕ) (standing : Standing) (log : List LogRow) → length (turn session standing log) ≡ length log
length-turn session standing [] = refl
length-turn session standing (x ∷ xs) = go (latest session xs) (length-turn session standing xs)
  where
    go : (l : Option LogRow) → length (turn session standing xs) ≡ length xs
        → length (elim l as (λ _. List LogRow) [ None ↦ (if x.session == session then record x { standing = standing } else x) ∷ xs | Some later ↦ x ∷ turn session standing xs ]) ≡ suc (length xs)
    go None e = refl
    go (Some later) e = ap suc e

-- rows that can be folded are not active
idle : (lower : ℕ) (standing : Standing) → foldable lower standing ≡ true → bit standing ≡ 0
idle lower (Open index case) can = cc
idle lower (Writing done) can = cc
idle lower (Done number) can = refl
idle lower (Back cause) can = refl

count-fold : (lower : ℕ) (log : List LogRow) → count (drop (length (foldable_part lower log)) log) ≡ count log
count-fold lower [] = refl
count-fold lower (x ∷ xs) = go (foldable lower x.standing) refl (count-fold lower xs)
  where
    part : Bool → List LogRow
    part b = elim b [ true ↦ x ∷ foldable_part lower xs | false ↦ [] ]

    sums : (now was own rest : ℕ) → now ≡ rest → was ≡ own + rest → own ≡ 0 → now ≡ was
    sums now was own rest a b c = omega arith

    go : (b : Bool) → foldable lower x.standing ≡ b → count (drop (length (foldable_part lower xs)) xs) ≡ count xs → count (drop (length (part b)) (x ∷ xs)) ≡ count (x ∷ xs)
    go true can again = sums _ _ _ _ again (count-cons x xs) (idle lower x.standing can)
    go false can again = refl

length-fold : (lower : ℕ) (log : List LogRow) → length (foldable_part lower log) + length (drop (length (foldable_part lower log)) log) ≡ length log
length-fold lower [] = refl
length-fold lower (x ∷ xs) = go (foldable lower x.standing) (length-fold lower xs)
  where
    part : Bool → List LogRow
    part b = elim b [ true ↦ x ∷ foldable_part lower xs | false ↦ [] ]

    go : (b : Bool) → length (foldable_part lower xs) + length (drop (length (foldable_part lower xs)) xs) ≡ length xs → length (part b) + length (drop (length (part b)) (x ∷ xs)) ≡ suc (length xs)
    go true again = omega arith
    go false again = omega arith

-- What is counted over a step, in numbers alone.
module _ (totals : Totals) (active next folded counter : ℕ) (adds : AddTo totals active next folded counter) where
  entered_more : (now after : ℕ) → now ≡ active + 1 → after ≡ next + 1 → AddTo totals now after folded counter
  entered_more now after one place = record { each = (let e = adds.each in omega arith); begins = adds.begins; numbered = adds.numbered; among = adds.among }

  still : (now after later : ℕ) → now ≡ active → after ≡ next → folded ≤ later → AddTo totals now after later counter
  still now after later same place fold = record { each = (let e = adds.each in omega arith); begins = (let e = adds.begins in omega arith); numbered = adds.numbered; among = adds.among }

  finished_more : (now after : ℕ) → now + 1 ≡ active → after ≡ next → AddTo (with_commit totals) now after folded (counter + 1)
  finished_more now after one place = record { each = (let e = adds.each in omega arith); begins = adds.begins; numbered = (let e = adds.numbered in omega arith); among = (let e = adds.among in omega arith) }

  committed_more : (now after : ℕ) → now ≡ active → after ≡ next + 1 → AddTo (with_commit totals) now after folded (counter + 1)
  committed_more now after same place = record { each = (let e = adds.each in omega arith); begins = adds.begins; numbered = (let e = adds.numbered in omega arith); among = (let e = adds.among in omega arith) }

  ran_more : (now after : ℕ) → now ≡ active → after ≡ next + 1 → AddTo (with_alone totals) now after folded (counter + 1)
  ran_more now after same place = record { each = (let e = adds.each in omega arith); begins = adds.begins; numbered = (let e = adds.numbered in omega arith); among = (let e = adds.among in omega arith) }

  -- by a cause, of a row that was there or comes in
  backed_more : (cause : Cause) (now after : ℕ) → now + next + 1 ≡ active + after → AddTo (with_cause totals cause) now after folded counter
  backed_more causes.Conflict now after one = record { each = (let e = adds.each in omega arith); begins = adds.begins; numbered = adds.numbered; among = adds.among }
  backed_more causes.TooOld now after one = record { each = (let e = adds.each in omega arith); begins = adds.begins; numbered = adds.numbered; among = adds.among }

-- What a step counts.
module _ (totals : Totals) where
  at : (next : World) (said reply : Reply) (new : World) → reply ≡ said → new ≡ next → AddUp (moved totals said) next → AddUp (moved totals reply) new
  at next said reply new is same adds = subst (λ r. AddUp (moved totals r) new) (sym is) (subst (AddUp (moved totals said)) (sym same) adds)

  push_place : (old : World) (row : LogRow) → old.base.place + length (old.log ++ row ∷ []) ≡ next_place old + 1
  push_place old row = let e = length-push old.log row in omega arith

  turn_place : (old : World) (session : ℕ) (standing : Standing) → old.base.place + length (turn session standing old.log) ≡ next_place old
  turn_place old session standing = ap (λ n. old.base.place + n) (length-turn session standing old.log)

  alone_adds : (old new : World) (session number : ℕ) (operations : List Operation) (reply : Reply) → RunsAlone old session number operations reply new → AddUp totals old → AddUp (moved totals reply) new
  alone_adds old new session number operations reply t h =
      let done : Progress = perform_all old.table operations nothing_yet in
      let row : LogRow = entering old session number old.counter done.reads done.writes (Done (old.counter + 1)) in
      at _ _ reply new t.0 t.1 (ran_more totals _ _ _ _ h _ _ (count-push old.log row ∙ (let e : count old.log + 0 ≡ count old.log = omega arith in e)) (push_place old row))

  decided_adds : (old : World) (session : ℕ) (row : LogRow) (verdict : Verdict) → latest session old.log ≡ Some row → bit row.standing ≡ 1 → AddUp totals old
      → AddUp (with_verdict totals verdict) (record old { log = turn session (decided verdict) old.log })
  decided_adds old session row verdicts.Commit there active h =
      still totals _ _ _ _ h _ _ _ (let e = count-turn session (Writing 0) old.log row there in omega arith) (turn_place old session (Writing 0)) (omega arith)
  decided_adds old session row (verdicts.BackUp cause) there active h =
      backed_more totals _ _ _ _ h cause _ _ (let e = count-turn session (Back cause) old.log row there in let p = turn_place old session (Back cause) in omega arith)

  taken_adds : (old new : World) (event : Event) (reply : Reply) → Taken old event reply new → AddUp totals old → AddUp (moved totals reply) new
  taken_adds old new (Read session number start question) reply t h = at _ _ reply new t.0 t.1 h
  taken_adds old new (Forget session number) reply t h = at _ _ reply new t.0 t.1 h
  taken_adds old new (Enter session (Request number start writes)) reply t h =
      let row : LogRow = entering old session number start (reads_under old session number) writes (Open t.0 t.1) in
      at _ _ reply new t.3 t.4 (entered_more totals _ _ _ _ h _ _ (count-push old.log row) (push_place old row))
  taken_adds old new (Enter session (Alone number operations)) reply t h = alone_adds old new session number operations reply t h
  taken_adds old new (Enter session (Close number)) reply t h = at _ _ reply new t.0 t.1 h
  taken_adds old new (Decide session) reply t h = at _ _ reply new t.5 t.6 (decided_adds old session t.0 (verdict t.2) t.3 (ap bit t.4) h)
  taken_adds old new (WriteOne session) reply t h = go (slice_get t.0.writes t.1) t.4
    where
      go : (o : Option Write) → MatchOption o
          ((reply ≡ events.NoMore) × (new ≡ old))
          (λ write. (reply ≡ events.Wrote write.0) × (new ≡ record old { table = put old.table write; log = turn session (Writing (t.1 + 1)) old.log })) → AddUp (moved totals reply) new
      go None w = at _ _ reply new w.0 w.1 h
      go (Some write) w = at _ _ reply new w.0 w.1 (still totals _ _ _ _ h _ _ _
          (let e = count-turn session (Writing (t.1 + 1)) old.log t.0 t.2 in let b = ap bit t.3 in omega arith) (turn_place old session (Writing (t.1 + 1))) (omega arith))
  taken_adds old new (Finish session) reply t h =
      at _ _ reply new t.4 t.5 (finished_more totals _ _ _ _ h _ _
      (let e = count-turn session (Done (old.counter + 1)) old.log t.0 t.2 in let b = ap bit t.3 in omega arith) (turn_place old session (Done (old.counter + 1))))
  taken_adds old new (BackUp session) reply t h = at _ _ reply new t.0 t.1 h
  taken_adds old new (SerialEnd session (Request number start writes)) reply t h = go (validity_of old session number start writes) t
    where
      row : Standing → LogRow
      row standing = entering old session number start (reads_under old session number) writes standing

      go : (v : Verdict) → EndsSerially old session number start writes v reply new → AddUp (moved totals reply) new
      go verdicts.Commit e = at _ _ reply new e.0 e.1 (committed_more totals _ _ _ _ h _ _
          (count-push old.log (row (Done (old.counter + 1))) ∙ (let z : count old.log + 0 ≡ count old.log = omega arith in z)) (push_place old (row (Done (old.counter + 1)))))
      go (verdicts.BackUp cause) e = at _ _ reply new e.0 e.1 (backed_more totals _ _ _ _ h cause _ _
          (let n = count-push old.log (row (Back cause)) in let p = push_place old (row (Back cause)) in omega arith))
  taken_adds old new (SerialEnd session (Alone number operations)) reply t h = alone_adds old new session number operations reply t h
  taken_adds old new (SerialEnd session (Close number)) reply t h = at _ _ reply new t.0 t.1 h
  taken_adds old new (RunAlone session number operations) reply t h = alone_adds old new session number operations reply t h
  taken_adds old new Checkpoint reply t h =
      at _ _ reply new t.0 t.1 (still totals _ _ _ _ h _ _ _ (count-fold (low old) old.log) (let e = length-fold (low old) old.log in omega arith) (omega arith))

  pub step_adds : (old new : World) (event : Event) (reply : Reply) → Step old event reply new → AddUp totals old → AddUp (moved totals reply) new
  step_adds old new event reply (refused fault why said same) h = at old (Refused fault) reply new said same h
  step_adds old new event reply (starved none takes said same) h = at old (Refused faults.Memory) reply new said same h
  step_adds old new event reply (taken none t) h = taken_adds old new event reply t h

-- a step from what a core is seen as
pub counted_over : (totals after : Totals) (here old new : World) (event : Event) (reply : Reply) → here ≡ old → Step old event reply new → after ≡ moved totals reply → AddUp totals here → AddUp after new
counted_over totals after here old new event reply seen step is adds =
    subst (λ t. AddUp t new) (sym is) (step_adds totals old new event reply step (subst (AddUp totals) seen adds))

-- there is room in 64 bits to count one more of each
pub can_count : (parts : Parts) (totals : Totals) → AreSound parts → AddUp totals (world_of parts) → CanCount totals
can_count parts totals sound adds =
    let each = adds.each in
    let among = adds.among in
    let place = sound.place_room in
    let rows = sound.log_room in
    record { committed = omega arith; alone = omega arith; conflicts = omega arith; too_old = omega arith }

-- what is refused counts nothing
pub uncounted : {X : Type 0} (answer : X → Reply) (totals : Totals) (result : Result X Fault) (fault : Fault) → result ≡ Err fault → totals ≡ moved totals (replied answer result)
uncounted answer totals result fault is = ap (λ r. moved totals (replied answer r)) (sym is)

-- a transaction that committed in one step
pub committed_adds : (totals after : Totals) (here old new : World) (session number start : ℕ) (reads : List Observation) (writes : List Write) (by : OneStep) → here ≡ old → new ≡ committed old session number start reads writes
    → after ≡ with_one_step totals by → AddUp totals here → AddUp after new
committed_adds totals after here old new session number start reads writes by seen same is adds =
    subst (λ t. AddUp t new) (sym is) (subst (AddUp (with_one_step totals by)) (sym same) (go by (subst (AddUp totals) seen adds)))
  where
    row : LogRow
    row = entering old session number start reads writes (Done (old.counter + 1))

    go : (by : OneStep) → AddUp totals old → AddUp (with_one_step totals by) (committed old session number start reads writes)
    go steps.SerialEnd h = committed_more totals _ _ _ _ h _ _ (count-push old.log row ∙ (let e : count old.log + 0 ≡ count old.log = omega arith in e)) (push_place totals old row)
    go steps.RunAlone h = ran_more totals _ _ _ _ h _ _ (count-push old.log row ∙ (let e : count old.log + 0 ≡ count old.log = omega arith in e)) (push_place totals old row)

-- one that was backed up in one step
pub backed_adds : (totals after : Totals) (here old new : World) (session number start : ℕ) (reads : List Observation) (writes : List Write) (cause : Cause) → here ≡ old → new ≡ backed old session number start reads writes cause
    → after ≡ with_cause totals cause → AddUp totals here → AddUp after new
backed_adds totals after here old new session number start reads writes cause seen same is adds =
    subst (λ t. AddUp t new) (sym is) (subst (AddUp (with_cause totals cause)) (sym same) (go (subst (AddUp totals) seen adds)))
  where
    row : LogRow
    row = entering old session number start reads writes (Back cause)

    go : AddUp totals old → AddUp (with_cause totals cause) (backed old session number start reads writes cause)
    go h = backed_more totals _ _ _ _ h cause _ _ (let n = count-push old.log row in let p = push_place totals old row in omega arith)

-- a store that begins at a place
pub none_add : (world : World) → world.log ≡ [] → AddUp (no_totals world.base.place) world
none_add world empty = record { each = (let a = ap count empty in let l = ap length empty in omega arith); begins = omega arith; numbered = omega arith; among = omega arith }

-- a single write counts nothing
pub wrote_uncounted : (totals : Totals) (world : World) (write : SingleWrite) → totals ≡ moved totals (wrote world write)
wrote_uncounted totals world (writes.Wrote row write) = go (written_in world row write)
  where
    go : (o : Option Object) → totals ≡ moved totals (elim o as (λ _. Reply) [ None ↦ events.NoMore | Some object ↦ events.Wrote object ])
    go None = refl
    go (Some object) = refl
wrote_uncounted totals world writes.NoMore = refl

-- a reply counts nothing where none of its answers does
pub quiet : {X : Type 0} (answer : X → Reply) (totals : Totals) (result : Result X Fault) → ((x : X) → totals ≡ moved totals (answer x)) → totals ≡ moved totals (replied answer result)
quiet answer totals (Ok x) none = none x
quiet answer totals (Err fault) none = refl
