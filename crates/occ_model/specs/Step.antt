-- The steps of the store. One step is one holding of its lock.
use Rattle.std.specs.Prelude.{◌≡◌, ℕ, ◌+◌, true, false, not, ◌==◌, List, [], ◌∷◌, ◌++◌, length, drop, None, Some, MatchOption, slice_get}
use Rattle.std.specs.FinMap as finite
use Rattle.std.specs.FinMap.{FinMap}
use Rattle.std.specs.FinSet as sets
use Rattle.std.specs.Ordering.{nat_cmp}
use Rattle.occ_types.specs.Question.{Question}
use Rattle.occ_types.specs.declared.fault.Fault.{Fault}
use Rattle.occ_types.specs.declared.fault.Fault.TheVariants as faults
use Rattle.occ_model.specs.State.{Write, Observation, answer, put, apply}
use Rattle.occ_model.specs.Log.{LogRow, Standing, Open, Writing, Done, Back, Case, Base, serial}
use Rattle.occ_model.specs.Validity.{IsCaseAt, validity, verdict}
use Rattle.occ_model.specs.Operations.{Operation, perform_all, nothing_yet}
use Rattle.occ_model.specs.World.{World, low, next_place, latest, turn, last_entered, reads_under, questions_under}
use Rattle.occ_model.specs.Event.{Request, Alone, Close, Event, Read, Forget, Enter, Decide, WriteOne, Finish, BackUp, SerialEnd, RunAlone, Checkpoint, Reply, Refused, Answered, Forgotten, Entered, Closed, Decided, Wrote, NoMore, Finished, BackedUp, EndedBack, RanAlone, Folded}
use Rattle.occ_model.specs.Refusal.{refusal, takes_memory, foldable}
use Rattle.occ_model.specs.declared.verdict.Verdict.{Verdict}
use Rattle.occ_model.specs.declared.verdict.Verdict.TheVariants as verdicts

-- the row that enters for a session
abbrev pub entering : World → ℕ → ℕ → ℕ → List Observation → List Write → Standing → LogRow
entering world session number start reads writes standing = record {
  place = next_place world;
  session = session;
  number = number;
  start = start;
  finish = world.counter;
  reads = reads;
  writes = writes;
  standing = standing;
}

-- whether a case is the one that the entry of a request fixes
abbrev pub IsCaseOf : World → ℕ → ℕ → ℕ → List Write → Case → Type 0
IsCaseOf world session number start writes case =
    IsCaseAt world.log world.counter (low world) start (questions_under world session number) writes case

-- the validity of a request at its entry
abbrev pub validity_of : World → ℕ → ℕ → ℕ → List Write → Verdict
validity_of world session number start writes =
    validity world.log world.counter (low world) start (questions_under world session number) writes

-- The read phase gets the question with the table's answer, and begins with it where there is none.
abbrev pub read_more : World → ℕ → ℕ → ℕ → Question → World
read_more world session number start question = record world {
  phases = finite.insert world.phases (session, number) (record {
    start = start;
    reads = reads_under world session number ++ (question, answer question world.table) ∷ [];
  });
}

-- A request's row stands at the end of the log, with the read phase of its number.
abbrev pub appended : World → ℕ → ℕ → ℕ → List Write → Standing → World
appended world session number start writes standing = record world {
  log = world.log ++ entering world session number start (reads_under world session number) writes standing ∷ [];
  phases = finite.remove world.phases (session, number);
}

-- the first critical section (Kung and Robinson, section 5)
abbrev pub entered : World → ℕ → ℕ → ℕ → List Write → ℕ → Case → World
entered world session number start writes index case =
    let next = appended world session number start writes (Open index case) in
    record next { held = sets.insert world.held session }

abbrev pub closed : World → ℕ → ℕ → World
closed world session number = record world {
  marks = finite.insert world.marks session number;
  phases = finite.retain_keys world.phases (λ p. not (p.0 == session));
}

-- what a verdict makes of an Open row
abbrev pub decided : Verdict → Standing
decided verdicts.Commit = Writing 0
decided (verdicts.BackUp cause) = Back cause

-- one single write of a row with so many done, or none where none is left
abbrev pub WritesOne : World → ℕ → LogRow → ℕ → Reply → World → Type 0
WritesOne old session row done reply new = MatchOption (slice_get row.writes done)
    ((reply ≡ NoMore) × (new ≡ old))
    (λ write. (reply ≡ Wrote write.0)
    × (new ≡ record old { table = put old.table write; log = turn session (Writing (done + 1)) old.log }))

-- the second critical section (Kung and Robinson, section 5)
abbrev pub finished : World → ℕ → World
finished world session = record world {
  log = turn session (Done (world.counter + 1)) world.log;
  counter = world.counter + 1;
  held = sets.remove world.held session;
}

-- Serial validation: entry, test, all writes and the end in one step (Kung and Robinson, section 4).
abbrev pub EndsSerially : World → ℕ → ℕ → ℕ → List Write → Verdict → Reply → World → Type 0
EndsSerially old session number start writes verdicts.Commit reply new =
    let next = appended old session number start writes (Done (old.counter + 1)) in
    (reply ≡ Finished (old.counter + 1))
    × (new ≡ record next { table = apply old.table writes; counter = old.counter + 1 })
EndsSerially old session number start writes (verdicts.BackUp cause) reply new =
    (reply ≡ EndedBack cause) × (new ≡ appended old session number start writes (Back cause))

-- A list of operations read, written and committed in one step.
abbrev pub RunsAlone : World → ℕ → ℕ → List Operation → Reply → World → Type 0
RunsAlone old session number operations reply new =
    let done = perform_all old.table operations nothing_yet in
    (reply ≡ RanAlone (old.counter + 1) done.answers)
    × (new ≡ record old {
      log = old.log ++ entering old session number old.counter done.reads done.writes (Done (old.counter + 1)) ∷ [];
      table = apply old.table done.writes;
      counter = old.counter + 1;
    })

-- the longest beginning of the log that can be folded
abbrev pub foldable_part : ℕ → List LogRow → List LogRow
foldable_part low [] = []
foldable_part low (row ∷ rows) = elim (foldable low row.standing) [ true ↦ row ∷ foldable_part low rows | false ↦ [] ]

-- a base with some rows more
abbrev pub folded_numbers : FinMap nat_cmp ℕ → List LogRow → FinMap nat_cmp ℕ
folded_numbers last [] = last
folded_numbers last (row ∷ rows) = folded_numbers (finite.insert last row.session row.number) rows

abbrev pub folded : Base → List LogRow → Base
folded base rows = record {
  state = serial base.state rows;
  last = folded_numbers base.last rows;
  place = base.place + length rows;
}

abbrev pub shortened : World → World
shortened world =
    let part = foldable_part (low world) world.log in
    record world { base = folded world.base part; log = drop (length part) world.log }

-- What an event does where nothing refuses it. What a case doesn't name stays.
abbrev pub Taken : World → Event → Reply → World → Type 0
Taken old (Read session number start question) reply new =
    (reply ≡ Answered (answer question old.table)) × (new ≡ read_more old session number start question)
Taken old (Forget session number) reply new =
    (reply ≡ Forgotten (finite.contains_key old.phases (session, number)))
    × (new ≡ record old { phases = finite.remove old.phases (session, number) })
Taken old (Enter session (Request number start writes)) reply new =
    (index : ℕ) × (case : Case) × IsCaseOf old session number start writes case
    × (reply ≡ Entered (next_place old) index) × (new ≡ entered old session number start writes index case)
Taken old (Enter session (Alone number operations)) reply new = RunsAlone old session number operations reply new
Taken old (Enter session (Close number)) reply new = (reply ≡ Closed) × (new ≡ closed old session number)
Taken old (Decide session) reply new =
    (row : LogRow) × (index : ℕ) × (case : Case) × (latest session old.log ≡ Some row) × (row.standing ≡ Open index case)
    × (reply ≡ Decided (verdict case)) × (new ≡ record old { log = turn session (decided (verdict case)) old.log })
Taken old (WriteOne session) reply new =
    (row : LogRow) × (done : ℕ) × (latest session old.log ≡ Some row) × (row.standing ≡ Writing done)
    × WritesOne old session row done reply new
Taken old (Finish session) reply new =
    (row : LogRow) × (done : ℕ) × (latest session old.log ≡ Some row) × (row.standing ≡ Writing done)
    × (reply ≡ Finished (old.counter + 1)) × (new ≡ finished old session)
Taken old (BackUp session) reply new =
    (reply ≡ BackedUp (last_entered old session)) × (new ≡ record old { held = sets.remove old.held session })
Taken old (SerialEnd session (Request number start writes)) reply new =
    EndsSerially old session number start writes (validity_of old session number start writes) reply new
Taken old (SerialEnd session (Alone number operations)) reply new = RunsAlone old session number operations reply new
Taken old (SerialEnd session (Close number)) reply new = (reply ≡ Closed) × (new ≡ closed old session number)
Taken old (RunAlone session number operations) reply new = RunsAlone old session number operations reply new
Taken old Checkpoint reply new =
    (reply ≡ Folded (length (foldable_part (low old) old.log))) × (new ≡ shortened old)

-- One step: the first fault that applies is answered and nothing moves; else memory may be wanting, where the event takes some, and nothing moves; else the event does what it does.
pub data Step (old : World) (event : Event) (reply : Reply) (new : World) : Type 0 where
  refused : (fault : Fault) → refusal old event ≡ Some fault → reply ≡ Refused fault → new ≡ old → Step old event reply new
  starved : refusal old event ≡ None → takes_memory old event ≡ true → reply ≡ Refused faults.Memory → new ≡ old → Step old event reply new
  taken : refusal old event ≡ None → Taken old event reply new → Step old event reply new

-- a run: events with their replies, each a step
abbrev pub Run : World → List (Event × Reply) → World → Type 0
Run old [] new = new ≡ old
Run old (first ∷ others) new = (next : World) × Step old first.0 first.1 next × Run next others new
