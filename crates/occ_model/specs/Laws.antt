-- The laws: what holds of the definitions, for every store. Each is the contract of a function of this crate.
use Rattle.std.specs.Prelude.{◌≡◌, ℕ, suc, ◌+◌, List, [], ◌∷◌, ◌++◌, length, Some, None, true}
use Rattle.std.specs.List.{AllByRecursion}
use Rattle.occ_types.specs.Question.{Question}
use Rattle.occ_types.specs.declared.fault.Fault.{Fault}
use Rattle.occ_model.specs.State.{Write}
use Rattle.occ_model.specs.Log.{LogRow, Standing, Open, Writing, Done, Back, Case, Base, last_folded, questions, Audited, Quiet, serial}
use Rattle.occ_model.specs.Validity.{validity, IsCaseAt, verdict}
use Rattle.occ_model.specs.World.{Settings, World, opened, resumed, low, next_place, latest}
use Rattle.occ_model.specs.Event.{Request, Event, Enter, Decide, WriteOne, Finish, SerialEnd, Checkpoint, Reply, Refused, Entered, Decided, Wrote, Finished, BackedUp, Folded}
use Rattle.occ_model.specs.Refusal.{refusal, foldable}
use Rattle.occ_model.specs.Step.{Step, Run, Taken, validity_of, foldable_part}
use Rattle.occ_model.specs.Invariant.{Invariant}
use Rattle.occ_model.specs.Content.{IsInSchema}
use Rattle.occ_model.specs.Poll.{poll, Rises}
use Rattle.occ_model.specs.declared.verdict.Verdict.{Verdict}
use Rattle.occ_model.specs.declared.verdict.Verdict.TheVariants as verdicts

-- The headline. After every run, for every number of sessions and every window, from the empty store or from any base: the log is in order and explained, and the table with the rest of each open write phase is the serial replay of the log; where no write phase is open, the table itself is.
abbrev pub Headline : Type 0
Headline = (settings : Settings) (base : Base) (counter : ℕ) (events : List (Event × Reply)) (world : World)
    → Run (resumed settings base counter) events world
    → Audited world.base world.marks world.table world.log
    × (Quiet world.log → world.table ≡ serial world.base.state world.log)

-- The verdict on the case that an entry fixes is validity at that entry, cause included.
abbrev pub VerdictIsValidity : Type 0
VerdictIsValidity = (log : List LogRow) (finish low start : ℕ) (reads : List Question) (writes : List Write) (case : Case)
    → IsCaseAt log finish low start reads writes case → verdict case ≡ validity log finish low start reads writes

-- how a row stands that was valid, or not, at its entry
abbrev pub StandsAs : Verdict → Standing → Type 0
StandsAs valid (Open index case) = verdict case ≡ valid
StandsAs valid (Writing done) = valid ≡ verdicts.Commit
StandsAs valid (Done number) = valid ≡ verdicts.Commit
StandsAs valid (Back cause) = valid ≡ verdicts.BackUp cause

-- Decisions. Take any run, and any step of it by which a row enters. In the end that row is committed only where it was valid at its entry, and backed up only where it was not, with validity's cause, however late the decision came.
abbrev pub Decisions : Type 0
Decisions = (settings : Settings) (base : Base) (counter : ℕ) (earlier later : List (Event × Reply)) (entry : Event) (reply : Reply) (before next last : World)
    → Run (resumed settings base counter) earlier before
    → Step before entry reply next
    → next_place next ≡ suc (next_place before)
    → Run next later last
    → AllByRecursion (λ row. row.place ≡ next_place before → StandsAs (validity before.log before.counter (low before) row.start (questions row) row.writes) row.standing) last.log

-- A refused step leaves the world as it was.
abbrev pub RefusalsLeave : Type 0
RefusalsLeave = (old new : World) (event : Event) (fault : Fault) → Step old event (Refused fault) new → new ≡ old

-- Every step keeps what the type of a running core may rest on, and so does a store that was just opened.
abbrev pub StepsKeep : Type 0
StepsKeep = (old new : World) (event : Event) (reply : Reply) → Invariant old → Step old event reply new → Invariant new

-- the single writes of a row, in their order
abbrev pub each_written : ℕ → List Write → List (Event × Reply)
each_written session [] = []
each_written session (write ∷ writes) = (WriteOne session, Wrote write.0) ∷ each_written session writes

-- the entry, decision, writes and finish of a request that commits, and the entry, decision and back-up of one that doesn't
abbrev pub parts : World → ℕ → ℕ → ℕ → List Write → Verdict → List (Event × Reply)
parts old session number start writes verdicts.Commit =
    (Enter session (Request number start writes), Entered (next_place old) 0)
    ∷ (Decide session, Decided verdicts.Commit)
    ∷ each_written session writes
    ++ (Finish session, Finished (old.counter + 1)) ∷ []
parts old session number start writes (verdicts.BackUp cause) =
    (Enter session (Request number start writes), Entered (next_place old) 0)
    ∷ (Decide session, Decided (verdicts.BackUp cause))
    ∷ (Event.BackUp session, BackedUp number)
    ∷ []

-- A serial end is its entry, decision, writes and finish, or its entry, decision and back-up, at once.
abbrev pub SerialEndIsItsParts : Type 0
SerialEndIsItsParts = (old new : World) (session number start : ℕ) (writes : List Write) (reply : Reply)
    → refusal old (SerialEnd session (Request number start writes)) ≡ None
    → Taken old (SerialEnd session (Request number start writes)) reply new
    → Run old (parts old session number start writes (validity_of old session number start writes)) new

-- A checkpoint folds the longest beginning of the log that can be folded: each of its rows could be, and of those that stay the first can't. The base's state is played on by its committed rows, and its number of a session becomes that of the last one folded; what the log and the base say together stays, and so does the whole claim.
abbrev pub CheckpointFolds : Type 0
CheckpointFolds = (old new : World) (count : ℕ) → Step old Checkpoint (Folded count) new
    → (part : List LogRow)
    × (old.log ≡ part ++ new.log)
    × (count ≡ length part)
    × AllByRecursion (λ row. foldable (low old) row.standing ≡ true) part
    × (foldable_part (low old) new.log ≡ [])
    × (new.base.state ≡ serial old.base.state part)
    × (new.base.place ≡ old.base.place + length part)
    × ((session : ℕ) → last_folded new.base session ≡ (elim (latest session part) as (λ _. ℕ) [ None ↦ last_folded old.base session | Some row ↦ row.number ]))
    × (new.table ≡ old.table)
    × (Audited old.base old.marks old.table old.log → Audited new.base new.marks new.table new.log)

-- No step lets fall what a poll shows: neither the counter, nor the number of the last transaction of a session that is over, nor the transaction number of its last one to finish.
abbrev pub PollsRise : Type 0
PollsRise = (old new : World) (event : Event) (reply : Reply) → Invariant old → Step old event reply new
    → (session : ℕ) → Rises (poll old session) (poll new session)

-- What stands in a store that was opened fits its schema after every run: the sessions of its rows and marks are those that there are, no start or finish is above the counter, and the keys, rows and questions of its tables, read phases and log fit the tables.
abbrev pub RunsStayInSchema : Type 0
RunsStayInSchema = (settings : Settings) (events : List (Event × Reply)) (world : World) → Run (opened settings) events world → IsInSchema world
