-- Worked examples: what the definitions say of small cases, each proved or computed.
use Rattle.std.specs.Prelude.{◌≡◌, ℕ, ◌+◌, false, List, [], ◌∷◌, None, Some, pos}
use Rattle.std.specs.FinMap as finite
use Rattle.occ_types.specs.Schema.{Schema}
use Rattle.occ_types.specs.declared.kind.Kind.TheVariants as cells
use Rattle.occ_types.specs.declared.kind.KeyKind.TheVariants as keys
use Rattle.occ_types.specs.Key.{Num}
use Rattle.occ_types.specs.Object.{Object}
use Rattle.occ_types.specs.Question.{Question, One, Span}
use Rattle.occ_types.specs.Row.{Row, Int}
use Rattle.occ_model.specs.State.{Write, Found, Observation, put}
use Rattle.occ_model.specs.Log.{LogRow, Standing, Writing, Done, Explained}
use Rattle.occ_model.specs.Validity.{validity, window_low}
use Rattle.occ_model.specs.World.{Settings, World, opened, low, is_held}
use Rattle.occ_model.specs.Event.{Request, Enter, Decide, WriteOne, Finish, Entered, Decided, Wrote, Finished}
use Rattle.occ_model.specs.Step.{Run, validity_of}
use Rattle.occ_model.specs.declared.verdict.Verdict.TheVariants.{Commit, BackUp}
use Rattle.occ_model.specs.declared.verdict.Cause.TheVariants.{Conflict, TooOld}

-- one table with number keys and one column of whole numbers; its name is the letter t
abbrev pub schema : Schema
schema = record { name = 116 ∷ []; key = keys.Num; columns = cells.Int ∷ [] } ∷ []

-- two sessions, and the last 8 write sets kept
abbrev pub settings : Settings
settings = record { schema = schema; sessions = 2; keep = 8 }

-- the object of a key of the one table
abbrev pub at : ℕ → Object
at key = (0, Num key)

-- the question for it
abbrev pub one : ℕ → Question
one key = One 0 (Num key)

-- the question for the keys from one number on and below another
abbrev pub range : ℕ → ℕ → Question
range lower upper = Span 0 (Some (Num lower)) (Some (Num upper))

-- a row of one number
abbrev pub row_of : ℕ → Row
row_of n = Int (pos n) ∷ []

-- a write that puts a row
abbrev pub puts : ℕ → ℕ → Write
puts key n = (at key, Some (row_of n))

-- a write that deletes the row of a key
abbrev pub deletes : ℕ → Write
deletes key = (at key, None)

-- the first transaction of a session, which entered at a place; each place has a session of its own, session 1 the first
abbrev pub entered_at : ℕ → ℕ → List Observation → List Write → Standing → LogRow
entered_at place finish reads writes standing = record {
  place = place;
  session = place + 1;
  number = 1;
  start = 0;
  finish = finish;
  reads = reads;
  writes = writes;
  standing = standing;
}

-- One commit, from a store that was just opened: session 1 enters a request that puts key 7, is decided, does its one write, and finishes under number 1. Then the table has the row, the counter is 1, the log has one row, which is finished, and the session is free.
abbrev pub OneCommit : Type 0
OneCommit = (last : World)
    × Run (opened settings)
    ((Enter 1 (Request 1 0 (puts 7 70 ∷ [])), Entered 0 0)
    ∷ (Decide 1, Decided Commit)
    ∷ (WriteOne 1, Wrote (at 7))
    ∷ (Finish 1, Finished 1)
    ∷ [])
    last
    × (finite.get last.table (at 7) ≡ Some (row_of 70))
    × (last.counter ≡ 1)
    × (last.log ≡ entered_at 0 0 [] (puts 7 70 ∷ []) (Done 1) ∷ [])
    × (is_held last 1 ≡ false)

-- The lost update: both began at 0 and read key 7, one wrote it and finished under number 1, and so the other can't write it from what it read.
abbrev pub LostUpdate : Type 0
LostUpdate =
    validity (entered_at 0 0 ((one 7, Found (Some (row_of 10))) ∷ []) (puts 7 11 ∷ []) (Done 1) ∷ []) 1 0 0 (one 7 ∷ []) (puts 7 11 ∷ []) ≡ BackUp Conflict

-- what entered first and finished second: it found no key 1, and puts key 2
abbrev pub finished_second : LogRow
finished_second = entered_at 0 0 ((one 1, Found None) ∷ []) (puts 2 20 ∷ []) (Done 2)

-- what entered second and finished first: it puts key 1
abbrev pub finished_first : LogRow
finished_first = entered_at 1 0 [] (puts 1 10 ∷ []) (Done 1)

-- The serial order is that of entry: replayed so, each transaction read what it read; in the order of the transaction numbers the first one would have found a row.
abbrev pub EntryOrder : Type 0
EntryOrder =
    Explained finite.empty (finished_second ∷ finished_first ∷ [])
    × ¬ (Explained finite.empty (finished_first ∷ finished_second ∷ []))

-- a log of one transaction, which finished under number 1
abbrev pub one_done : List Write → List LogRow
one_done writes = entered_at 0 0 [] writes (Done 1) ∷ []

-- A range has its lower end and not its upper end: of the keys from 3 on and below 9, a write of 3 conflicts and one of 9 does not.
abbrev pub RangeEnds : Type 0
RangeEnds =
    (validity (one_done (puts 3 1 ∷ [])) 1 0 0 (range 3 9 ∷ []) [] ≡ BackUp Conflict)
    × (validity (one_done (puts 9 1 ∷ [])) 1 0 0 (range 3 9 ∷ []) [] ≡ Commit)

-- A deletion of an absent key leaves the table as it is, and yet conflicts with who read a range that has the key.
abbrev pub AbsentDeletion : Type 0
AbsentDeletion =
    (put finite.empty (deletes 5) ≡ finite.empty)
    × (validity (one_done (deletes 5 ∷ [])) 1 0 0 (range 3 9 ∷ []) [] ≡ BackUp Conflict)

-- A write without a read: it conflicts with an open write phase that writes the same key, and not with one that has finished.
abbrev pub BlindWrite : Type 0
BlindWrite =
    (validity (entered_at 0 0 [] (puts 7 1 ∷ []) (Writing 0) ∷ []) 0 0 0 [] (puts 7 2 ∷ []) ≡ BackUp Conflict)
    × (validity (one_done (puts 7 1 ∷ [])) 1 0 0 [] (puts 7 2 ∷ []) ≡ Commit)

-- the same store, which keeps but the last write set
abbrev pub keeps_one : Settings
keeps_one = record { schema = schema; sessions = 2; keep = 1 }

-- A verdict that comes late is that of the entry. Session 1 enters at 0, while the window begins at 0; then two transactions of session 2 finish, and the window begins at 1. Whatever enters now with that start is too old, but the transaction that entered before is decided to commit.
abbrev pub LateVerdict : Type 0
LateVerdict = (last : World)
    × Run (opened keeps_one)
    ((Enter 1 (Request 1 0 (puts 7 70 ∷ [])), Entered 0 0)
    ∷ (Enter 2 (Request 1 0 []), Entered 1 1)
    ∷ (Decide 2, Decided Commit)
    ∷ (Finish 2, Finished 1)
    ∷ (Enter 2 (Request 2 1 []), Entered 2 2)
    ∷ (Decide 2, Decided Commit)
    ∷ (Finish 2, Finished 2)
    ∷ (Decide 1, Decided Commit)
    ∷ [])
    last
    × (low last ≡ 1)
    × ((session number : ℕ) (writes : List Write) → validity_of last session number 0 writes ≡ BackUp TooOld)

-- What began before the window is backed up, though nothing stands in its way.
abbrev pub BeforeWindow : Type 0
BeforeWindow =
    (validity [] 9 (window_low 9 8) 0 [] [] ≡ BackUp TooOld)
    × (validity [] 9 (window_low 9 8) 1 [] [] ≡ Commit)
