-- What the parts of a replay answer that goes up to the first read with another answer.
use Rattle.std.specs.Prelude.{◌≡◌, ◌≢◌, ℕ, true, List, take, slice_get, Option, None, Some, IsSomeAnd}
use Rattle.occ_model.specs.State.{State, Answer, Observation, answer}
use Rattle.occ_model.specs.Log.{AreAnswers, Explained, LogRow, after, is_committed, serial}
use Rattle.occ_sets.specs.PlainSets.{answer_of}
use Rattle.occ_audit.specs.Findings.{IsWrongRead}
use Rattle.occ_audit.specs.declared.findings.WrongRead as wrong_reads
use Rattle.occ_audit.specs.declared.first_read.Replayed as replayed
use Rattle.occ_audit.specs.declared.first_read.Replayed.TheVariants as replays

-- the first of some reads that a state answers otherwise, and how
abbrev pub IsWrongAnswer : State → List Observation → ℕ → Answer → Type 0
IsWrongAnswer state reads read replayed =
    AreAnswers state (take read reads) × IsSomeAnd (slice_get reads read) (λ seen. (seen.1 ≢ replayed) × (replayed ≡ answer seen.0 state))

-- a row is played, or it is committed and this read is the first that the state answers otherwise
abbrev pub RowPlays : {Z : Type 0} → State → State → ℕ → LogRow → Option (wrong_reads.WrongRead Z) → Type 0
RowPlays old new index row None = (is_committed row.standing ≡ true → AreAnswers old row.reads) × (new ≡ after old row)
RowPlays old new index row (Some wrong) =
    (is_committed row.standing ≡ true) × (wrong.row ≡ index) × IsWrongAnswer old row.reads wrong.read (answer_of wrong.replayed)

-- a log is explained to its end, which leaves this state, or up to a read
abbrev pub ReplayGives : {Z : Type 0} → State → List LogRow → replayed.Replayed Z → Type 0
ReplayGives state log (replays.Whole replica) = Explained state log × (replica ≡ serial state log)
ReplayGives state log (replays.To wrong) = IsWrongRead state log wrong.row wrong.read (answer_of wrong.replayed)
