-- What stands on the board, and how it is written in words of 64 bits (our own choice).
use Rattle.std.specs.Prelude.{ℕ, ◌+◌, ◌-◌, ◌*◌, ◌<◌, ◌≤◌, List, ◌∷◌, map, length, replicate, slice_index_or, slice_set, Option, None, Some, All}
use Rattle.std.specs.List.{range_with_len}
use Rattle.occ_types.specs.declared.limits.TheConstants.{MAX_COUNTER, MAX_NUMBER}
use Rattle.occ_model.specs.declared.verdict.Cause.TheVariants.{Conflict, TooOld}
use Rattle.occ_model.specs.declared.verdict.Verdict.{Verdict}
use Rattle.occ_model.specs.declared.verdict.Verdict.TheVariants.{Commit, BackUp}
use Rattle.occ_board.specs.declared.words.Last.{Last}
use Rattle.occ_board.specs.declared.words.Words.{Words}

-- how a transaction ended, as two bits
abbrev pub code : Option Verdict → ℕ
code None = 0
code (Some Commit) = 1
code (Some (BackUp Conflict)) = 2
code (Some (BackUp TooOld)) = 3

-- The word of a session: 32 bits of its last commit, 30 of its last number, 2 of its status.
abbrev pub word_of : Last → ℕ
word_of last = last.tn * 4294967296 + last.number * 4 + code last.status

-- its parts have room in the word
pub record HasRoom (last : Last) : Type 0 where
  pub number : last.number ≤ MAX_NUMBER
  pub tn : last.tn ≤ MAX_COUNTER

-- nothing of a session is over
abbrev pub nothing : Last
nothing = record { number = 0; status = None; tn = 0 }

-- the board before the first transaction, with a word for each of so many sessions
abbrev pub blank : ℕ → Words
blank sessions = record { counter = 0; sessions = replicate sessions nothing }

-- what stands of a session that goes on behind a number: how that ended is not told, and the transaction number of the last commit stays
abbrev pub behind : Last → ℕ → Last
behind last number = record { number = number; status = None; tn = last.tn }

-- the board of a store that goes on: the counter where it stood, and each of so many sessions behind its last number
abbrev pub continued : ℕ → (ℕ → ℕ) → ℕ → Words
continued counter last sessions = record { counter = counter; sessions = map (λ session. behind nothing (last session)) (range_with_len 1 sessions) }

-- what stands of a session; they are numbered from 1
abbrev pub last_of : Words → ℕ → Last
last_of words session = slice_index_or words.sessions (session - 1) nothing

-- the board has such a session
abbrev pub HasSession : Words → ℕ → Type 0
HasSession words session = (0 < session) × (session ≤ length words.sessions)

-- the counter moved on
abbrev pub counted : Words → ℕ → Words
counted words tn = record words { counter = tn }

-- What stands of a session after a transaction that is over: where it committed, its transaction number is the counter, else that of the last commit stays.
abbrev pub over : ℕ → Last → ℕ → Verdict → Last
over counter last number Commit = record { number = number; status = Some Commit; tn = counter }
over counter last number (BackUp cause) = record { number = number; status = Some (BackUp cause); tn = last.tn }

-- the board with another word of a session
abbrev pub placed : Words → ℕ → Last → Words
placed words session last = record words { sessions = slice_set words.sessions (session - 1) last }

-- a transaction of a session is over
abbrev pub settled : Words → ℕ → ℕ → Verdict → Words
settled words session number verdict = placed words session (over words.counter (last_of words session) number verdict)

-- the words in memory: the counter, then those of the sessions
abbrev pub written : Words → List ℕ
written words = words.counter ∷ map word_of words.sessions

-- The counter has room in its word, each session's parts in its own, and no session committed later than the counter says.
pub record IsSound (words : Words) : Type 0 where
  pub counter : words.counter ≤ MAX_COUNTER
  pub sessions : All (λ last. HasRoom last × (last.tn ≤ words.counter)) words.sessions
