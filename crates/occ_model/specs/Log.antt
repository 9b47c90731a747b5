-- The decision log, and what it says when it is played.
use Rattle.std.specs.Prelude.{◌≡◌, ℕ, suc, ◌+◌, Bool, true, false, cond, ◌==◌, List, [], ◌∷◌, map, length, drop, filter, Some, unwrap_or}
use Rattle.std.specs.Ordering.{nat_cmp}
use Rattle.std.specs.FinMap.{FinMap, get}
use Rattle.occ_types.specs.Question.{Question}
use Rattle.occ_model.specs.State.{State, Write, Observation, answer, apply}
use Rattle.occ_model.specs.declared.verdict.Cause.{Cause}

-- What the verdict on a transaction depends on, fixed at its entry: its own start, reads and writes, the lower end of the window, and the writes of its opponents, those that had finished apart from those that were active (Kung and Robinson, section 5).
pub record Case : Type 0 where
  pub start : ℕ
  pub low : ℕ
  pub reads : List Question
  pub writes : List Write
  pub finished : List (List Write)
  pub active : List (List Write)

-- how far a transaction has come since its entry (Kung and Robinson, section 5; single writes are our own choice)
pub data Standing : Type 0 where
  -- entered and not decided: the index of its case in the file of cases, and the case
  Open : ℕ → Case → Standing
  -- decided to commit: how many of its writes are done
  Writing : ℕ → Standing
  -- finished, under this transaction number
  Done : ℕ → Standing
  -- decided to be backed up
  Back : Cause → Standing

-- A transaction that entered: its place in the order of entry, the counter at its begin (start) and at its entry (finish), what it read and what it writes (Kung and Robinson, section 5).
pub record LogRow : Type 0 where
  pub place : ℕ
  pub session : ℕ
  pub number : ℕ
  pub start : ℕ
  pub finish : ℕ
  pub reads : List Observation
  pub writes : List Write
  pub standing : Standing

abbrev pub questions : LogRow → List Question
questions row = map (λ o. o.0) row.reads

abbrev pub is_open : Standing → Bool
is_open (Open index case) = true
is_open (Writing done) = false
is_open (Done number) = false
is_open (Back cause) = false

abbrev pub is_writing : Standing → Bool
is_writing (Open index case) = false
is_writing (Writing done) = true
is_writing (Done number) = false
is_writing (Back cause) = false

abbrev pub is_back : Standing → Bool
is_back (Open index case) = false
is_back (Writing done) = false
is_back (Done number) = false
is_back (Back cause) = true

abbrev pub is_done : Standing → Bool
is_done (Open index case) = false
is_done (Writing done) = false
is_done (Done number) = true
is_done (Back cause) = false

-- Writing and Done transactions are committed
abbrev pub is_committed : Standing → Bool
is_committed (Open index case) = false
is_committed (Writing done) = true
is_committed (Done number) = true
is_committed (Back cause) = false

-- Open and Writing transactions are active: the set of that name in Kung and Robinson, section 5
abbrev pub is_active : Standing → Bool
is_active (Open index case) = true
is_active (Writing done) = true
is_active (Done number) = false
is_active (Back cause) = false

-- of some writes, those that an open write phase has still to do
abbrev pub remaining : List Write → Standing → List Write
remaining writes (Open index case) = []
remaining writes (Writing done) = drop done writes
remaining writes (Done number) = []
remaining writes (Back cause) = []

abbrev pub rest : LogRow → List Write
rest row = remaining row.writes row.standing

-- the state after a transaction of the serial order: a committed one is played whole (Kung and Robinson, section 3)
abbrev pub after : State → LogRow → State
after state row = cond (is_committed row.standing) (apply state row.writes) state

-- serial replay: the committed transactions, whole, one after another, in the order of entry (Kung and Robinson, section 3)
abbrev pub serial : State → List LogRow → State
serial state [] = state
serial state (row ∷ rows) = serial (after state row) rows

-- the table once each open write phase has done its rest, in the order of entry
abbrev pub settled : State → List LogRow → State
settled table [] = table
settled table (row ∷ rows) = settled (apply table (rest row)) rows

-- each answer is the one of this state
abbrev pub AreAnswers : State → List Observation → Type 0
AreAnswers state [] = Unit {0}
AreAnswers state (seen ∷ others) = (seen.1 ≡ answer seen.0 state) × AreAnswers state others

-- what each committed transaction read is what serial replay of the transactions before it answers (Kung and Robinson, section 3)
abbrev pub Explained : State → List LogRow → Type 0
Explained state [] = Unit {0}
Explained state (row ∷ rows) = (is_committed row.standing ≡ true → AreAnswers state row.reads) × Explained (after state row) rows

-- no write phase is open
abbrev pub Quiet : List LogRow → Type 0
Quiet [] = Unit {0}
Quiet (row ∷ rows) = (is_writing row.standing ≡ false) × Quiet rows

-- n, n + 1, n + 2, ..
abbrev pub Counts : ℕ → List ℕ → Type 0
Counts n [] = Unit {0}
Counts n (x ∷ xs) = (x ≡ n) × Counts (suc n) xs

-- the numbers of a session's transactions, in the order of entry
abbrev pub numbers : ℕ → List LogRow → List ℕ
numbers session log = map (λ row. row.number) (filter (λ row. row.session == session) log)

-- What was folded out of the log: the state that its committed rows made, the last number of each session among them, and the place of the next row to enter. An empty base is that of a store that was never shortened (our own choice).
pub record Base : Type 0 where
  pub state : State
  pub last : FinMap nat_cmp ℕ
  pub place : ℕ

-- the last number of a session that was folded, or 0
abbrev pub last_folded : Base → ℕ → ℕ
last_folded base session = unwrap_or (get base.last session) 0

-- A log in order, from its base on, under the closing marks: places without a gap, each session's numbers without a gap, and none after its mark (our own choice).
pub record InOrder (base : Base) (marks : FinMap nat_cmp ℕ) (log : List LogRow) : Type 0 where
  pub places : Counts base.place (map (λ row. row.place) log)
  pub numbered : (session : ℕ) → Counts (suc (last_folded base session)) (numbers session log)
  pub closed : (session mark : ℕ) → get marks session ≡ Some mark → mark ≡ last_folded base session + length (numbers session log) + 1

-- The whole claim on a log and a table: the log is in order, serial replay explains each committed transaction, and the table with the rest of each open write phase is the replay of the whole log (Kung and Robinson, section 3).
pub record Audited (base : Base) (marks : FinMap nat_cmp ℕ) (table : State) (log : List LogRow) : Type 0 where
  pub in_order : InOrder base marks log
  pub explained : Explained base.state log
  pub replayed : settled table log ≡ serial base.state log
