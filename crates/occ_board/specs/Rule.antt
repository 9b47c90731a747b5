-- The rule of the board: what holds between any two atomic steps (our own choice).
use Rattle.std.specs.Prelude.{◌≡◌, ℕ, ◌+◌, ◌≤◌}
use mathlib.Core.Option.{some}
use lib.ListN.{get_elem?}
use Rattle.atomic_table.specs.Table.{State}
use Rattle.atomic_table.specs.Seated.{TableId}
use Rattle.occ_board.specs.declared.words.Last.{Last}
use Rattle.occ_board.specs.declared.words.Words.{Words}
use Rattle.occ_board.specs.declared.rule.Seen.{Seen}
use Rattle.occ_board.specs.declared.rule.Known.{Known}
use Rattle.occ_board.specs.declared.rule.Known.TheVariants.{Publishes, Reads}
use Rattle.occ_board.specs.Words.{nothing, last_of, written, IsSound}

-- a seat that has loaded nothing yet
abbrev pub unseen : ℕ → Seen
unseen session = record { session = session; counter = 0; starts = 0; last = nothing; polls = 0 }

-- the seat after a load of the counter
abbrev pub started : Seen → ℕ → Seen
started seen counter = record seen { counter = counter; starts = seen.starts + 1 }

-- the seat after a load of its session's word
abbrev pub polled : Seen → Last → Seen
polled seen last = record seen { last = last; polls = seen.polls + 1 }

-- a later word shows no smaller numbers
pub record Rises (old new : Last) : Type 0 where
  pub number : old.number ≤ new.number
  pub tn : old.tn ≤ new.tn

-- what a seat has seen is at most what stands
pub record IsBelow (words : Words) (seen : Seen) : Type 0 where
  pub counter : seen.counter ≤ words.counter
  pub last : Rises seen.last (last_of words seen.session)

-- what a seat has seen
abbrev pub seen_by : Known → Seen
seen_by (Publishes words) = unseen 0
seen_by (Reads seen) = seen

-- One publisher knows each word as it stands, and what each seat has seen is at most what stands.
pub record Ruled (state : State (Unit {0}) Known) : Type 0 where
  pub words : Words
  pub published : get_elem? state.views 0 ≡ some (Publishes words)
  pub written : state.words ≡ written words
  pub sound : IsSound words
  pub below : (seat : ℕ) (seen : Seen) → get_elem? state.views seat ≡ some (Reads seen) → IsBelow words seen

-- What clauses see of the publisher: which board it is, and what stands on it.
pub record Posted : Type 0 where
  pub board : TableId
  pub words : Words

-- What clauses see of a seat: at which board it is, and what it has seen.
pub record Seated : Type 0 where
  pub board : TableId
  pub seen : Seen

-- the seat of a session at a board, which has loaded nothing yet
abbrev pub fresh : TableId → ℕ → Seated
fresh board session = record { board = board; seen = unseen session }
