-- The words of a board, as one of them is stored.
use Rattle.std.proofs.Common.{◌≡◌, ℕ, ◌+◌, ◌-◌, ◌<◌, zero, suc, ◌∷◌, length, map, replicate, refl, ap, arith, length-set}
use Rattle.std.specs.List.{range_with_len}
use Rattle.std.proofs.lemmas.List.{get_or-set_same, get_or-set_other}
use Rattle.std.proofs.lemmas.List.FromFn.{get_or-map-range_with_len, length-map-range_with_len}
use Rattle.occ_board.specs.declared.words.Last.{Last}
use Rattle.occ_board.specs.declared.words.Words.{Words}
use Rattle.occ_board.specs.Words.{nothing, blank, behind, continued, last_of, placed, HasSession}

pub placed_sessions : (words : Words) (session : ℕ) (last : Last) → length (placed words session last).sessions ≡ length words.sessions
placed_sessions words session last = length-set words.sessions (session - 1) last

pub placed_own : (words : Words) (session : ℕ) (last : Last) → HasSession words session → last_of (placed words session last) session ≡ last
placed_own words session last has = get_or-set_same words.sessions (session - 1) last nothing (omega (arith, has.0, has.1))

pub placed_other : (words : Words) (session other : ℕ) (last : Last) → 0 < session → 0 < other → (other ≡ session → ⊥) → last_of (placed words session last) other ≡ last_of words other
placed_other words session other last positive above differs =
    get_or-set_other words.sessions (session - 1) (other - 1) last nothing (λ e. let same : other ≡ session = omega arith in differs same)

-- a store that goes on has a word for each session
pub continued_length : (counter : ℕ) (last : ℕ → ℕ) (sessions : ℕ) → length (continued counter last sessions).sessions ≡ sessions
continued_length counter last sessions = length-map-range_with_len (λ session. behind nothing (last session)) 1 sessions

-- which shows its last number
pub continued_shows : (counter : ℕ) (last : ℕ → ℕ) (sessions session : ℕ) → HasSession (continued counter last sessions) session
    → last_of (continued counter last sessions) session ≡ behind nothing (last session)
continued_shows counter last sessions session has =
    let from = has.0 in
    let to = has.1 in
    let count = continued_length counter last sessions in
    get_or-map-range_with_len (λ s. behind nothing (last s)) 1 sessions (session - 1) session nothing (omega arith) (omega arith)

-- Where no session has a number and the counter is 0, it is a new board.
pub continued_blank : (last : ℕ → ℕ) (sessions : ℕ) → ((session : ℕ) → last session ≡ 0) → continued 0 last sessions ≡ blank sessions
continued_blank last sessions none = ap (λ l. record { counter = 0; sessions = l }) (all 1 sessions)
  where
    all : (from count : ℕ) → map (λ session. behind nothing (last session)) (range_with_len from count) ≡ replicate count nothing
    all from zero = refl
    all from (suc count) = λ i. behind nothing (none from i) ∷ all (from + 1) count i
