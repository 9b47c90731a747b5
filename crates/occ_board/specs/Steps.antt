-- What each kind of atomic step on the board does (our own choice).
use Rattle.std.specs.Prelude.{◌≡◌, ℕ, ◌≤◌, []}
use Rattle.atomic_table.specs.Table.{Me, Step}
use Rattle.occ_types.specs.declared.limits.TheConstants.{MAX_COUNTER}
use Rattle.occ_board.specs.declared.words.Last.{Last}
use Rattle.occ_board.specs.declared.words.Words.{Words}
use Rattle.occ_board.specs.declared.rule.Seen.{Seen}
use Rattle.occ_board.specs.declared.rule.Known.{Known}
use Rattle.occ_board.specs.declared.rule.Known.TheVariants.{Publishes, Reads}
use Rattle.occ_board.specs.Words.{HasRoom, word_of, counted, placed}
use Rattle.occ_board.specs.Rule.{unseen, started, polled, Rises}

abbrev Mine : Type 0
Mine = Me (Unit {0}) Known

-- a new seat has loaded nothing yet
abbrev pub seated : Step (Unit {0}) → Mine → ℕ → Mine → Type 0
seated step mine found new = new ≡ (Reads (unseen step.word), [])

-- A load of the counter puts it into the seat's view. It is at least what the seat has seen, also in its session's word.
abbrev pub loaded_counter : Step (Unit {0}) → Mine → ℕ → Mine → Type 0
loaded_counter step mine found new = (seen : Seen) → mine.0 ≡ Reads seen
    → (new ≡ (Reads (started seen found), mine.1)) × (seen.counter ≤ found) × (seen.last.tn ≤ found) × (found ≤ MAX_COUNTER)

-- A load of a session's word puts what it says into the view of that session's seat, and it says no less than before.
abbrev pub loaded_word : Step (Unit {0}) → Mine → ℕ → Mine → Type 0
loaded_word step mine found new = (seen : Seen) → mine.0 ≡ Reads seen → step.word ≡ seen.session
    → (last : Last) × (found ≡ word_of last) × HasRoom last × Rises seen.last last × (new ≡ (Reads (polled seen last), mine.1))

-- a store of the counter
abbrev pub stored_counter : Step (Unit {0}) → Mine → ℕ → Mine → Type 0
stored_counter step mine stored new = (words : Words) → mine.0 ≡ Publishes words → new ≡ (Publishes (counted words stored), mine.1)

-- a store of a session's word
abbrev pub stored_word : Step (Unit {0}) → Mine → ℕ → Mine → Type 0
stored_word step mine stored new = (words : Words) (last : Last) → mine.0 ≡ Publishes words → HasRoom last → stored ≡ word_of last
    → new ≡ (Publishes (placed words step.word last), mine.1)
