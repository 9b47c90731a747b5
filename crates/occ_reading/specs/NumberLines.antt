-- Lines that have numbers alone: the first one of the log or of its base, the first one of a row, that of a session, and the last one of a book.
use Rattle.std.specs.Prelude.{◌≤◌, ◌^◌, ◌-◌, ◌==◌, ℕ, List, [], ◌∷◌, Option, Some, None, not, option_map, option_and_then, codes}
use Rattle.std.specs.Fmt.{decimal}
use Rattle.occ_model.specs.declared.verdict.Cause.TheVariants.{Conflict, TooOld}
use Rattle.occ_text.specs.Spelling.{line_text}
use Rattle.occ_text.specs.Headers.{count_text, Within}
use Rattle.occ_text.specs.HeaderReading.{count_of_line}
use Rattle.occ_print.specs.Books.{number_word, number_line, base_line, counter_line}
use Rattle.occ_print.specs.declared.sections.Section.{Section}
use Rattle.occ_sets.specs.declared.log_rows.Standing as code_standing
use Rattle.occ_sets.specs.declared.log_rows.Standing.TheVariants.{Open, Writing, Done, Back}
use Rattle.occ_reading.specs.declared.number_lines.Head.{Head}
use Rattle.occ_reading.specs.declared.number_lines.Mark.{Mark}
use Rattle.occ_reading.specs.declared.number_lines.Counts.{Counts}
use Rattle.occ_reading.specs.declared.number_lines.BaseHead.{BaseHead}
use Rattle.occ_reading.specs.declared.number_lines.Began.{Began}
use Rattle.occ_reading.specs.declared.number_lines.Began.TheVariants as begun
use Rattle.occ_text.specs.Fields.{Tokens, Field, next_token, number, lettered, after, both, ◌⊗◌, tested, shaped, behind, alone, by_word, of_line}

-- how far a row has come, as its first line says it: of an open one it tells nothing
abbrev pub Stand : Type 0
Stand = code_standing.Standing (Unit {0})

-- ---- spelling

abbrev pub stand_tokens : Stand → Tokens
stand_tokens (Open held) = codes "open" ∷ []
stand_tokens (Writing done) = codes "writing" ∷ decimal done ∷ []
stand_tokens (Done number) = codes "done" ∷ decimal number ∷ []
stand_tokens (Back Conflict) = codes "conflict" ∷ []
stand_tokens (Back TooOld) = codes "tooold" ∷ []

abbrev pub head_tokens : Head → Tokens
head_tokens head = codes "row" ∷ decimal head.place ∷ decimal head.session ∷ decimal head.number ∷ decimal head.start ∷ decimal head.finish
    ∷ decimal head.reads ∷ decimal head.writes ∷ stand_tokens head.standing

abbrev pub head_text : Head → List ℕ
head_text head = line_text (head_tokens head)

abbrev pub mark_text : Section → Mark → List ℕ
mark_text section mark = number_line section (mark.session, mark.number)

abbrev pub base_text : BaseHead → List ℕ
base_text head = base_line head.place head.numbers head.rows

-- how the log begins: with a base, or with the count of its rows
abbrev pub began_text : Began → List ℕ
began_text (begun.Log rows) = count_text (codes "log") rows
began_text (begun.Base head) = base_text head

abbrev pub counts_text : Counts → List ℕ
counts_text counts = counter_line counts.counter counts.low

-- ---- what has a line

-- a session of a header
pub record IsSession (sessions session : ℕ) : Type 0 where
  pub first : 1 ≤ session
  pub last : session ≤ sessions

-- no more writes are done than there are
abbrev pub StandFits : ℕ → Stand → Type 0
StandFits writes (Open held) = Unit {0}
StandFits writes (Writing done) = done ≤ writes
StandFits writes (Done number) = number ≤ 2 ^ 64 - 1
StandFits writes (Back cause) = Unit {0}

pub record HeadFits (sessions : ℕ) (head : Head) : Type 0 where
  pub place : head.place ≤ 2 ^ 64 - 1
  pub session : IsSession sessions head.session
  pub number : head.number ≤ 2 ^ 64 - 1
  pub start : head.start ≤ 2 ^ 64 - 1
  pub finish : head.finish ≤ 2 ^ 64 - 1
  pub reads : head.reads ≤ 2 ^ 64 - 1
  pub writes : head.writes ≤ 2 ^ 64 - 1
  pub stand : StandFits head.writes head.standing

pub record MarkFits (sessions : ℕ) (mark : Mark) : Type 0 where
  pub session : IsSession sessions mark.session
  pub number : mark.number ≤ 2 ^ 64 - 1

-- a base with a row in front of the log
pub record BaseHeadFits (head : BaseHead) : Type 0 where
  pub place : IsSession (2 ^ 64 - 1) head.place
  pub numbers : head.numbers ≤ 2 ^ 64 - 1
  pub rows : head.rows ≤ 2 ^ 64 - 1

abbrev pub BeganFits : Began → Type 0
BeganFits (begun.Log rows) = Within 0 (2 ^ 64 - 1) rows
BeganFits (begun.Base head) = BaseHeadFits head

pub record CountsFit (counts : Counts) : Type 0 where
  pub counter : counts.counter ≤ 2 ^ 64 - 1
  pub low : counts.low ≤ 2 ^ 64 - 1

-- ---- reading

abbrev pub number64 : Field ℕ
number64 = number (2 ^ 64 - 1)

-- the same by these letters
abbrev pub number_as : List ℕ → Field ℕ
number_as letters = lettered letters number64

-- a session from 1 on
unfoldable pub next_session : ℕ → Tokens → Option (ℕ × Tokens)
next_session sessions tokens = (tested (λ n. not (n == 0)) (number sessions)).read tokens

abbrev pub session : ℕ → Field ℕ
session sessions = record { read = next_session sessions; spell = λ n. decimal n ∷ []; fits = IsSession sessions; letters = codes "S" ∷ [] }

unfoldable pub next_stand : ℕ → Tokens → Option (Stand × Tokens)
next_stand writes tokens = option_and_then (by_word (
    (codes "open", alone (Open tt))
    ∷ (codes "writing", behind Writing (number writes))
    ∷ (codes "done", behind Done number64)
    ∷ (codes "conflict", alone (Back Conflict))
    ∷ (codes "tooold", alone (Back TooOld))
    ∷ [])) (next_token tokens)

abbrev pub stand : ℕ → Field Stand
stand writes = record { read = next_stand writes; spell = stand_tokens; fits = StandFits writes; letters = codes "STANDING" ∷ codes ".." ∷ [] }

abbrev HeadParts : Type 0
HeadParts = ℕ × (ℕ × (ℕ × (ℕ × (ℕ × (ℕ × (ℕ × Stand))))))

abbrev pub head_from : HeadParts → Head
head_from (place, (session, (number, (start, (finish, (reads, (writes, standing))))))) =
    record { place = place; session = session; number = number; start = start; finish = finish; reads = reads; writes = writes; standing = standing }

abbrev pub head_parts : Head → HeadParts
head_parts h = (h.place, (h.session, (h.number, (h.start, (h.finish, (h.reads, (h.writes, h.standing)))))))

abbrev pub head_line : ℕ → Field Head
head_line sessions = after (codes "row") (shaped head_from head_parts (HeadFits sessions)
    (number_as (codes "PLACE") ⊗ session sessions ⊗ number_as (codes "N") ⊗ number_as (codes "START") ⊗ number_as (codes "FINISH") ⊗ number_as (codes "R")
    ⊗ both (number_as (codes "W")) (codes "STANDING" ∷ codes ".." ∷ []) stand))

unfoldable pub head_of_line : ℕ → List ℕ → Option Head
head_of_line sessions line = of_line (head_line sessions) line

abbrev pub mark_line : Section → ℕ → Field Mark
mark_line section sessions = after (number_word section) (shaped (λ p. record { session = p.0; number = p.1 }) (λ m. (m.session, m.number)) (MarkFits sessions) (session sessions ⊗ number_as (codes "N")))

unfoldable pub mark_of_line : Section → ℕ → List ℕ → Option Mark
mark_of_line section sessions line = of_line (mark_line section sessions) line

-- a base has a place behind it that is not 0
abbrev pub base_head_line : Field BaseHead
base_head_line = after (codes "base") (shaped (λ p. record { place = p.0; numbers = p.1.0; rows = p.1.1 }) (λ h. (h.place, (h.numbers, h.rows))) BaseHeadFits
    (lettered (codes "P") (session (2 ^ 64 - 1)) ⊗ number_as (codes "L") ⊗ number_as (codes "R")))

unfoldable pub base_of_line : List ℕ → Option BaseHead
base_of_line line = of_line base_head_line line

abbrev pub counts_line : Field Counts
counts_line = after (codes "counter") (shaped (λ p. record { counter = p.0; low = p.1 }) (λ c. (c.counter, c.low)) CountsFit (number_as (codes "T") ⊗ after (codes "low") (number_as (codes "L"))))

unfoldable pub counts_of_line : List ℕ → Option Counts
counts_of_line line = of_line counts_line line

-- the rows of the log where its count was read, and else the base
abbrev pub began_unless : Option ℕ → Option BaseHead → Option Began
began_unless (Some rows) head = Some (begun.Log rows)
began_unless None head = option_map begun.Base head

abbrev pub began_of_line : List ℕ → Option Began
began_of_line line = began_unless (count_of_line (codes "log") 0 (2 ^ 64 - 1) line) (base_of_line line)
