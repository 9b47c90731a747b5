-- What clauses see of the closing marks: how many sessions there are, and the mark of each that has one.
use Rattle.std.specs.Prelude.{ℕ, suc, zero, List, [], ◌∷◌, ◌++◌, length, Option, refl}
use Rattle.std.specs.Option.{option_map, option_to_list}
use Rattle.std.specs.Coded.{Coded, code_by, coded×, coded_ℕ}
use Rattle.std.specs.FinMap as finite
use Rattle.std.specs.FinMap.{FinMap}
use Rattle.std.specs.Ordering.{nat_cmp}

-- the sessions are numbered from 1
pub record Marked : Type 0 where
  pub sessions : ℕ
  pub marks : FinMap nat_cmp ℕ

-- the code of the marks
abbrev pub marked_code : Coded Marked
marked_code =
    code_by (ℕ × FinMap nat_cmp ℕ) (coded× coded_ℕ (finite.code coded_ℕ coded_ℕ)) (λ m. (m.sessions, m.marks)) (λ p. record { sessions = p.0; marks = p.1 }) (λ _. refl)

-- the mark that a slot may have, under its session
abbrev pub mark_at : ℕ → Option ℕ → List (ℕ × ℕ)
mark_at session slot = option_to_list (option_map (λ mark. (session, mark)) slot)

-- the marks of some slots, of which the first is that of a session
abbrev pub marks_from : ℕ → List (Option ℕ) → List (ℕ × ℕ)
marks_from session [] = []
marks_from session (slot ∷ slots) = mark_at session slot ++ marks_from (suc session) slots

-- the marks of all slots
unfoldable pub marks_of : List (Option ℕ) → FinMap nat_cmp ℕ
marks_of slots = finite.from_entries (marks_from 1 slots)

-- what some slots are seen as
abbrev pub marked_of : List (Option ℕ) → Marked
marked_of slots = record { sessions = length slots; marks = marks_of slots }

-- the marks of so many sessions from one on, session by session
abbrev pub marks_listed : FinMap nat_cmp ℕ → ℕ → ℕ → List (ℕ × ℕ)
marks_listed marks session zero = []
marks_listed marks session (suc count) = mark_at session (finite.get marks session) ++ marks_listed marks (suc session) count
