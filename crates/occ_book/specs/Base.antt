-- What clauses see of a base: how many tables and sessions there are, and what was folded. What the rows of a log have written, one after another.
use Rattle.std.specs.Prelude.{ℕ, Bool, true, false, cond, List, [], ◌∷◌, refl}
use Rattle.std.specs.Coded.{Coded, code_by, coded×, coded_ℕ}
use Rattle.std.specs.List.{AllByRecursion}
use Rattle.std.specs.Ordering.{nat_cmp}
use Rattle.std.specs.FinMap as finite
use Rattle.std.specs.FinMap.{FinMap}
use Rattle.occ_model.specs.State.{State, Write, apply}
use Rattle.occ_model.specs.Content.{IsSession}
use Rattle.occ_model.specs.Log.{Base}
use Rattle.occ_book.specs.Content.{Content, state_code}
use Rattle.occ_book.specs.Marks.{Marked}
use Rattle.occ_sets.specs.Sets.{ArePlaced}
use Rattle.occ_sets.specs.declared.log_rows.Standing as code_standing
use Rattle.occ_sets.specs.declared.log_rows.Standing.TheVariants as standings
use Rattle.occ_sets.specs.declared.log_rows.LogRow as code_row

-- how many tables and sessions a base has room for, and what was folded into it
pub record BaseContent : Type 0 where
  pub tables : ℕ
  pub sessions : ℕ
  pub base : Base

-- the code of a base
abbrev pub base_code : Coded Base
base_code =
    code_by (State × (FinMap nat_cmp ℕ × ℕ)) (coded× state_code (coded× (finite.code coded_ℕ coded_ℕ) coded_ℕ)) (λ b. (b.state, (b.last, b.place))) (λ p. record { state = p.0; last = p.1.0; place = p.1.1 }) (λ _. refl)

-- the code of what clauses see of a base
abbrev pub base_content_code : Coded BaseContent
base_content_code =
    code_by (ℕ × (ℕ × Base)) (coded× coded_ℕ (coded× coded_ℕ base_code)) (λ c. (c.tables, (c.sessions, c.base))) (λ p. record { tables = p.0; sessions = p.1.0; base = p.1.1 }) (λ _. refl)

-- what some tables hold with some writes done over it
abbrev pub written_over : Content → List Write → Content
written_over tables writes = record { tables = tables.tables; state = apply tables.state writes }

-- a base with such tables and numbers, and with this as the next place
abbrev pub base_content : Content → Marked → ℕ → BaseContent
base_content tables numbers place = record {
  tables = tables.tables;
  sessions = numbers.sessions;
  base = record { state = tables.state; last = numbers.marks; place = place };
}

module _ {O : Type 0} where
  -- whether a row that stands so is committed
  abbrev pub commits : code_standing.Standing O → Bool
  commits (standings.Open held) = false
  commits (standings.Writing done) = true
  commits (standings.Done number) = true
  commits (standings.Back cause) = false

module _ {Z O : Type 0} where
  -- a base with so many tables and sessions has room for a row
  pub record FitsIn (tables sessions : ℕ) (row : code_row.LogRow Z O) : Type 0 where
    pub session : IsSession sessions row.session
    pub placed : ArePlaced tables row.writes

  -- and for each of some rows
  abbrev pub AllFitIn : ℕ → ℕ → List (code_row.LogRow Z O) → Type 0
  AllFitIn tables sessions = AllByRecursion (FitsIn tables sessions)

  -- what a row writes: all or nothing
  abbrev pub committed_writes : code_row.LogRow Z O → List Write
  committed_writes row = cond (commits row.standing) row.writes []

  -- the state after some rows
  abbrev pub written : State → List (code_row.LogRow Z O) → State
  written state [] = state
  written state (row ∷ rows) = written (apply state (committed_writes row)) rows

  -- the last numbers after some rows
  abbrev pub numbered : FinMap nat_cmp ℕ → List (code_row.LogRow Z O) → FinMap nat_cmp ℕ
  numbered last [] = last
  numbered last (row ∷ rows) = numbered (finite.insert last row.session row.number) rows
