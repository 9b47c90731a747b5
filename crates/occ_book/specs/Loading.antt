-- What clauses see of a base that rows come into: how many tables and sessions there are, and the state that the rows make.
use Rattle.std.specs.Prelude.{ℕ, refl}
use Rattle.std.specs.Coded.{Coded, code_by, coded×, coded_ℕ}
use Rattle.std.specs.FinMap as finite
use Rattle.occ_model.specs.State.{State}
use Rattle.occ_book.specs.Base.{BaseContent}
use Rattle.occ_book.specs.Content.{Content, state_code}
use Rattle.occ_book.specs.Marks.{Marked}

-- how many tables and sessions there is room for, and the state so far
pub record LoadingContent : Type 0 where
  pub tables : ℕ
  pub sessions : ℕ
  pub state : State

-- the code of what clauses see
abbrev pub loading_code : Coded LoadingContent
loading_code =
    code_by (ℕ × (ℕ × State)) (coded× coded_ℕ (coded× coded_ℕ state_code)) (λ l. (l.tables, (l.sessions, l.state))) (λ p. record { tables = p.0; sessions = p.1.0; state = p.1.1 }) (λ _. refl)

-- what some tables hold, with room for the numbers of as many sessions as some marks have
abbrev pub loading_content : Content → Marked → LoadingContent
loading_content tables numbers = record { tables = tables.tables; sessions = numbers.sessions; state = tables.state }

-- the base that the rows so far make: what `loaded` makes of them all
abbrev pub based : LoadingContent → BaseContent
based l = record {
  tables = l.tables;
  sessions = l.sessions;
  base = record { state = l.state; last = finite.empty; place = 1 };
}
