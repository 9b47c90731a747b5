-- What clauses see of the read phases under way: each as the model has it, by session and then by number.
use Rattle.std.specs.Prelude.{◌≡◌, ◌==◌, not, Bool, ℕ, suc, ◌⊎◌, List, [], ◌∷◌, ◌++◌, map, Option, None, Some, refl}
use Rattle.std.proofs.Common.{inl, inr}
use Rattle.std.specs.Coded.{Coded, code_by, coded×, coded⊎, coded_ℕ, coded_list, coded_option}
use Rattle.std.specs.FinMap as finite
use Rattle.std.specs.List.{IsDistinct}
use Rattle.std.specs.Ordering.{nat_cmp}
use Rattle.std.specs.FinMap.{FinMap}
use Rattle.occ_types.specs.Key.{Key}
use Rattle.occ_types.specs.Question.{Question, One, Span}
use Rattle.occ_types.specs.Row.{Row}
use Rattle.occ_model.specs.State.{Answer, Found, Rows, Observation}
use Rattle.occ_model.specs.World.{ReadPhase, phase_cmp}
use Rattle.occ_types.specs.Codes.{key_code, cell_code}
use Rattle.occ_log.specs.declared.session_phases.Phase as code_phase

abbrev question_parts : Question → (ℕ × Key) ⊎ (ℕ × (Option Key × Option Key))
question_parts (One table key) = inl (table, key)
question_parts (Span table lower upper) = inr (table, (lower, upper))

abbrev question_whole : (ℕ × Key) ⊎ (ℕ × (Option Key × Option Key)) → Question
question_whole (inl p) = One p.0 p.1
question_whole (inr p) = Span p.0 p.1.0 p.1.1

pub question_whole-parts : (q : Question) → question_whole (question_parts q) ≡ q
question_whole-parts (One table key) = refl
question_whole-parts (Span table lower upper) = refl

-- a question is stored as the parts of its form
abbrev pub question_code : Coded Question
question_code =
    code_by ((ℕ × Key) ⊎ (ℕ × (Option Key × Option Key))) (coded⊎ (coded× coded_ℕ key_code) (coded× coded_ℕ (coded× (coded_option key_code) (coded_option key_code)))) question_parts question_whole question_whole-parts

abbrev answer_parts : Answer → Option Row ⊎ List (Key × Row)
answer_parts (Found row) = inl row
answer_parts (Rows rows) = inr rows

abbrev answer_whole : Option Row ⊎ List (Key × Row) → Answer
answer_whole (inl row) = Found row
answer_whole (inr rows) = Rows rows

pub answer_whole-parts : (a : Answer) → answer_whole (answer_parts a) ≡ a
answer_whole-parts (Found row) = refl
answer_whole-parts (Rows rows) = refl

-- an answer is stored as its row or its rows
abbrev pub answer_code : Coded Answer
answer_code =
    code_by (Option Row ⊎ List (Key × Row)) (coded⊎ (coded_option (coded_list cell_code)) (coded_list (coded× key_code (coded_list cell_code)))) answer_parts answer_whole answer_whole-parts

-- a read phase is stored as its start and its reads
abbrev pub read_phase_code : Coded ReadPhase
read_phase_code =
    code_by (ℕ × List Observation) (coded× coded_ℕ (coded_list (coded× question_code answer_code))) (λ p. (p.start, p.reads)) (λ p. record { start = p.0; reads = p.1 }) (λ _. refl)

-- the codes of the read phases, of one session and of all
abbrev pub session_phases_code : Coded (FinMap nat_cmp ReadPhase)
session_phases_code = finite.code coded_ℕ read_phase_code

abbrev pub read_phases_code : Coded (FinMap phase_cmp ReadPhase)
read_phases_code = finite.code (coded× coded_ℕ coded_ℕ) read_phase_code

-- what was read in a phase that may be there
abbrev pub reads_of : Option ReadPhase → List Observation
reads_of None = []
reads_of (Some phase) = phase.reads

-- a session has a phase under way: where its phases alone are kept, some are left
abbrev pub is_reading : FinMap phase_cmp ReadPhase → ℕ → Bool
is_reading phases session = not (finite.len (finite.retain_keys phases (λ key. key.0 == session)) == 0)

module _ {Z : Type 0} where
  -- the phase as the model has it
  abbrev pub phase_of : code_phase.Phase Z → ReadPhase
  phase_of phase = record { start = phase.start; reads = phase.reads }

  -- the phases of one session, by their numbers
  unfoldable pub session_phases_of : List (ℕ × code_phase.Phase Z) → FinMap nat_cmp ReadPhase
  session_phases_of phases = finite.from_entries (map (λ e. (e.0, phase_of e.1)) phases)

  -- no two phases of one session have one number
  abbrev pub AreNumberedOnce : List (ℕ × code_phase.Phase Z) → Type 0
  AreNumberedOnce phases = IsDistinct (λ n m. n == m) (map (λ e. e.0) phases)

-- the phases of the sessions in a list, each under its session's place and its number
abbrev pub under_sessions : List (FinMap nat_cmp ReadPhase) → List ((ℕ × ℕ) × ReadPhase)
under_sessions [] = []
under_sessions (phases ∷ others) = map (λ e. ((0, e.0), e.1)) (finite.entries phases) ++ map (λ e. ((suc e.0.0, e.0.1), e.1)) (under_sessions others)

-- the phases of all sessions, as the model has them
unfoldable pub phases_of : List (FinMap nat_cmp ReadPhase) → FinMap phase_cmp ReadPhase
phases_of sessions = finite.from_entries (under_sessions sessions)
