-- What clauses see of a core with the file of its cases, what ties the two, and what the calls do.
use Rattle.std.specs.Prelude.{◌≡◌, ℕ, zero, suc, Bool, true, false, ◌==◌, List, length, Option, None, Some, Result, Ok, Err, IfOk, option_map, get_or, slice_set}
use Rattle.boxcar.specs.Table.{Shelves, Where, Shows}
use Rattle.occ_types.specs.declared.fault.Fault.{Fault}
use Rattle.occ_types.specs.declared.fault.Fault.TheVariants.{WrongCase}
use Rattle.occ_model.specs.Log.{Case}
use Rattle.occ_model.specs.World.{World}
use Rattle.occ_model.specs.Event.{Item, Event, Enter, Decide, Decided, Reply, Entered}
use Rattle.occ_model.specs.Refusal.{refusal}
use Rattle.occ_model.specs.Step.{Step}
use Rattle.occ_model.specs.declared.verdict.Verdict.{Verdict}
use Rattle.occ_core.specs.OpenCases.{open_case}
use Rattle.occ_core.specs.Totals.{moved}
use Rattle.occ_core.specs.declared.totals.Totals.{Totals}
use Rattle.occ_model.specs.Replies.{replied}
use Rattle.occ_core.specs.declared.outcomes.Outcome as code_outcome
use Rattle.occ_core.specs.declared.outcomes.Outcome.TheVariants as outcomes

-- of each session in order, what shows the case of its last entry, where that was filed
abbrev pub Tokens : Type 0
Tokens = List (Option (Where Case))

-- what clauses see: the world and the totals of the core, the file, and what shows the case of each session's last entry
pub record Filed : Type 0 where
  pub world : World
  pub totals : Totals
  pub file : Shelves
  pub tokens : Tokens

-- what shows the case of a session's last entry
abbrev pub token_of : Tokens → ℕ → Option (Where Case)
token_of tokens zero = None
token_of tokens (suc place) = get_or tokens place None

-- the same with another one for a session
abbrev pub kept : Tokens → ℕ → Option (Where Case) → Tokens
kept tokens zero token = tokens
kept tokens (suc place) token = slice_set tokens place token

-- the index that was pushed for it
abbrev pub index_of : Option (Where Case) → Option ℕ
index_of = option_map (λ token. token.index)

abbrev pub has_index : Option (Where Case) → ℕ → Bool
has_index None index = false
has_index (Some token) index = token.index == index

-- There is room for each session's token. Each token is of the file, and shows the case of its session's latest row, where that is open.
pub record AreTied (world : World) (file : Shelves) (tokens : Tokens) : Type 0 where
  pub each_session : length tokens ≡ world.settings.sessions
  pub of_file : (session : ℕ) (token : Where Case) → token_of tokens session ≡ Some token → Shows file token
  pub of_row : (session : ℕ) (token : Where Case) → token_of tokens session ≡ Some token
      → (index : ℕ) (case : Case) → open_case world session ≡ Some (index, case) → token.value ≡ case

-- A call that moves the core: the world makes that step of the model, the totals count it, and the file and the tokens stay.
abbrev pub Moves : Filed → Event → Reply → Filed → Type 0
Moves old event reply new = Step old.world event reply new.world × (new ≡ record old { world = new.world; totals = moved old.totals reply })

-- a request that enters has this token for its session from then on, and all else leaves the tokens
abbrev pub kept_after : Tokens → ℕ → Option (Where Case) → Reply → Tokens
kept_after tokens session token (Entered place index) = kept tokens session token
kept_after tokens session token reply = tokens

-- An entry: the world makes that step of the model, the totals count it, and a request's row has this token.
abbrev pub Enters : Filed → ℕ → Item → Option (Where Case) → Reply → Filed → Type 0
Enters old session item token reply new =
    Step old.world (Enter session item) reply new.world
    × (new ≡ record old { world = new.world; totals = moved old.totals reply; tokens = kept_after old.tokens session token reply })

module _ {Z : Type 0} where
  -- the index that the entry of a request answers: that of what is kept for its session
  abbrev pub index_after : Tokens → ℕ → code_outcome.Outcome Z → Option ℕ
  index_after tokens session (outcomes.Entered place) = index_of (token_of tokens session)
  index_after tokens session outcome = None

-- A decision by a verdict on the case of an index. It is refused as every decision is, and then where that is not the index that was pushed at the entry of the session's row: all stays then. Else it decides.
abbrev pub DecidesBy : Filed → ℕ → ℕ → Result Verdict Fault → Filed → Type 0
DecidesBy old session index result new = elim (refusal old.world (Decide session)) [
  | Some fault ↦ (result ≡ Err fault) × (new ≡ old)
  | None ↦ elim (has_index (token_of old.tokens session) index) [
    | true ↦ Moves old (Decide session) (replied Decided result) new
    | false ↦ (result ≡ Err WrongCase) × (new ≡ old)
  ]
]
