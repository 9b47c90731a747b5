-- What a decision by a judged case does.
use Rattle.std.proofs.Common.{◌≡◌, ℕ, Bool, true, false, Option, None, Some, Result, Ok, Err, refl, sym, ap, subst, ◌∙◌, is_some}
use Rattle.std.specs.Prelude.{option_and_then}
use Rattle.occ_types.specs.declared.fault.Fault.{Fault}
use Rattle.occ_types.specs.declared.fault.Fault.TheVariants.{WrongCase}
use Rattle.occ_model.specs.World.{World}
use Rattle.occ_model.specs.Event.{Decide, Decided, Reply, Refused}
use Rattle.occ_model.specs.Refusal.{refusal}
use Rattle.occ_model.specs.Step.{Step, refused, starved, taken}
use Rattle.occ_model.specs.declared.verdict.Verdict.{Verdict}
use Rattle.occ_core.specs.OpenCases.{case_of, open_case}
use Rattle.occ_core.specs.Totals.{moved}
use Rattle.occ_model.specs.Replies.{replied}
use Rattle.occ_filed.specs.Filed.{Filed, token_of, has_index, Moves, DecidesBy}

-- by what refuses the decision, and whether the index is the row's own
abbrev By : Filed → ℕ → Result Verdict Fault → Filed → Option Fault → Bool → Type 0
By old session result new told own = elim told [
  | Some fault ↦ (result ≡ Err fault) × (new ≡ old)
  | None ↦ elim own [ true ↦ Moves old (Decide session) (replied Decided result) new | false ↦ (result ≡ Err WrongCase) × (new ≡ old) ]
]

pub wrong : (old : Filed) (session index : ℕ) → refusal old.world (Decide session) ≡ None → has_index (token_of old.tokens session) index ≡ false → DecidesBy old session index (Err WrongCase) old
wrong old session index none other =
    subst (λ told. By old session (Err WrongCase) old told (has_index (token_of old.tokens session) index)) (sym none)
    (subst (λ own. By old session (Err WrongCase) old None own) (sym other) (refl, refl))

-- a decision replies a verdict, or is refused
same_fault : (result : Result Verdict Fault) (fault : Fault) → replied Decided result ≡ Refused fault → result ≡ Err fault
same_fault (Ok verdict) fault e = cc
same_fault (Err told) fault e = let same : told ≡ fault = cc in ap Err same

pub decided : (old new : Filed) (session index : ℕ) (result : Result Verdict Fault) → Step old.world (Decide session) (replied Decided result) new.world → new ≡ record old { world = new.world; totals = moved old.totals (replied Decided result) }
    → (is_some (open_case old.world session) ≡ true → has_index (token_of old.tokens session) index ≡ true) → DecidesBy old session index result new
decided old new session index result (refused fault why told same) stays own =
    subst (λ told. By old session result new told (has_index (token_of old.tokens session) index)) (sym why) (same_fault result fault told, stays ∙ (λ i. record old { world = same i; totals = moved old.totals (told i) }))
decided old new session index result (starved none takes told same) stays own = cc
decided old new session index result (taken none t) stays own =
    let found : open_case old.world session ≡ Some (t.1, t.2) = ap (option_and_then (λ row. case_of row.standing)) t.3 ∙ ap case_of t.4 in
    subst (λ told. By old session result new told (has_index (token_of old.tokens session) index)) (sym none)
    (subst (λ own. By old session result new None own) (sym (own (ap is_some found))) (taken none t, stays))
