-- The cause that a back-up tells may be told; and it is the one that was kept since the decision.
use Rattle.std.proofs.Common.{◌≡◌, ℕ, true, Bool, Option, None, Some, option_and_then, not, refl, sym, ap, ◌∙◌}
use Rattle.occ_types.specs.Schema.{fault_if}
use Rattle.occ_types.specs.declared.fault.Fault.TheVariants as faults
use Rattle.occ_model.specs.Log.{LogRow, Standing, Open, Writing, Done, Back, is_back}
use Rattle.occ_model.specs.World.{World, latest}
use Rattle.occ_model.specs.Event.{BackUp, BackedUp}
use Rattle.occ_model.specs.Refusal as refusals
use Rattle.occ_model.specs.Step.{Step, refused, starved, taken}
use Rattle.occ_model.specs.Invariant.{Invariant}
use Rattle.occ_model.specs.Poll.{Poll, poll, outcome, row_numbered, settled_number}
use Rattle.occ_model.specs.EndLaws.{IsToBackUp}
use Rattle.occ_model.specs.declared.verdict.Verdict.{Verdict}
use Rattle.occ_model.specs.declared.verdict.Verdict.TheVariants as verdicts
use Rattle.occ_model.specs.declared.verdict.Cause.{Cause}
use Rattle.occ_model.proofs.Tests.{not_false}
use Rattle.occ_model.proofs.Phases.{not_refused}
use Rattle.occ_model.proofs.Admitted.{passed}
use Rattle.occ_model.proofs.EndsShown.{steps_show}
use Rattle.occ_published.specs.Published.{MayTell}
use Rattle.occ_store.specs.Locked.{cause_of, cause_told}

abbrev ended : Option LogRow → Option Verdict
ended = option_and_then (λ row. outcome row.standing)

-- what a back-up says of the two rows: the session's latest one stands as backed up, if it is there, and that under the number ended alike
record Rows (old new : World) (session number : ℕ) : Type 0 where
  back : refusals.row_is_back old session ≡ true
  shown : (poll new session).ended ≡ ended (latest session old.log)
  alike : ended (row_numbered session number new.log) ≡ ended (latest session old.log)

rows : (old new : World) (session number : ℕ) → Invariant old → Step old (BackUp session) (BackedUp number) new → Rows old new session number
rows old new session number inv (refused fault is told same) = cc
rows old new session number inv (starved none takes told same) = cc
rows old new session number inv (taken none t) =
    let a = passed (refusals.no_session old session) _ none in
    let b = passed (refusals.nothing_entered old session) _ a.1 in
    let c = passed (refusals.not_decided old session) _ b.1 in
    let d = passed (fault_if (not (refusals.row_is_back old session)) faults.AlreadyDecided) _ c.1 in
    let shows = steps_show old new (BackUp session) (BackedUp number) inv (taken none t) in
    let number_is : settled_number new session ≡ number = ap (λ (p : Poll). p.settled) shows.1.own ∙ sym shows.0 in
    let shown : (poll new session).ended ≡ ended (latest session old.log) = ap (λ (p : Poll). p.ended) shows.1.own in
    record {
      back = not_false (refusals.row_is_back old session) (not_refused (not (refusals.row_is_back old session)) faults.AlreadyDecided d.0);
      shown = shown;
      alike = ap (λ n. ended (row_numbered session n new.log)) (sym number_is) ∙ shown;
    }

-- a row that stands as backed up ended so
back_ended : (found : Option LogRow) → (elim found as (λ _. Bool) [ None ↦ true | Some row ↦ is_back row.standing ]) ≡ true → (verdict : Verdict) → ended found ≡ Some verdict
    → (cause : Cause) × (verdict ≡ verdicts.BackUp cause)
back_ended None back verdict is = cc
back_ended (Some row) back verdict is = go row.standing back is
  where
    go : (s : Standing) → is_back s ≡ true → outcome s ≡ Some verdict → (cause : Cause) × (verdict ≡ verdicts.BackUp cause)
    go (Open index case) back is = cc
    go (Writing done) back is = cc
    go (Done number) back is = cc
    go (Back cause) back is = (cause, cc)

told_is : (kept : Cause) (found : Option LogRow) (verdict : Verdict) → ended found ≡ Some verdict → (cause : Cause) × (verdict ≡ verdicts.BackUp cause) → verdict ≡ verdicts.BackUp (cause_told kept found)
told_is kept None verdict is back = cc
told_is kept (Some row) verdict is back = go row.standing is
  where
    go : (s : Standing) → outcome s ≡ Some verdict → verdict ≡ verdicts.BackUp (cause_of kept s)
    go (Open index case) is = cc
    go (Writing done) is = cc
    go (Done number) is = let e = back.1 in cc
    go (Back cause) is = cc

pub may_tell : (old new : World) (session number : ℕ) (kept : Cause) → Invariant old → Step old (BackUp session) (BackedUp number) new → MayTell new session (cause_told kept (row_numbered session number new.log))
may_tell old new session number kept inv step verdict is =
    let r = rows old new session number inv step in
    let there : ended (latest session old.log) ≡ Some verdict = sym r.shown ∙ is in
    told_is kept (row_numbered session number new.log) verdict (r.alike ∙ there) (back_ended (latest session old.log) r.back verdict there)

-- where the transaction waits for its back-up for a cause, that is told
pub kept_is_told : (old new : World) (session number : ℕ) (kept : Cause) → Invariant old → Step old (BackUp session) (BackedUp number) new → IsToBackUp session kept old
    → cause_told kept (row_numbered session number new.log) ≡ kept
kept_is_told old new session number kept inv step waits =
    go (row_numbered session number new.log) (latest session old.log) waits.stands (rows old new session number inv step).alike
  where
    at : (s : Standing) (found : Option LogRow) → ((row : LogRow) → found ≡ Some row → row.standing ≡ Back kept) → outcome s ≡ ended found → cause_of kept s ≡ kept
    at (Open index case) found stands alike = refl
    at (Writing done) found stands alike = refl
    at (Done number) found stands alike = refl
    at (Back cause) None stands alike = cc
    at (Back cause) (Some row) stands alike = let e : outcome (Back cause) ≡ outcome (Back kept) = alike ∙ ap outcome (stands row refl) in cc

    go : (one found : Option LogRow) → ((row : LogRow) → found ≡ Some row → row.standing ≡ Back kept) → ended one ≡ ended found → cause_told kept one ≡ kept
    go None found stands alike = refl
    go (Some row) found stands alike = at row.standing found stands alike
