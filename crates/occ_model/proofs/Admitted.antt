-- What a refusal that doesn't come says of the store.
use Rattle.std.proofs.Common.{◌≡◌, ℕ, true, false, List, ◌∷◌, Option, None, Some, refl}
use Rattle.std.proofs.lemmas.Bool.{eqb-true}
use Rattle.occ_types.specs.Schema.{first_fault}
use Rattle.occ_types.specs.declared.fault.Fault.{Fault}
use Rattle.occ_types.specs.declared.fault.Fault.TheVariants as faults
use Rattle.occ_model.specs.State.{Write}
use Rattle.occ_model.specs.World.{World, turn, due, is_held, has_mark, has_session}
use Rattle.occ_model.specs.Refusal as refusals
use Rattle.occ_model.specs.Refusal.{refusal_of_request, wrong_start}
use Rattle.occ_model.proofs.Tests as tests
use Rattle.occ_model.proofs.Phases.{not_refused}

pub passed : (test : Option Fault) (others : List (Option Fault)) → first_fault (test ∷ others) ≡ None → (test ≡ None) × (first_fault others ≡ None)
passed None others e = (refl, e)
passed (Some fault) others e = cc

-- what each guard of the entry of a request says
pub record Admitted (world : World) (session number start : ℕ) : Type 0 where
  pub exists : has_session world session ≡ true
  pub unmarked : has_mark world session ≡ false
  pub turn : number ≡ due world session
  pub free : is_held world session ≡ false
  pub start_is : wrong_start world session number start ≡ None

pub admitted : (world : World) (busy : Option Fault) (session number start : ℕ) (writes : List Write) → refusal_of_request world busy session number start writes ≡ None → Admitted world session number start × (busy ≡ None)
admitted world busy session number start writes none =
    let a = passed (refusals.no_session world session) _ none in
    let b = passed (refusals.session_closed world session) _ a.1 in
    let c = passed (refusals.not_due world session number) _ b.1 in
    let d = passed (refusals.session_busy world session) _ c.1 in
    let e = passed busy _ d.1 in
    let f = passed (refusals.numbers_exhausted number) _ e.1 in
    let g = passed (wrong_start world session number start) _ f.1 in (
      record {
        exists = tests.not_false _ (not_refused _ faults.NoSession a.0);
        unmarked = not_refused _ faults.SessionClosed b.0;
        turn = eqb-true number (due world session) (tests.not_false _ (not_refused _ faults.OutOfTurn c.0));
        free = not_refused _ faults.SessionBusy d.0;
        start_is = g.0;
      },
      e.0,
    )
