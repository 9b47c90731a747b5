-- The tokens of sessions.
use Rattle.std.proofs.Common.{◌≡◌, ℕ, zero, suc, ◌-◌, ◌<◌, ◌≤◌, ◌⊎◌, inl, inr, Bool, true, false, List, [], ◌∷◌, ◌++◌, length, get_or, Option, None, Some, refl, sym, ap, ◌∙◌, arith, slice_set}
use Rattle.std.specs.Prelude.{◌==◌}
use Rattle.std.proofs.lemmas.Bool.{eqb-true, eq-eqb}
use Rattle.std.proofs.lemmas.List.{get_or-set_same, get_or-set_other, length-set}
use Rattle.boxcar.specs.Table.{Where}
use Rattle.occ_model.specs.Log.{Case}
use Rattle.occ_model.specs.Event.{Reply, Entered}
use Rattle.occ_model.proofs.Tests.{decided}
use Rattle.occ_filed.specs.Filed.{Tokens, token_of, kept, kept_after}

-- one more place with none leaves none
pub none_pushed : (tokens : Tokens) → ((place : ℕ) → get_or tokens place None ≡ None) → (place : ℕ) → get_or (tokens ++ None ∷ []) place None ≡ None
none_pushed [] none zero = refl
none_pushed [] none (suc place) = refl
none_pushed (x ∷ xs) none zero = none zero
none_pushed (x ∷ xs) none (suc place) = none_pushed xs (λ p. none (suc p)) place

pub all_none : (tokens : Tokens) → ((place : ℕ) → get_or tokens place None ≡ None) → (session : ℕ) → token_of tokens session ≡ None
all_none tokens none zero = refl
all_none tokens none (suc place) = none place

-- the tokens stay as many
pub kept_length : (tokens : Tokens) (session : ℕ) (token : Option (Where Case)) → length (kept tokens session token) ≡ length tokens
kept_length tokens zero token = refl
kept_length tokens (suc place) token = length-set tokens place token

-- the token that is kept
pub kept_own : (tokens : Tokens) (session : ℕ) (token : Option (Where Case)) → 1 ≤ session → session ≤ length tokens → token_of (kept tokens session token) session ≡ token
kept_own tokens zero token from below = absurd (omega arith)
kept_own tokens (suc place) token from below = get_or-set_same tokens place token None below

pub kept_other : (tokens : Tokens) (session other : ℕ) (token : Option (Where Case)) → (other ≡ session → ⊥) → token_of (kept tokens session token) other ≡ token_of tokens other
kept_other tokens zero other token apart = refl
kept_other tokens (suc place) zero token apart = refl
kept_other tokens (suc place) (suc other) token apart = get_or-set_other tokens place other token None (λ e. apart (ap suc e))

-- a session that keeps none has none
pub kept_none : (tokens : Tokens) (session : ℕ) → token_of (kept tokens session None) session ≡ None
kept_none tokens zero = refl
kept_none tokens (suc place) = go tokens place
  where
    go : (tokens : Tokens) (place : ℕ) → get_or (slice_set tokens place None) place None ≡ None
    go [] place = refl
    go (x ∷ xs) zero = refl
    go (x ∷ xs) (suc place) = go xs place

-- keeping twice is keeping the second
pub kept_twice : (tokens : Tokens) (session : ℕ) (first second : Option (Where Case)) → kept (kept tokens session first) session second ≡ kept tokens session second
kept_twice tokens zero first second = refl
kept_twice tokens (suc place) first second = go tokens place
  where
    go : (tokens : Tokens) (place : ℕ) → slice_set (slice_set tokens place first) place second ≡ slice_set tokens place second
    go [] place = refl
    go (x ∷ xs) zero = refl
    go (x ∷ xs) (suc place) = ap (λ l. x ∷ l) (go xs place)

-- what stands there now: the one that is kept, or what stood there
pub kept_from : (tokens : Tokens) (session other : ℕ) (token : Option (Where Case)) (now : Where Case) → token_of (kept tokens session token) other ≡ Some now
    → (token ≡ Some now) × (other ≡ session) ⊎ (token_of tokens other ≡ Some now)
kept_from tokens zero other token now is = inr is
kept_from tokens (suc place) zero token now is = cc
kept_from tokens (suc place) (suc other) token now is = go tokens place other is
  where
    up : (place other : ℕ) → (token ≡ Some now) × (other ≡ place) ⊎ (get_or tokens other None ≡ Some now) → (token ≡ Some now) × (suc other ≡ suc place) ⊎ (get_or tokens other None ≡ Some now)
    up place other (inl own) = inl (own.0, ap suc own.1)
    up place other (inr was) = inr was

    go : (tokens : Tokens) (place other : ℕ) → get_or (slice_set tokens place token) other None ≡ Some now → (token ≡ Some now) × (suc other ≡ suc place) ⊎ (get_or tokens other None ≡ Some now)
    go [] place other is = inr is
    go (x ∷ xs) zero zero is = inl (is, refl)
    go (x ∷ xs) zero (suc other) is = inr is
    go (x ∷ xs) (suc place) zero is = inr is
    go (x ∷ xs) (suc place) (suc other) is = at (go xs place other is)
      where
        at : (token ≡ Some now) × (suc other ≡ suc place) ⊎ (get_or xs other None ≡ Some now) → (token ≡ Some now) × (suc (suc other) ≡ suc (suc place)) ⊎ (get_or xs other None ≡ Some now)
        at (inl own) = inl (own.0, ap suc own.1)
        at (inr was) = inr was

-- what is kept where there is such a session, and where there is none
pub kept_at : (tokens : Tokens) (session : ℕ) (token : Option (Where Case)) → 1 ≤ session → slice_set tokens (session - 1) token ≡ kept tokens session token
kept_at tokens zero token from = absurd (omega arith)
kept_at tokens (suc place) token from =
    let same : suc place - 1 ≡ place = omega arith in
    ap (λ p. slice_set tokens p token) same

pub kept_past : (tokens : Tokens) (session : ℕ) (token : Option (Where Case)) → length tokens < session → tokens ≡ kept tokens session token
kept_past tokens zero token past = refl
kept_past tokens (suc place) token past = go tokens place (omega (arith, past))
  where
    go : (tokens : Tokens) (place : ℕ) → length tokens ≤ place → tokens ≡ slice_set tokens place token
    go [] place past = refl
    go (x ∷ xs) zero past = absurd (omega arith)
    go (x ∷ xs) (suc place) past = ap (λ l. x ∷ l) (go xs place (omega (arith, past)))
