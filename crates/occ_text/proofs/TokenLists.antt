-- Tokens one after another.
use Rattle.std.proofs.Common.{ℕ, List, [], ◌∷◌, arith}
use Rattle.std.proofs.lemmas.List.Elements.{All-nil, All-cons}
use Rattle.occ_text.specs.Spelling.{IsToken, AreTokens}

pub one_token : {a : List ℕ} → IsToken a → AreTokens (a ∷ [])
one_token {a = a} p = record { some = omega arith; each = All-cons IsToken a [] p (All-nil IsToken) }

-- one token more before others
pub more_tokens : (a : List ℕ) (tokens : List (List ℕ)) → IsToken a → AreTokens tokens → AreTokens (a ∷ tokens)
more_tokens a tokens p rest = record { some = omega arith; each = All-cons IsToken a tokens p rest.each }

pub two_tokens : {a b : List ℕ} → IsToken a → IsToken b → AreTokens (a ∷ b ∷ [])
two_tokens {a = a} {b = b} p q = more_tokens a (b ∷ []) p (one_token q)
