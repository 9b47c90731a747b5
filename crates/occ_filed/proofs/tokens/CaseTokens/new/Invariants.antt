use Rattle.std.proofs.Common.{◌≡◌, ℕ, length, get_or, None}
use Rattle.occ_filed.proofs.tokens.CaseTokens.new.Given as goal

-- there are so many places so far, and each has none
abbrev pub invariant-loop : goal.invariant-loop
invariant-loop g l = (length l.tokens.items ≡ l.counter) × ((place : ℕ) → get_or l.tokens.items place None ≡ None)
