use Rattle.std.proofs.Common.{◌≡◌, ℕ, length, get_or, false}
use Rattle.occ_store.proofs.validators.unmarked.Given as goal

-- so many marks so far, none of which is set
abbrev pub invariant-loop : goal.invariant-loop
invariant-loop g l = (length l.marks.items ≡ l.counter) × ((place : ℕ) → get_or l.marks.items place false ≡ false)
