-- A word says one thing.
use Rattle.std.proofs.Common.{◌≡◌, ℕ, ◌+◌, ◌*◌, ◌<◌, zero, suc, List, [], ◌∷◌, ◌++◌, take, map, replicate, Option, None, Some, refl, sym, ap, ◌∙◌, arith}
use Rattle.occ_model.specs.declared.verdict.Cause.TheVariants.{Conflict, TooOld}
use Rattle.occ_model.specs.declared.verdict.Verdict.{Verdict}
use Rattle.occ_model.specs.declared.verdict.Verdict.TheVariants.{Commit, BackUp}
use Rattle.occ_board.specs.declared.words.Last.{Last}
use Rattle.occ_board.specs.Words.{code, word_of, nothing, blank, written, HasRoom}

status_of : ℕ → Option Verdict
status_of zero = None
status_of (suc zero) = Some Commit
status_of (suc (suc zero)) = Some (BackUp Conflict)
status_of (suc (suc (suc n))) = Some (BackUp TooOld)

status-code : (status : Option Verdict) → status_of (code status) ≡ status
unfolding status_of
status-code None = refl
status-code (Some Commit) = refl
status-code (Some (BackUp Conflict)) = refl
status-code (Some (BackUp TooOld)) = refl

code-small : (status : Option Verdict) → code status < 4
code-small None = omega arith
code-small (Some Commit) = omega arith
code-small (Some (BackUp Conflict)) = omega arith
code-small (Some (BackUp TooOld)) = omega arith

one-status : (a b : Option Verdict) → code a ≡ code b → a ≡ b
one-status a b same = sym (status-code a) ∙ ap status_of same ∙ status-code b

parts : (tn number code tn' number' code' : ℕ) → number < 1073741824 → number' < 1073741824 → code < 4 → code' < 4
    → tn * 4294967296 + number * 4 + code ≡ tn' * 4294967296 + number' * 4 + code' → (tn ≡ tn') × (number ≡ number') × (code ≡ code')
parts tn number code tn' number' code' a b c d same = (omega arith, omega arith, omega arith)

pub one-word : (a b : Last) → HasRoom a → HasRoom b → word_of a ≡ word_of b → a ≡ b
one-word a b room room' same =
    let small = room.number in let small' = room'.number in
    let p = parts a.tn a.number (code a.status) b.tn b.number (code b.status) (omega arith) (omega arith) (code-small a.status) (code-small b.status) same in
    λ i. record { number = p.1 i; status = one-status a.status b.status p.2 i; tn = p.0 i }

pub blank-words : (sessions : ℕ) → map word_of (replicate sessions nothing) ≡ replicate sessions 0
blank-words zero = refl
blank-words (suc n) = ap (λ (l : List ℕ). 0 ∷ l) (blank-words n)

nothing-taken : (k : ℕ) → ◌≡◌ {A = List ℕ} (take k []) []
nothing-taken zero = refl
nothing-taken (suc k) = refl

-- the words of a new board
pub blank-memory : (sessions k m : ℕ) (old memory : List ℕ) → memory ≡ take k old ++ replicate m 0 → old ≡ [] → m ≡ suc sessions → memory ≡ written (blank sessions)
blank-memory sessions k m old memory is none all =
    is ∙ ap (λ (l : List ℕ). take k l ++ replicate m 0) none ∙ ap (λ (l : List ℕ). l ++ replicate m 0) (nothing-taken k) ∙ ap (λ (n : ℕ). replicate n 0) all
    ∙ ap (λ (l : List ℕ). 0 ∷ l) (sym (blank-words sessions))
