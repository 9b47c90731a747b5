-- A fault that a call hands on has the cause that it had.
use Rattle.std.proofs.Common.{◌≡◌, Result, Ok, Err, sym, ◌∙◌}
use Rattle.std.specs.Prelude.{IfErr}
use Rattle.std.specs.Result.{IsErrAnd}

pub caused : {T E : Type 0} (fault kind : E) (result : Result T E) (Cause : Type 0) → IsErrAnd result (λ e. e ≡ fault) → (fault ≡ kind → Cause) → IfErr result (λ e. e ≡ kind → Cause)
caused fault kind (Ok x) Cause is h = tt
caused fault kind (Err e) Cause is h = λ (same : e ≡ kind). h (sym is ∙ same)

-- what may be so at any fault may be so at one kind of it
pub may_take : {T E : Type 0} {Cause : Type 0} (kind : E) (result : Result T E) → Cause → IfErr result (λ e. e ≡ kind → Cause)
may_take kind (Ok x) cause = tt
may_take kind (Err e) cause = λ same. cause
