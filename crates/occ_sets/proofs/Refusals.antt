-- Refusals for memory, where there is room.
use Rattle.std.proofs.Common.{◌≡◌, Bool, false, cond, Result, Ok, Err, refl, ◌∙◌, sym, ap}
use Rattle.std.specs.Prelude.{IfErr, IsOk, OnErr, OnOk, MatchResult}
use Rattle.occ_types.specs.declared.fault.Fault.TheVariants.{SetFull, Memory}
use Rattle.occ_types.specs.declared.fault.Refused.{Refused}

module _ {X Y : Type 0} where
  -- what is refused where there is room is refused for memory alone, and so it is told
  pub told_memory : (r : Result X (Refused Y)) (full : Bool) → full ≡ false → IfErr r (λ refused. refused.fault ≡ Memory) → MatchResult r (λ _. full ≡ false) (λ refused. refused.fault ≡ cond full SetFull Memory)
  told_memory (Ok x) full room h = room
  told_memory (Err refused) full room h = h ∙ sym (ap (λ b. cond b SetFull Memory) room)

-- what holds where there is a result holds
pub when_ok : {X Y P : Type 0} (r : Result X Y) → IsOk r → OnOk r P → P
when_ok (Ok x) ok h = h
when_ok (Err y) ok h = cc

-- and what holds where there is none holds
pub when_err : {X Y P : Type 0} (r : Result X Y) (y : Y) → r ≡ Err y → OnErr r P → P
when_err (Ok x) y is h = cc
when_err (Err z) y is h = h

-- a result is one
pub told_ok : {X Y : Type 0} (r : Result X Y) (x : X) → r ≡ Ok x → IsOk r
told_ok (Ok x) z is = refl
told_ok (Err y) z is = cc
