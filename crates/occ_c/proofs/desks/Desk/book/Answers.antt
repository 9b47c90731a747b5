use Rattle.std.proofs.Common.{rules, Ok, Err, refl}
use Rattle.occ_types.specs.declared.fault.Fault.TheVariants as faults
use Rattle.occ_c.proofs.Holdings.{weaker}
use Rattle.occ_c.proofs.desks.Desk.book.Goals as goal

pub returns-in-Ok-Err : goal.returns-in-Ok-Err
returns-in-Ok-Err c = record { came = Ok tt; is = weaker _ _ _ _ (λ before after did. (did.0, did.1)) c.in-Ok-Err.ensures; kept = (c.in-Ok-Err.fault, search rules, refl) }

pub returns-in-Err : goal.returns-in-Err
returns-in-Err c = record { came = Err c.in-Err.missed; is = c.in-Err.ensures; kept = (search rules, refl) }

pub returns-in_default : goal.returns-in_default
returns-in_default c = record { came = Ok tt; is = weaker _ _ _ _ (λ before after did. (did.0, did.1)) c.in-Ok-Ok.ensures; kept = (faults.Memory, search rules, refl) }

pub returns : goal.returns
returns c = record { came = Ok tt; is = weaker _ _ _ _ (λ before after did. (did.0, did.1)) c.in-Ok-Ok.ensures; kept = (search rules, refl) }
