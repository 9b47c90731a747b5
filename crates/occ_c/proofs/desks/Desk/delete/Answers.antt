use Rattle.std.proofs.Common.{rules, ℤ, Ok, Err, refl, ap, inr}
use Rattle.occ_types.specs.PlainData.{key_of}
use Rattle.occ_c.proofs.desks.Desk.delete.Goals as goal

pub returns-in-Ok : goal.returns-in-Ok
returns-in-Ok c = inr (record {
  key = key_of c.in_ok-key.key;
  is = c.in_ok-key.ensures.read;
  did = record { came = Ok tt; is = (c.in-Ok.ensures.kept, (c.in-Ok.ensures.ok, c.in-Ok.ensures.fits)); answer = refl; kept = refl };
})

pub returns-in-Err : goal.returns-in-Err
returns-in-Err c = inr (record {
  key = key_of c.in_ok-key.key;
  is = c.in_ok-key.ensures.read;
  did = record {
    came = Err (record { value = tt; fault = c.in-Err.refused.fault });
    is = (c.in-Err.ensures.kept, (c.in-Err.ensures.err, c.in-Err.ensures.fault));
    answer = ap (λ (code : ℤ). Err code) (search rules);
    kept = refl;
  };
})
