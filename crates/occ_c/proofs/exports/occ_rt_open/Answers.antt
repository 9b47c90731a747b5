use Rattle.std.proofs.Common.{rules, Ok, Err, refl}
use Rattle.occ_c.proofs.Holdings.{both_told}
use Rattle.occ_c.proofs.exports.occ_rt_open.Goals as goal

pub returns-in-Ok : goal.returns-in-Ok
returns-in-Ok c = record { came = Ok c.in-Ok.desk.value; is = c.in-Ok.ensures; told = refl }

pub returns-in-Err : goal.returns-in-Err
returns-in-Err c = record { came = Err c.in-Err.trouble; is = c.in-Err.ensures; told = both_told _ _ _ _ (search rules) c.line_of.ensures }
