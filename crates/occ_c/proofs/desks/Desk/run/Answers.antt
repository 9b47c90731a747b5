use Rattle.std.proofs.Common.{rules, ℤ, Err, Vec, ap, ◌∙◌}
use Rattle.std.specs.Global.{Global}
use Rattle.occ_sets.specs.declared.operations.Op as code_op
use Rattle.occ_c.proofs.Holdings.{ran_in, restored}
use Rattle.occ_c.proofs.desks.Desk.run.Goals as goal

pub returns-in-Ok : goal.returns-in-Ok
returns-in-Ok c = ran_in c.args.self.now c.keep_run.new.self c.run_alone.new.self c.replace-operations.result c.replace-operations.new.dest c.in-Ok.done c.keep_run.result c.replace-operations.ensures.value
    (ap (λ (v : Vec (code_op.Op Global) Global). v.items) c.replace-operations.ensures.after ∙ c.new.ensures.items) c.in-Ok.ensures.ran c.keep_run.ensures

pub returns-in-Err : goal.returns-in-Err
returns-in-Err c = record {
  came = Err c.in-Err.missed;
  is = c.in-Err.ensures.ran.0;
  answer = ap (λ (code : ℤ). Err code) (search rules);
  kept = restored c.args.self.now c.run_alone.new.self c.replace-operations.result c.in-Err.operations c.in-Err.ensures.ran.1 c.replace-operations.ensures.value;
}
