use Rattle.std.proofs.Common.{Some, None, Ok, refl, ap, ◌∙◌, inl}
use Rattle.std.proofs.lemmas.Result.{err_from_is_err_and}
use Rattle.occ_types.specs.PlainData.{object_of}
use Rattle.occ_core.specs.declared.steps.Step.TheVariants as steps
use Rattle.occ_core.proofs.Replied.{refused_as}
use Rattle.occ_core.proofs.SingleWrites.{write_said}
use Rattle.occ_core.proofs.core_state.Core.answer_write.Goals as goal

pub returns-in_err-write_one : goal.returns-in_err-write_one
returns-in_err-write_one g c =
    let p = err_from_is_err_and c.from_residual.result c.from_residual.ensures.1 in
    refused_as c.args.self.now (steps.WriteOne c.args.session) (steps.WriteOne c.args.session) _ _ c.from_residual.result p.0 refl p.1 p.2 c.in_err-write_one.ensures.step c.in_err-write_one.ensures.totals refl

pub returns-in_default : goal.returns-in_default
returns-in_default g c =
    (inl (write_said c.args.self.now.world c.args.session None (Ok c.in_ok-write_one.field-0) c.write_one.new.self.world c.in_default.ensures.object c.in_ok-write_one.ensures.step), refl, c.in_ok-write_one.ensures.totals)

pub returns : goal.returns
returns g c = (
  inl (write_said c.args.self.now.world c.args.session (Some (object_of c.in-Ok.object)) (Ok c.in_ok-write_one-2.field-0) c.write_one-2.new.self.world
      (ap (λ (o : _). Some (object_of o)) c.in-Ok.ensures.cases ∙ c.in-Some.ensures.object) c.in_ok-write_one-2.ensures.step),
  refl,
  c.in_ok-write_one-2.ensures.totals,
)
