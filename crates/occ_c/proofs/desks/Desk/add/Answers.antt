use Rattle.std.proofs.Common.{inr, refl, ap, sym, subst, ◌≡◌, ◌++◌, ◌∙◌, ◌∷◌, [], List, map, Result, OnOk}
use Rattle.std.proofs.lemmas.List.{map-append}
use Rattle.std.proofs.lemmas.Result.{on_ok_weaker}
use Rattle.occ_sets.specs.Operations.{op_of, ops_of}
use Rattle.occ_c.proofs.desks.Desk.add.Goals as goal

pub returns : goal.returns
returns c = inr (record {
  operation = op_of c.in_ok-operation.operation;
  is = c.in_ok-operation.ensures.read;
  kept = refl;
  ok = on_ok_weaker c.push_operation.result
      (λ pushed. ap ops_of pushed ∙ map-append op_of c.args.self.now.kept.operations.items (c.in_ok-operation.operation ∷ [])) c.push_operation.ensures.ok;
  err = c.push_operation.ensures.err;
  told = c.push_operation.ensures.told;
})
