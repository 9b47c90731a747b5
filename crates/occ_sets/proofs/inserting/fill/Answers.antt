use Rattle.std.proofs.Common.{◌≡◌, ◌∙◌, Option, sym, ap, arith, rules, map-id}
use Rattle.std.proofs.lemmas.List.{length_push}
use Rattle.std.proofs.lemmas.Iterator.Consumers.{YieldsList-end, YieldsList-turn}
use Rattle.std.proofs.lemmas.Iterator.Adapters.{YieldsList-from_vec}
use Rattle.occ_types.specs.declared.objects.Object as code
use Rattle.occ_types.specs.Row.{Row}
use Rattle.occ_types.specs.PlainData.{object_of}
use Rattle.occ_model.specs.Overlay.{set}
use Rattle.occ_model.specs.RangeLaws.{set_all}
use Rattle.occ_sets.specs.PlainSets.{writes_of}
use Rattle.occ_sets.proofs.Placed.{set_all_once, set_all_push}
use Rattle.occ_sets.proofs.inserting.fill.Goals as goal

-- a write that is taken was left, so there is room for it
pub put-requires : goal.put-requires
put-requires g c =
    let turn = YieldsList-turn (YieldsList-from_vec {s = c.into_iter-object-iterator.result} c.args.list.items (search rules) (search rules))
    c.loop-object.yielded c.loop-object.object-iterator c.loop-object.yielded_by c.next.result c.next.new.self (c.in-Some.object, c.in-Some.row) c.in-Some.is c.next.ensures.steps in
    omega (arith, turn.0, c.loop-object.invariant.1)

-- one more is moved
pub loop-object-preserved : goal.loop-object-preserved
loop-object-preserved g c =
    let done = c.loop-object.yielded in
    let next : code.Object g.row.A.Denot × Option Row = (c.in-Some.object, c.in-Some.row) in (
      c.put.ensures.done
          ∙ ap (λ ws. set ws (object_of c.in-Some.object) c.in-Some.row) c.loop-object.invariant.0
          ∙ sym (set_all_push done next),
      omega (arith, c.put.ensures.room, c.loop-object.invariant.1, length_push done next),
    )

-- all are moved
pub returns : goal.returns
returns g c =
    let end = YieldsList-end (YieldsList-from_vec {s = c.into_iter-object-iterator.result} c.args.list.items (search rules) (search rules))
    c.loop-object.yielded c.loop-object.object-iterator c.loop-object.yielded_by c.next.result c.next.new.self c.in-None.is c.next.ensures.steps in
    let all : c.loop-object.yielded ≡ c.args.list.items = sym (map-id c.loop-object.yielded) ∙ end.0 in
    c.loop-object.invariant.0 ∙ ap (λ es. set_all (writes_of es)) all ∙ set_all_once (writes_of c.args.list.items) c.requires.once
