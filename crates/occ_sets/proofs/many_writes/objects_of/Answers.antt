use Rattle.std.proofs.Common.{◌∙◌, rules}
use Rattle.std.proofs.lemmas.Iterator.Consumers.{YieldsList-end, YieldsList-from_rest}
use Rattle.std.specs.Map.{keys_of}
use Rattle.occ_sets.proofs.many_writes.objects_of.Goals as goal

-- all objects are copied
pub returns : goal.returns
returns g c =
    let end = YieldsList-end (YieldsList-from_rest {s = c.into_iter-object-iterator.result} (keys_of c.args.map.now.entries) (search rules))
    c.loop-object.yielded c.loop-object.object-iterator c.loop-object.yielded_by c.next.result c.next.new.self c.in-None.is c.next.ensures.steps in
    c.loop-object.invariant ∙ end.0
