use Rattle.std.proofs.Common.{length, sym, ◌∙◌, arith, rules, option_copied}
use Rattle.std.proofs.lemmas.List.Sorted.{IsPartitionPoint-from_clause}
use Rattle.occ_types.specs.PlainData.{end_of, object_of, question_of}
use Rattle.occ_sets.specs.InOrder.{stands_before}
use Rattle.occ_sets.proofs.Searches.{parted, past_all, range_first, range_none}
use Rattle.occ_sets.proofs.many_writes.is_first_asked.Goals as goal

-- the range asks for the object at the place, or for none
pub returns-then-place-objects : goal.returns-then-place-objects
returns-then-place-objects g c =
    let lower = end_of (option_copied c.args.lower) in
    let point = IsPartitionPoint-from_clause (λ o. stands_before c.args.table lower (object_of o)) _ _ c.partition_point-place.ensures.partitioned (parted c.args.table lower c.args.objects.now c.requires.sorted) (λ a r q k. search rules) in
    c.is_asked.ensures ∙ sym (range_first (question_of c.args.question.now) c.args.table lower c.requires.range c.args.objects.now c.partition_point-place.result c.index-objects-place.result c.requires.sorted point (omega arith) c.index-objects-place.is)

-- all objects stand before the range
pub returns-else-place-objects : goal.returns-else-place-objects
returns-else-place-objects g c =
    let lower = end_of (option_copied c.args.lower) in
    let point = IsPartitionPoint-from_clause (λ o. stands_before c.args.table lower (object_of o)) _ _ c.partition_point-place.ensures.partitioned (parted c.args.table lower c.args.objects.now c.requires.sorted) (λ a r q k. search rules) in
    past_all c.partition_point-place.result (length c.args.objects.now) c.if-place-objects.false
    ∙ sym (range_none (question_of c.args.question.now) c.args.table lower c.requires.range c.args.objects.now c.partition_point-place.result point (omega arith))
