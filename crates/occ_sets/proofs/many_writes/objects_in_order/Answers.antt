use Rattle.std.proofs.Common.{sym, ap, ◌∙◌}
use Rattle.std.proofs.lemmas.List.Sorted.{list_any-IsPermutation}
use Rattle.std.specs.List.{list_any}
use Rattle.occ_types.specs.Question.{asks}
use Rattle.occ_types.specs.PlainData.{object_of}
use Rattle.occ_sets.proofs.Meetings.{meets_question-keys}
use Rattle.occ_sets.proofs.many_writes.objects_in_order.Goals as goal

-- the objects of the map, in another order
pub returns : goal.returns
returns g c = record {
  sorted = c.sort_unstable.ensures.sorted;
  same = λ question.
      sym (list_any-IsPermutation (λ o. asks question (object_of o)) c.in_ok-objects.objects.items c.sort_unstable.new.self.items c.sort_unstable.ensures.permutation)
      ∙ ap (list_any (λ o. asks question (object_of o))) c.in_ok-objects.ensures
      ∙ meets_question-keys question c.args.map.now.entries;
}
