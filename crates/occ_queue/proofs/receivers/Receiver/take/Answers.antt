use Rattle.std.proofs.Common.{ap, subst, ◌∙◌, arith}
use mathlib.Core.List.{IsPrefix}
use Rattle.occ_queue.specs.Items.{item_of, items_of}
use Rattle.occ_queue.specs.Lanes.{Known}
use Rattle.occ_queue.proofs.Passing.{takes, left}
use Rattle.occ_queue.proofs.Ends.{few, one_more, taken_keeps, nothing_left, next_told, none_told, not_after}
use Rattle.occ_queue.proofs.receivers.Receiver.take.Goals as goal

pub pop_as-requires-clause-rule : goal.pop_as-requires-clause-rule
pop_as-requires-clause-rule g c = (takes _ _ c.self.invariant.1.0 c.self.invariant.1.1, left _ _ c.self.invariant.1.1)

pub returns-in_default-clause-none : goal.returns-in_default-clause-none
returns-in_default-clause-none g c =
    let seen = c.in_default.ensures in (
      (λ i. record { lane = seen.queue.0 i; before = ap (λ v. v.before) seen.rule.0 i; pushed = ap (λ v. items_of v.pushed) seen.rule.0 i; taken = ap (λ v. items_of v.taken) seen.rule.0 i }) ∙ c.self.view_is,
      subst (λ (k : Known). IsPrefix k.pushed k.taken) c.self.view_is (nothing_left _ _ seen.rule.1),
    )

pub returns-in_default-clause-told : goal.returns-in_default-clause-told
returns-in_default-clause-told g c =
    none_told _ _ _ (subst (λ (k : Known). IsPrefix k.pushed k.taken) c.self.view_is (nothing_left _ _ c.in_default.ensures.rule.1))

pub overflow_add-self : goal.overflow_add-self
overflow_add-self g c =
    let most = few _ _ _ c.self.invariant.4 in
    let count = c.self.invariant.2 in
    omega arith

pub invariant_of-self-2 : goal.invariant_of-self-2
invariant_of-self-2 g c =
    let inv = c.self.invariant in
    let same = c.in-Some.ensures.queue in
    let told = c.in-Some.ensures.rule in
    let kept = taken_keeps _ _ c.in-Some.item _ c.self.inside.closed told.0 told.1 (inv.1, inv.2, inv.3, inv.4) in
    ((same.0 ∙ inv.0.0, same.2 ∙ inv.0.1), kept.0, kept.1, c.is_mark-self-inside.ensures ∙ kept.2, kept.3)

pub returns-clause-told : goal.returns-clause-told
returns-clause-told g c =
    next_told _ _ _ _ (one_more _ _ _ c.in-Some.item c.args.self.now (ap (λ (k : Known). k.pushed) c.self.view_is) (ap (λ (k : Known). k.taken) c.self.view_is) c.in-Some.ensures.rule.1)

pub returns-clause-closed : goal.returns-clause-closed
returns-clause-closed g c =
    not_after _ c.args.self.now.pushed c.args.self.now.taken (item_of c.in-Some.item)
    (one_more _ _ _ c.in-Some.item c.args.self.now (ap (λ (k : Known). k.pushed) c.self.view_is) (ap (λ (k : Known). k.taken) c.self.view_is) c.in-Some.ensures.rule.1)
