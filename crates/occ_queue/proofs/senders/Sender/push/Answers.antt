use Rattle.std.proofs.Common.{◌+◌, sym, ap, ◌∙◌}
use Rattle.occ_queue.proofs.Passing.{sends, held}
use Rattle.occ_queue.proofs.Ends.{may_push, pushed_keeps}
use Rattle.occ_queue.proofs.senders.Sender.push.Goals as goal

pub push_as-requires-clause-rule : goal.push_as-requires-clause-rule
push_as-requires-clause-rule g c =
    (sends _ _ _ _ c.self.invariant.2.0 c.self.invariant.2.1 (may_push _ _ c.args.self.now _ (ap (λ k. k.before) c.self.view_is) (ap (λ k. k.pushed) c.self.view_is) c.requires), held _ _ c.self.invariant.2.0)

pub invariant_of-self : goal.invariant_of-self
invariant_of-self g c =
    let inv = c.self.invariant in
    let same = c.in-Ok.ensures.queue in
    let law = may_push _ _ c.args.self.now _ (ap (λ k. k.before) c.self.view_is) (ap (λ k. k.pushed) c.self.view_is) c.requires in
    let kept = pushed_keeps _ _ c.args.item _ c.in-Ok.ensures.rule law (inv.2, inv.4, inv.5, inv.6) in
    ((same.0 ∙ inv.0.0, same.2 ∙ inv.0.1), inv.1 ∙ ap (λ t. t.slots) (sym same.0), kept.0, inv.3 ∙ ap (λ v. v.before) (sym c.in-Ok.ensures.rule), c.push.ensures ∙ (λ i. record { pushed = c.self.inside.numbering.pushed + 1; closed = c.is_mark-closes.ensures i }) ∙ kept.1, kept.2, kept.3)
