use Rattle.std.proofs.Common.{None, refl, ap, arith}
use Rattle.occ_model.specs.Event.{Enter}
use Rattle.occ_queue.specs.Items.{item_of}
use Rattle.occ_queue.specs.declared.items.Item as code_item
use Rattle.occ_store.proofs.Keeping.{over_step, shown_after, came_stored, entered_counts}
use Rattle.occ_store.proofs.Happening.{enters, ran_on_so}
use Rattle.occ_store.proofs.shared.Shared.enter_unfiled.Goals as goal

pub account-requires-clause-may : goal.account-requires-clause-may
account-requires-clause-may g c =
    (came_stored _ _ _ _ _ c.enter_unfiled-came.result c.law.ensures.invariant c.enter_unfiled-came.ensures.step.0 refl c.law-2.ensures.fits c.self.invariant.shown.published).0

pub account-requires-clause-rows : goal.account-requires-clause-rows
account-requires-clause-rows g c = (let all = entered_counts _ _ _ _ _ c.self.invariant.shown.counted c.enter_unfiled-came.ensures.step.0 in omega arith)

pub invariant_of-self : goal.invariant_of-self
invariant_of-self g c =
    let stored = came_stored _ _ _ _ _ c.enter_unfiled-came.result c.law.ensures.invariant c.enter_unfiled-came.ensures.step.0 refl c.law-2.ensures.fits c.self.invariant.shown.published in record {
      shown = over_step _ _ _ c.self.inside.publisher _ _ _ _ _ c.enter_unfiled-came.ensures.step.0 (ap (λ f. f.file) c.enter_unfiled-came.ensures.step.1) (ap (λ p. p.board) c.account.ensures.words)
          (shown_after _ c.self.inside.publisher _ _ c.account.ensures.words stored.1)
          (let total = c.account.ensures.total in omega arith) c.self.invariant.shown;
      ran = ran_on_so g.N.Name.named _ _ _ _ _ (Enter c.args.session (item_of c.args.item)) _ (ap (λ (i : code_item.Item g.row.A.Denot). Enter c.args.session (item_of i)) c.of-about.ensures) c.self.invariant.ran c.enter_unfiled-came.ensures.step.0 c.add.ensures.added;
      here = c.self.invariant.here;
    }

pub returns-clause-step : goal.returns-clause-step
returns-clause-step g c = enters _ _ _ _ _ c.self.view_is c.args.me.now c.add.new.me _ _ _ c.self.inside.visitor _ _ c.add.ensures.added c.add.ensures.before c.add.ensures.whole c.add.ensures.seen c.args.session (item_of c.args.item) None (ap (λ (i : code_item.Item g.row.A.Denot). Enter c.args.session (item_of i)) c.of-about.ensures) (ap (λ p. p.words) c.account.ensures.words) c.enter_unfiled-came.ensures.step
