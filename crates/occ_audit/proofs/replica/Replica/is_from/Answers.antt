use Rattle.std.proofs.Common.{None, refl, sym, subst, ◌∙◌}
use Rattle.occ_audit.proofs.Common.{answer-nowhere}
use Rattle.occ_audit.proofs.Lent.{get-in}
use Rattle.occ_audit.proofs.Tables.{AllSame, same-all}
use Rattle.occ_audit.proofs.replica.Replica.is_from.Goals as goal

pub returns : goal.returns
returns g c =
    let s = c.args.tables.now.state in
    let t = c.args.self.now in (
      λ _. same-all s t c.args.first c.self.inside.tables.entries c.requires.below
          (subst (AllSame s t c.args.first) c.into_iter-table-iterator.ensures.into_iter_gives.0 (c.loop-table.invariant (subst (AllSame s t c.args.first) (sym c.in-None.ensures.steps.0) tt)))
          (λ u h none.
          answer-nowhere s u None None (λ k. c.requires.no_more (u, k) h)
          ∙ sym (answer-nowhere t u None None (get-in c.self.inside.tables.entries u t None c.self.view_is none))),
      λ _. refl,
    )
