use Rattle.std.proofs.Common.{◌≡◌, refl, ap, ◌∙◌, arith}
use Rattle.occ_model.specs.World.{World}
use Rattle.occ_model.specs.Poll.{row_numbered}
use Rattle.occ_model.specs.declared.verdict.Verdict.TheVariants.{BackUp}
use Rattle.occ_model.specs.declared.verdict.Cause.{Cause}
use Rattle.occ_board.specs.Words.{settled}
use Rattle.occ_store.specs.Locked.{cause_told}
use Rattle.occ_store.proofs.Keeping.{between, over_end, shown_after, back_up_stored}
use Rattle.occ_store.proofs.Happening.{backs_up, ran_on}
use Rattle.occ_store.proofs.shared.Shared.back_up.Goals as goal

pub settled-requires-clause-session : goal.settled-requires-clause-session
settled-requires-clause-session g c = (back_up_stored _ _ _ _ _ c.args.kept c.law.ensures.invariant c.in-Ok.ensures.0 c.law-in-Ok.ensures.fits c.self.invariant.shown.published).0.has

pub settled-requires-clause-number : goal.settled-requires-clause-number
settled-requires-clause-number g c =
    let may = (back_up_stored _ _ _ _ _ c.args.kept c.law.ensures.invariant c.in-Ok.ensures.0 c.law-in-Ok.ensures.fits c.self.invariant.shown.published).0 in
    let next = may.number_is in (omega arith, may.number_fits)

pub invariant_of-self : goal.invariant_of-self
invariant_of-self g c =
    let stored = back_up_stored _ _ _ _ _ c.args.kept c.law.ensures.invariant c.in-Ok.ensures.0 c.law-in-Ok.ensures.fits c.self.invariant.shown.published in
    let cause : c.cause_told-cause.result ≡ cause_told c.args.kept (row_numbered c.args.session c.in-Ok.number c.back_up.new.self.world.log) =
    c.cause_told-cause.ensures ∙ ap (λ (w : World). cause_told c.args.kept (row_numbered c.args.session c.in-Ok.number w.log)) c.core.ensures.world in
    record {
      shown = over_end _ _ _ c.self.inside.publisher _ _ _ _ refl c.in-Ok.ensures.0 (ap (λ f. f.file) c.in-Ok.ensures.1) (ap (λ p. p.board) c.settled.ensures)
          (shown_after _ c.self.inside.publisher _ _
          (c.settled.ensures ∙ ap (λ (x : Cause). record c.self.inside.publisher { words = settled c.self.inside.publisher.words c.args.session c.in-Ok.number (BackUp x) }) cause) stored.1)
          c.self.invariant.shown;
      ran = ran_on g.N.Name.named _ _ _ _ _ _ c.self.invariant.ran c.in-Ok.ensures.0 c.add.ensures.added;
      here = c.self.invariant.here;
    }

pub invariant_of-self-in-Err : goal.invariant_of-self-in-Err
invariant_of-self-in-Err g c = record {
  shown = between _ _ _ _ _ _ _ c.law.ensures.invariant refl refl c.in-Err.ensures.0 (ap (λ f. f.file) c.in-Err.ensures.1) c.self.invariant.shown;
  ran = ran_on g.N.Name.named _ _ _ _ _ _ c.self.invariant.ran c.in-Err.ensures.0 c.add-in-Err.ensures.added;
  here = c.self.invariant.here;
}

pub returns-in-Ok : goal.returns-in-Ok
returns-in-Ok g c =
    let cause : c.cause_told-cause.result ≡ cause_told c.args.kept (row_numbered c.args.session c.in-Ok.number c.back_up.new.self.world.log) =
    c.cause_told-cause.ensures ∙ ap (λ (w : World). cause_told c.args.kept (row_numbered c.args.session c.in-Ok.number w.log)) c.core.ensures.world in
    backs_up _ _ _ _ _ c.self.view_is c.args.me.now c.add.new.me _ _ _ c.self.inside.visitor _ _ c.add.ensures.added c.add.ensures.before c.add.ensures.whole c.add.ensures.seen c.args.session c.args.kept refl
    (ap (λ p. p.words) c.settled.ensures ∙ ap (λ (x : Cause). settled c.self.inside.publisher.words c.args.session c.in-Ok.number (BackUp x)) cause) c.in-Ok.ensures

pub returns-in-Err : goal.returns-in-Err
returns-in-Err g c = backs_up _ _ _ _ _ c.self.view_is c.args.me.now c.add-in-Err.new.me _ _ _ c.self.inside.visitor _ _ c.add-in-Err.ensures.added c.add-in-Err.ensures.before c.add-in-Err.ensures.whole c.add-in-Err.ensures.seen c.args.session c.args.kept refl refl c.in-Err.ensures
