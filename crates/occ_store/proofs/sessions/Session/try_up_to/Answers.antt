use Rattle.std.proofs.Common.{arith, sym, ◌∙◌}
use Rattle.occ_store.proofs.Waiting.{tried_so_more, awaits_last, fewer_at_first, fewer_at_later}
use Rattle.occ_store.proofs.sessions.Session.try_up_to.Goals as goal

pub returns-clause-awaited : goal.returns-clause-awaited
returns-clause-awaited g c =
    let first = c.loop-tried.auto.tried in
    let some = c.requires in
    let end = c.loop-tried.auto.tried-end (omega arith) in
    let last = c.loop-tried-test.false in
    awaits_last (g.B.Body.makes c.args.body.now) c.loop-tried.tried c.args.most c.args.self.now c.loop-tried.self c.loop-tried.awaited (omega arith) (omega arith) c.loop-tried.invariant.0

pub returns-in_err-awaited-clause-fewer : goal.returns-in_err-awaited-clause-fewer
returns-in_err-awaited-clause-fewer g c =
    fewer_at_first (g.B.Body.makes c.args.body.now) g.B.Error.From.from_gives g.N.Name.named c.args.most c.args.self.now c.try_once.new.self c.from_residual.result c.in_err-awaited.field-0.0
    c.requires c.from_residual.ensures.1 c.in_err-awaited.ensures.none

pub returns-in_err-awaited-2-clause-fewer : goal.returns-in_err-awaited-2-clause-fewer
returns-in_err-awaited-2-clause-fewer g c =
    fewer_at_later (g.B.Body.makes c.args.body.now) (g.B.Body.makes c.loop-tried.body) g.B.Error.From.from_gives g.N.Name.named c.loop-tried.tried c.args.most c.args.self.now c.loop-tried.self c.try_once-in-loop-tried.new.self c.loop-tried.awaited c.from_residual-in_err-awaited-2.result c.in_err-awaited-2.field-0.0
    c.loop-tried-test.true (sym c.was_backed_up.ensures ∙ c.if-not-was_backed_up.false) c.loop-tried.invariant.1 c.loop-tried.invariant.0 c.from_residual-in_err-awaited-2.ensures.1 c.in_err-awaited-2.ensures.none

pub loop-tried-preserved : goal.loop-tried-preserved
loop-tried-preserved g c = (
  tried_so_more (g.B.Body.makes c.args.body.now) (g.B.Body.makes c.loop-tried.body) c.loop-tried.tried c.args.self.now c.loop-tried.self c.try_once-in-loop-tried.new.self c.loop-tried.awaited c.in_ok-awaited-2.awaited
      (sym c.was_backed_up.ensures ∙ c.if-not-was_backed_up.false) c.loop-tried.invariant.1 c.loop-tried.invariant.0 c.in_ok-awaited-2.ensures.awaited,
  λ before ran after made. c.loop-tried.invariant.1 before ran after (c.try_once-in-loop-tried.ensures.keeps before ran after made),
)
