use Rattle.std.proofs.Common.{arith, suc, refl, ◌∙◌}
use Rattle.occ_store.proofs.WorkerTries.{at_error, refused_first, refused_more, fewer, tried_first, tried_more, ends_now, ends_last}
use Rattle.occ_store.proofs.workers.Worker.try_up_to.Goals as goal

pub returns-in_err-ended-clause-few : goal.returns-in_err-ended-clause-few
returns-in_err-ended-clause-few g c =
    at_error _ c.from_residual.result c.in_err-ended.field-0.0 c.from_residual.ensures.1
    (refused_first g.N.Name.named (g.B.Body.makes c.args.body.now) g.B.Error.From.from_gives c.args.most c.args.self.now c.try_leased.new.self c.in_err-ended.field-0.0 c.requires c.in_err-ended.ensures.refused)

pub returns-in_err-ended-clause-fewer : goal.returns-in_err-ended-clause-fewer
returns-in_err-ended-clause-fewer g c =
    at_error _ c.from_residual.result c.in_err-ended.field-0.0 c.from_residual.ensures.1
    (fewer g.N.Name.named (g.B.Body.makes c.args.body.now) g.B.Error.From.from_gives c.args.most c.args.self.now c.try_leased.new.self c.in_err-ended.field-0.0
    (refused_first g.N.Name.named (g.B.Body.makes c.args.body.now) g.B.Error.From.from_gives c.args.most c.args.self.now c.try_leased.new.self c.in_err-ended.field-0.0 c.requires c.in_err-ended.ensures.refused))

pub loop-tried-init : goal.loop-tried-init
loop-tried-init g c = (
  (0, refl, tried_first g.N.Name.named (g.B.Body.makes c.args.body.now) c.args.self.now c.try_leased.new.self c.in_ok-ended.ended c.in_ok-ended.ensures.ended),
  c.try_leased.ensures.keeps,
  c.try_leased.ensures.counts,
)

pub returns-in-Committed-clause-ended : goal.returns-in-Committed-clause-ended
returns-in-Committed-clause-ended g c =
    let tried = c.loop-tried.invariant.0.1 in
    let below = c.loop-tried-test.true in
    ends_now g.N.Name.named (g.B.Body.makes c.args.body.now) c.loop-tried.invariant.0.0 c.args.most c.in-Committed.tn c.in-Committed.value c.args.self.now c.loop-tried.self c.loop-tried.ended (omega arith) c.in-Committed.is c.loop-tried.invariant.0.2

pub returns-in_err-ended-2-clause-few : goal.returns-in_err-ended-2-clause-few
returns-in_err-ended-2-clause-few g c =
    let tried = c.loop-tried.invariant.0.1 in
    let below = c.loop-tried-test.true in
    at_error _ c.from_residual-in_err-ended-2.result c.in_err-ended-2.field-0.0 c.from_residual-in_err-ended-2.ensures.1
    (refused_more g.N.Name.named (g.B.Body.makes c.args.body.now) (g.B.Body.makes c.loop-tried.body) g.B.Error.From.from_gives c.loop-tried.invariant.0.0 c.args.most c.args.self.now c.loop-tried.self c.try_leased-in-loop-tried.new.self
    c.in-BackedUp.field-0 c.loop-tried.ended c.in_err-ended-2.field-0.0 (omega arith) c.in-BackedUp.is c.loop-tried.invariant.1 c.loop-tried.invariant.0.2 c.in_err-ended-2.ensures.refused)

pub returns-in_err-ended-2-clause-fewer : goal.returns-in_err-ended-2-clause-fewer
returns-in_err-ended-2-clause-fewer g c =
    let tried = c.loop-tried.invariant.0.1 in
    let below = c.loop-tried-test.true in
    at_error _ c.from_residual-in_err-ended-2.result c.in_err-ended-2.field-0.0 c.from_residual-in_err-ended-2.ensures.1
    (fewer g.N.Name.named (g.B.Body.makes c.args.body.now) g.B.Error.From.from_gives c.args.most c.args.self.now c.try_leased-in-loop-tried.new.self c.in_err-ended-2.field-0.0
    (refused_more g.N.Name.named (g.B.Body.makes c.args.body.now) (g.B.Body.makes c.loop-tried.body) g.B.Error.From.from_gives c.loop-tried.invariant.0.0 c.args.most c.args.self.now c.loop-tried.self c.try_leased-in-loop-tried.new.self
    c.in-BackedUp.field-0 c.loop-tried.ended c.in_err-ended-2.field-0.0 (omega arith) c.in-BackedUp.is c.loop-tried.invariant.1 c.loop-tried.invariant.0.2 c.in_err-ended-2.ensures.refused))

pub returns-clause-ended : goal.returns-clause-ended
returns-clause-ended g c =
    let first = c.loop-tried.auto.tried in
    let some = c.requires in
    let end = c.loop-tried.auto.tried-end (omega arith) in
    let last = c.loop-tried-test.false in
    let tried = c.loop-tried.invariant.0.1 in
    ends_last g.N.Name.named (g.B.Body.makes c.args.body.now) c.loop-tried.invariant.0.0 c.args.most c.args.self.now c.loop-tried.self c.loop-tried.ended (omega arith) c.loop-tried.invariant.0.2

pub loop-tried-preserved : goal.loop-tried-preserved
loop-tried-preserved g c =
    let tried = c.loop-tried.invariant.0.1 in (
      (
        suc c.loop-tried.invariant.0.0,
        omega arith,
        tried_more g.N.Name.named (g.B.Body.makes c.args.body.now) (g.B.Body.makes c.loop-tried.body) c.loop-tried.invariant.0.0 c.args.self.now c.loop-tried.self c.try_leased-in-loop-tried.new.self
            c.in-BackedUp.field-0 c.loop-tried.ended c.in_ok-ended-2.ended c.in-BackedUp.is c.loop-tried.invariant.1 c.loop-tried.invariant.0.2 c.in_ok-ended-2.ensures.ended,
      ),
      λ before ran after made. c.loop-tried.invariant.1 before ran after (c.try_leased-in-loop-tried.ensures.keeps before ran after made),
      c.try_leased-in-loop-tried.ensures.counts ∙ c.loop-tried.invariant.2,
    )
