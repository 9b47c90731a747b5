use Rattle.std.proofs.Common.{refl, sym, ap, ◌∙◌}
use Rattle.occ_store.specs.Lanes.{Left}
use Rattle.occ_store.proofs.Ending.{none_left, none_yet, more, goes_more, left_more, nothing_then, with_nothing}
use Rattle.occ_store.proofs.Histories.{on_self, on_trans}
use Rattle.occ_store.proofs.workers.Worker.resume.Goals as goal

pub returns-then-not-has_left-clause-over : goal.returns-then-not-has_left-clause-over
returns-then-not-has_left-clause-over g c = (none_left c.args.self.now.left (sym c.has_left.ensures.some ∙ c.if-not-has_left.true), refl)

pub returns-then-not-has_left-clause-nothing_left : goal.returns-then-not-has_left-clause-nothing_left
returns-then-not-has_left-clause-nothing_left g c =
    ap (λ (l : Left). record c.args.self.now { left = l }) (none_left c.args.self.now.left (sym c.has_left.ensures.some ∙ c.if-not-has_left.true))

pub loop-tried-init : goal.loop-tried-init
loop-tried-init g c = none_yet g.N.Name.named c.args.self.now (c.has_left.ensures.kept c.if-not-has_left.false)

pub loop-tried-preserved : goal.loop-tried-preserved
loop-tried-preserved g c =
    more g.N.Name.named c.args.self.now c.loop-tried.self c.go_on_leased.new.self c.loop-tried.invariant
    (record { goes = c.in-Err-StoreBusy.ensures.goes_on; left = c.in-Err-StoreBusy.ensures.left })

pub go_on_leased-requires : goal.go_on_leased-requires
go_on_leased-requires g c = c.loop-tried.invariant.goes.kept

pub returns-in-Ok-clause-over : goal.returns-in-Ok-clause-over
returns-in-Ok-clause-over g c = c.loop-tried.invariant.goes.over c.in-Ok.ended c.go_on_leased.new.self.front c.in-Ok.ensures.over

pub returns-in-Ok-clause-nothing_left : goal.returns-in-Ok-clause-nothing_left
returns-in-Ok-clause-nothing_left g c =
    with_nothing c.args.self.now c.go_on_leased.new.self _
    (nothing_then g.N.Name.named c.args.self.now c.loop-tried.self c.go_on_leased.new.self c.loop-tried.invariant.goes c.in-Ok.ensures.nothing_left)

pub returns-in-Err-clause-kept : goal.returns-in-Err-clause-kept
returns-in-Err-clause-kept g c =
    let goes = goes_more g.N.Name.named c.args.self.now c.loop-tried.self c.go_on_leased.new.self c.loop-tried.invariant.goes c.in-Err.ensures.goes_on in (goes.kept, goes.same)

pub returns-in-Err-clause-left : goal.returns-in-Err-clause-left
returns-in-Err-clause-left g c =
    left_more g.N.Name.named c.args.self.now c.loop-tried.self c.go_on_leased.new.self c.loop-tried.invariant.goes c.loop-tried.invariant.left c.in-Err.ensures.left

pub returns-clause-kept : goal.returns-clause-kept
returns-clause-kept g c = (c.loop-tried.invariant.goes.kept, c.loop-tried.invariant.goes.same)

pub returns-clause-left : goal.returns-clause-left
returns-clause-left g c = c.loop-tried.invariant.left

pub returns-then-not-has_left-clause-seen : goal.returns-then-not-has_left-clause-seen
returns-then-not-has_left-clause-seen g c = on_self c.args.self.now.front

pub returns-in-Ok-clause-seen : goal.returns-in-Ok-clause-seen
returns-in-Ok-clause-seen g c = on_trans c.args.self.now.front c.loop-tried.self.front c.go_on_leased.new.self.front c.loop-tried.invariant.goes.seen c.go_on_leased.ensures.seen

pub returns-in-Err-clause-seen : goal.returns-in-Err-clause-seen
returns-in-Err-clause-seen g c = on_trans c.args.self.now.front c.loop-tried.self.front c.go_on_leased.new.self.front c.loop-tried.invariant.goes.seen c.go_on_leased.ensures.seen

pub returns-clause-seen : goal.returns-clause-seen
returns-clause-seen g c = c.loop-tried.invariant.goes.seen
