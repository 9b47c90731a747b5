use Rattle.std.proofs.Common.{Some, None, refl, sym, ap, ◌∙◌}
use Rattle.occ_store.specs.Lanes.{Left}
use Rattle.occ_store.proofs.Ending.{none_left, with_nothing, still_kept, on_any_err}
use Rattle.occ_store.proofs.Histories.{on_self}
use Rattle.occ_store.proofs.WorkerTries.{left_ended}
use Rattle.occ_store.proofs.workers.Worker.end_left.Goals as goal

pub returns-then-not-has_left-clause-nothing_left : goal.returns-then-not-has_left-clause-nothing_left
returns-then-not-has_left-clause-nothing_left g c =
    ap (λ (l : Left). record c.args.self.now { left = l }) (none_left c.args.self.now.left (sym c.has_left.ensures.some ∙ c.if-not-has_left.true))

pub go_on-requires : goal.go_on-requires
go_on-requires g c = c.has_left.ensures.kept c.if-not-has_left.false

pub returns-clause-nothing_left : goal.returns-clause-nothing_left
returns-clause-nothing_left g c = with_nothing c.args.self.now c.go_on.new.self _ c.in_ok-_ended.ensures.nothing_left

pub returns-in_err-_ended-clause-kept : goal.returns-in_err-_ended-clause-kept
returns-in_err-_ended-clause-kept g c = on_any_err _ (still_kept g.N.Name.named c.args.self.now c.go_on.new.self c.in_err-_ended.ensures.goes_on)

pub returns-then-not-has_left-clause-seen : goal.returns-then-not-has_left-clause-seen
returns-then-not-has_left-clause-seen g c = on_self c.args.self.now.front

pub returns-then-not-has_left-clause-ended : goal.returns-then-not-has_left-clause-ended
returns-then-not-has_left-clause-ended g c =
    left_ended g.N.Name.named c.args.self.now None c.args.self.now.front (none_left c.args.self.now.left (sym c.has_left.ensures.some ∙ c.if-not-has_left.true), refl)

pub returns-clause-ended : goal.returns-clause-ended
returns-clause-ended g c =
    left_ended g.N.Name.named c.args.self.now (Some c.in_ok-_ended._ended) c.go_on.new.self.front c.in_ok-_ended.ensures.over
