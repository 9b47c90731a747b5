use Rattle.std.proofs.Common.{ap, sym, ◌∙◌, ◌+◌}
use Rattle.occ_queue.specs.Items.{item_of}
use Rattle.occ_store.specs.Workers.{WorkerView, begin_fault}
use Rattle.occ_store.proofs.WorkerTries.{stays_left, makes_none, stays_one, tries_once, made_unmarked}
use Rattle.occ_store.proofs.workers.Worker.try_once.Goals as goal

pub returns-in_err-end_left-clause-refused : goal.returns-in_err-end_left-clause-refused
returns-in_err-end_left-clause-refused g c =
    stays_left g.N.Name.named (g.B.Body.makes c.args.body.now) g.B.Error.From.from_gives c.args.self.now c.end_left.new.self c.from_residual.result c.in_err-end_left.field-0.0
    c.from_residual.ensures.1 c.in_err-end_left.ensures.kept.0 c.in_err-end_left.ensures.kept.1 c.end_left.ensures.seen

pub returns-in_err-item-clause-refused : goal.returns-in_err-item-clause-refused
returns-in_err-item-clause-refused g c =
    makes_none g.N.Name.named (g.B.Body.makes c.args.body.now) g.B.Error.From.from_gives c.args.self.now c.end_left.new.self c.make.new.self c.from_residual-in_err-item.result c.in_err-item.field-0.0
    c.from_residual-in_err-item.ensures.1 c.in_ok-end_left.ensures.nothing_left c.make.ensures.same c.in_ok-end_left.ensures.ended c.in_err-item.ensures.error

pub end-requires-clause-nothing : goal.end-requires-clause-nothing
end-requires-clause-nothing g c =
    ap (λ (w : WorkerView). w.left) c.make.ensures.same ∙ ap (λ (w : WorkerView). w.left) c.in_ok-end_left.ensures.nothing_left

pub end-requires-clause-next : goal.end-requires-clause-next
end-requires-clause-next g c =
    c.in_ok-item.ensures.made.0 ∙ ap (λ (w : WorkerView). w.last + 1) (sym c.make.ensures.same)

pub end-requires-clause-unmarked : goal.end-requires-clause-unmarked
end-requires-clause-unmarked g c =
    made_unmarked (g.B.Body.makes c.args.body.now) c.end_left.new.self.session c.in_ok-item.value (item_of c.in_ok-item.item) c.end_left.new.self.front c.make.new.self.front c.in_ok-item.ensures.made.1

pub end-requires-clause-spare : goal.end-requires-clause-spare
end-requires-clause-spare g c = ap begin_fault c.make.ensures.same ∙ c.in_ok-item.ensures.spare

-- the request was handed in
pub returns-in_err-ended-clause-refused : goal.returns-in_err-ended-clause-refused
returns-in_err-ended-clause-refused g c =
    stays_one g.N.Name.named (g.B.Body.makes c.args.body.now) c.args.self.now c.end_left.new.self c.make.new.self c.end.new.self (item_of c.in_ok-item.item) c.in_ok-item.value
    c.in_ok-end_left.ensures.nothing_left c.make.ensures.same c.in_ok-end_left.ensures.ended c.in_ok-item.ensures.made g.B.Error.From.from_gives c.from_residual-in_err-ended.result c.in_err-ended.field-0.0
    c.from_residual-in_err-ended.ensures.1 c.in_err-ended.ensures.kept.0 c.in_err-ended.ensures.kept.1 c.in_err-ended.ensures.left

pub returns-clause-ended : goal.returns-clause-ended
returns-clause-ended g c =
    tries_once g.N.Name.named (g.B.Body.makes c.args.body.now) c.args.self.now c.end_left.new.self c.make.new.self c.end.new.self (item_of c.in_ok-item.item) c.in_ok-item.value
    c.in_ok-end_left.ensures.nothing_left c.make.ensures.same c.in_ok-end_left.ensures.ended c.in_ok-item.ensures.made c.in_ok-ended.ended c.answering.result
    (ap (λ (w : WorkerView). w.left) c.make.ensures.same ∙ ap (λ (w : WorkerView). w.left) c.in_ok-end_left.ensures.nothing_left)
    c.in_ok-ended.ensures.nothing_left c.in_ok-ended.ensures.over c.answering.ensures
