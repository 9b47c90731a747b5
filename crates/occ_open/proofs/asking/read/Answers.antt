use Rattle.std.proofs.Common.{refl}
use Rattle.occ_model.specs.Step.{Step}
use Rattle.occ_open.specs.Replies.{reading}
use Rattle.occ_open.proofs.Answering.{asked_so}
use Rattle.occ_open.proofs.asking.read.Goals as goal

pub returns-clause-step : goal.returns-clause-step
returns-clause-step g c =
    asked_so (λ event. Step (g.S.Readable.world c.args.store.now) event (reading c.read.result) (g.S.Readable.world c.read.new.self)) (g.S.Readable.reader c.args.store.now c.args.session) c.number.result c.start.result c.args.copy.now.number c.args.copy.now.start _ _
    c.number.ensures c.start.ensures refl c.read.ensures.step

pub returns-clause-moves : goal.returns-clause-moves
returns-clause-moves g c =
    asked_so (λ event. g.S.Readable.moves c.args.store.now event (reading c.read.result) c.read.new.self) (g.S.Readable.reader c.args.store.now c.args.session) c.number.result c.start.result c.args.copy.now.number c.args.copy.now.start _ _
    c.number.ensures c.start.ensures refl c.read.ensures.moves
