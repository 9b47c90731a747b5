use Rattle.std.proofs.Common.{◌≡◌, inr}
use Rattle.occ_types.specs.PlainData.{key_of}
use Rattle.occ_model.specs.Step.{Step}
use Rattle.occ_open.specs.Replies.{reading}
use Rattle.occ_open.proofs.Answering.{got}
use Rattle.occ_open.proofs.asking.get.Goals as goal

pub returns-in-None-clause-step : goal.returns-in-None-clause-step
returns-in-None-clause-step g c =
    inr (got (g.S.Readable.world c.args.store.now).settings.schema (g.S.Readable.world c.read.new.store ≡ g.S.Readable.world c.args.store.now)
    (λ event reply. Step (g.S.Readable.world c.args.store.now) event reply (g.S.Readable.world c.read.new.store))
    (g.S.Readable.reader c.args.store.now c.args.session) (c.args.table, key_of c.args.key.now) c.args.copy.now (reading c.read.result) c.schema.result.now c.in_ok-check_key.ensures c.schema.ensures c.in-None.ensures c.read.ensures.step)

pub returns-in-None-clause-moves : goal.returns-in-None-clause-moves
returns-in-None-clause-moves g c =
    inr (got (g.S.Readable.world c.args.store.now).settings.schema (c.read.new.store ≡ c.args.store.now)
    (λ event reply. g.S.Readable.moves c.args.store.now event reply c.read.new.store)
    (g.S.Readable.reader c.args.store.now c.args.session) (c.args.table, key_of c.args.key.now) c.args.copy.now (reading c.read.result) c.schema.result.now c.in_ok-check_key.ensures c.schema.ensures c.in-None.ensures c.read.ensures.moves)
