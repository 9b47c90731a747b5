use Rattle.std.proofs.Common.{ℕ, refl, subst}
use Rattle.occ_types.specs.PlainData.{key_of}
use Rattle.occ_types.specs.Question.{One}
use Rattle.occ_model.specs.Event.{Read}
use Rattle.occ_model.specs.Step.{Step}
use Rattle.occ_open.specs.Replies.{reading}
use Rattle.occ_store.specs.Locked.{world_of, ReadsSo}
use Rattle.occ_store.proofs.Happening.{reads_so}
use Rattle.occ_store.proofs.lending.SharedReadable.read.Goals as goal

pub returns-clause-step : goal.returns-clause-step
returns-clause-step g c = subst (λ (n : ℕ). Step (world_of c.args.self.now) (Read n c.args.number c.args.start (One c.args.table (key_of c.args.key.now))) (reading c.read.result) (world_of c.read.new.self)) c.reading.ensures c.read.ensures.0.0

pub returns-clause-moves : goal.returns-clause-moves
returns-clause-moves g c = subst (λ (n : ℕ). ReadsSo c.args.self.now (Read n c.args.number c.args.start (One c.args.table (key_of c.args.key.now))) (reading c.read.result) c.read.new.self) c.reading.ensures (reads_so _ _ _ _ _ c.read.result (λ x. refl) c.read.ensures)
