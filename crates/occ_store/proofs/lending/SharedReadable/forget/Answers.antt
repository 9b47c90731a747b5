use Rattle.std.proofs.Common.{ℕ, refl, subst}
use Rattle.occ_model.specs.Event.{Forget}
use Rattle.occ_model.specs.Step.{Step}
use Rattle.occ_open.specs.Replies.{forgetting}
use Rattle.occ_store.specs.Locked.{world_of, ReadsSo}
use Rattle.occ_store.proofs.Happening.{reads_so}
use Rattle.occ_store.proofs.lending.SharedReadable.forget.Goals as goal

pub returns-clause-step : goal.returns-clause-step
returns-clause-step g c = subst (λ (n : ℕ). Step (world_of c.args.self.now) (Forget n c.args.number) (forgetting c.forget.result) (world_of c.forget.new.self)) c.reading.ensures c.forget.ensures.0.0

pub returns-clause-moves : goal.returns-clause-moves
returns-clause-moves g c = subst (λ (n : ℕ). ReadsSo c.args.self.now (Forget n c.args.number) (forgetting c.forget.result) c.forget.new.self) c.reading.ensures (reads_so _ _ _ _ _ c.forget.result (λ x. refl) c.forget.ensures)
