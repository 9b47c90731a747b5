use Rattle.std.proofs.Common.{ℕ, refl, subst}
use Rattle.std.specs.Option.{option_copied}
use Rattle.occ_types.specs.PlainData.{end_of}
use Rattle.occ_types.specs.Question.{Span}
use Rattle.occ_model.specs.Event.{Read}
use Rattle.occ_model.specs.Step.{Step}
use Rattle.occ_open.specs.Replies.{scanning}
use Rattle.occ_store.specs.Locked.{world_of, ReadsSo}
use Rattle.occ_store.proofs.Happening.{reads_so}
use Rattle.occ_store.proofs.lending.SharedReadable.scan.Goals as goal

pub returns-clause-step : goal.returns-clause-step
returns-clause-step g c = subst (λ (n : ℕ). Step (world_of c.args.self.now) (Read n c.args.number c.args.start (Span c.args.table (end_of (option_copied c.args.lower)) (end_of (option_copied c.args.upper)))) (scanning c.scan.result) (world_of c.scan.new.self)) c.reading.ensures c.scan.ensures.0.0

pub returns-clause-moves : goal.returns-clause-moves
returns-clause-moves g c = subst (λ (n : ℕ). ReadsSo c.args.self.now (Read n c.args.number c.args.start (Span c.args.table (end_of (option_copied c.args.lower)) (end_of (option_copied c.args.upper)))) (scanning c.scan.result) c.scan.new.self) c.reading.ensures (reads_so _ _ _ _ _ c.scan.result (λ x. refl) c.scan.ensures)
