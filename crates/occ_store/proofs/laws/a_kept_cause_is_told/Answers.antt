use Rattle.std.proofs.Common.{ap}
use Rattle.occ_model.specs.declared.verdict.Verdict.TheVariants as verdicts
use Rattle.occ_board.specs.Words.{settled}
use Rattle.occ_store.proofs.CausesTold.{kept_is_told}
use Rattle.occ_store.proofs.laws.a_kept_cause_is_told.Goals as goal

pub returns : goal.returns
returns c = λ old new words session number kept inv step waits. ap (λ x. settled words session number (verdicts.BackUp x)) (kept_is_told old new session number kept inv step waits)
