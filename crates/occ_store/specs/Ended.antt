-- How the board tells the end of a transaction (our own choice).
use Rattle.std.specs.Prelude.{◌≡◌, ℕ, Some}
use Rattle.occ_model.specs.declared.verdict.Verdict.{Verdict}
use Rattle.occ_board.specs.declared.words.Last.{Last}
use Rattle.occ_case.specs.Ended.{ended_by}
use Rattle.occ_case.specs.declared.ended.Ended.{Ended}

-- as the board tells it of the transaction with a number, in which the run answered a value
abbrev pub IsTold : {Value : Type 0} → Last → ℕ → Value → Ended Value → Type 0
IsTold last number value ended = (last.number ≡ number) × ((verdict : Verdict) × (last.status ≡ Some verdict) × (ended ≡ ended_by last.tn value verdict))
