-- How a transaction ended (our own choice).
use Rattle.std.specs.Prelude.{◌≡◌, ℕ, Option, None, Some}
use Rattle.occ_model.specs.declared.verdict.Verdict.{Verdict}
use Rattle.occ_model.specs.declared.verdict.Verdict.TheVariants.{Commit, BackUp}
use Rattle.occ_case.specs.declared.ended.Ended.{Ended}
use Rattle.occ_case.specs.declared.ended.Ended.TheVariants.{Committed, BackedUp}

-- by its verdict, the transaction number of its session's last commit, and what its run answered
abbrev pub ended_by : {Value : Type 0} → ℕ → Value → Verdict → Ended Value
ended_by tn value Commit = Committed tn value
ended_by tn value (BackUp cause) = BackedUp cause

-- the transaction number under which it committed
abbrev pub tn_of : {Value : Type 0} → Ended Value → Option ℕ
tn_of (Committed tn value) = Some tn
tn_of (BackedUp cause) = None

-- what the run answered that committed
abbrev pub value_of : {Value : Type 0} → Ended Value → Option Value
value_of (Committed tn value) = Some value
value_of (BackedUp cause) = None

-- the same of a run that answered this value
abbrev pub answering : {Value : Type 0} → Value → Ended (Unit {0}) → Ended Value
answering value (Committed tn none) = Committed tn value
answering value (BackedUp cause) = BackedUp cause
