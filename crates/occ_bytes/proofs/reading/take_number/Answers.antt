use Rattle.occ_bytes.proofs.Back.{number_back, too_short}
use Rattle.occ_bytes.proofs.reading.take_number.Goals as goal

pub returns-in_err-number-clause-back : goal.returns-in_err-number-clause-back
returns-in_err-number-clause-back c = λ number rest small written. absurd (too_short c.args.bytes.now number rest c.in_err-number.ensures.cases written)

pub returns-clause-back : goal.returns-clause-back
returns-clause-back c = λ number rest small written.
    number_back c.args.bytes.now _ _ _ number rest c.in_ok-number.ensures.cases.0 c.in_ok-number.ensures.cases.1 c.number_of.ensures.read small written
