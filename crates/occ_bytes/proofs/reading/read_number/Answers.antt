use Rattle.std.proofs.Common.{◌∙◌, ℕ, List, [], sym, ap, append-nil}
use Rattle.occ_bytes.specs.Bytes.{number_bytes}
use Rattle.occ_bytes.specs.Reading.{taken_of}
use Rattle.occ_bytes.proofs.Back.{nothing_back, not_empty}
use Rattle.occ_bytes.proofs.reading.read_number.Goals as goal

pub returns-in_default-clause-back : goal.returns-in_default-clause-back
returns-in_default-clause-back c = λ number small written.
    not_empty c.in-Some.rest.now _ c.is_empty.ensures c.if-is_empty.false
    (ap (λ (p : ℕ × List ℕ). p.1) (c.in-Some.ensures.back number [] small (written ∙ sym (append-nil (number_bytes number)))))

pub returns-in_default-2-clause-back : goal.returns-in_default-2-clause-back
returns-in_default-2-clause-back c = λ number small written.
    nothing_back (taken_of (λ (n : ℕ). n)) (number, []) c.take_number.result c.in_default.is (c.take_number.ensures.back number [] small (written ∙ sym (append-nil (number_bytes number))))
