use Rattle.std.proofs.Common.{◌∙◌, ℕ, List, [], sym, ap, append-nil}
use Rattle.std.specs.Str.{IsUtf8}
use Rattle.occ_bytes.specs.Bytes.{text_bytes}
use Rattle.occ_bytes.specs.Reading.{taken_of}
use Rattle.occ_bytes.proofs.Back.{stopped, not_empty}
use Rattle.occ_bytes.proofs.reading.read_text.Goals as goal

pub returns-in_err-text-clause-back : goal.returns-in_err-text-clause-back
returns-in_err-text-clause-back g c = λ text written.
    stopped (taken_of (λ (t : List ℕ). t)) (λ (t : List ℕ). t) (text, []) text (IsUtf8 text) (IsUtf8 text) _ c.from_residual.result c.from_residual.ensures.1 (λ u. u)
    (c.in_err-text.ensures.back text [] (written ∙ sym (append-nil (text_bytes text))))

pub returns-then-not-is_empty-clause-back : goal.returns-then-not-is_empty-clause-back
returns-then-not-is_empty-clause-back g c = λ text written.
    not_empty c.in_ok-text.rest.now _ c.is_empty.ensures c.if-not-is_empty.true
    (ap (λ (p : List ℕ × List ℕ). p.1) (c.in_ok-text.ensures.back text [] (written ∙ sym (append-nil (text_bytes text)))))

pub returns-clause-back : goal.returns-clause-back
returns-clause-back g c = λ text written. ap (λ (p : List ℕ × List ℕ). p.0) (c.in_ok-text.ensures.back text [] (written ∙ sym (append-nil (text_bytes text))))
