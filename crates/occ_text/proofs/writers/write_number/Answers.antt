use Rattle.std.proofs.Common.{◌≡◌, ℕ, List, ◌++◌, sym, subst}
use Rattle.std.specs.Prelude.{OnOk, string_bytes}
use Rattle.std.proofs.lemmas.Fmt.{decimal_digit}
use Rattle.occ_text.proofs.writers.write_number.Goals as goal

pub returns-then-number-lt10 : goal.returns-then-number-lt10
returns-then-number-lt10 g c =
    subst (λ (d : List ℕ). OnOk c.write_digit.result (string_bytes c.write_digit.new.line ≡ string_bytes c.args.line.now ++ d)) (sym (decimal_digit c.args.number c.if-number-lt10.true)) c.write_digit.ensures
