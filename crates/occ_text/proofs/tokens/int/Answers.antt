use Rattle.std.proofs.Common.{◌≡◌, FitsSigned, w64, subst, rules}
use Rattle.std.specs.Fmt.{signed_decimal}
use Rattle.occ_text.specs.Reading.{Reads, int_of}
use Rattle.occ_text.proofs.Numbers.{int_reads}
use Rattle.occ_text.proofs.tokens.int.Goals as goal

pub returns-in_err-number-clause-grammar : goal.returns-in_err-number-clause-grammar
unfolding int_of
returns-in_err-number-clause-grammar c =
    let exact : int_of c.args.token.now ≡ c.from_residual.result = search rules in
    subst (Reads signed_decimal (FitsSigned w64) c.args.token.now) exact (int_reads c.args.token.now)

pub returns-then-begins_with-clause-grammar : goal.returns-then-begins_with-clause-grammar
unfolding int_of
returns-then-begins_with-clause-grammar c =
    let exact : int_of c.args.token.now ≡ c.negative.result = search rules in
    subst (Reads signed_decimal (FitsSigned w64) c.args.token.now) exact (int_reads c.args.token.now)
