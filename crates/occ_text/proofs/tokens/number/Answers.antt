use Rattle.std.proofs.Common.{◌≡◌, ◌≤◌, Some, None, subst, rules}
use Rattle.std.specs.Fmt.{decimal}
use Rattle.occ_text.specs.Reading.{Reads, number_of}
use Rattle.occ_text.proofs.Numbers.{number_reads}
use Rattle.occ_text.proofs.tokens.number.Goals as goal

pub returns-in_err-number-clause-grammar : goal.returns-in_err-number-clause-grammar
unfolding number_of
returns-in_err-number-clause-grammar c =
    let exact : number_of c.args.limit c.args.token.now ≡ c.from_residual.result = search rules in
    subst (Reads decimal (λ n. n ≤ c.args.limit) c.args.token.now) exact (number_reads c.args.limit c.args.token.now c.ranges.limit.fits)

pub returns-then-number-limit-clause-grammar : goal.returns-then-number-limit-clause-grammar
unfolding number_of
returns-then-number-limit-clause-grammar c =
    let exact : number_of c.args.limit c.args.token.now ≡ Some c.in_ok-number.number = search rules in
    subst (Reads decimal (λ n. n ≤ c.args.limit) c.args.token.now) exact (number_reads c.args.limit c.args.token.now c.ranges.limit.fits)

pub returns-else-number-limit-clause-grammar : goal.returns-else-number-limit-clause-grammar
unfolding number_of
returns-else-number-limit-clause-grammar c =
    let exact : number_of c.args.limit c.args.token.now ≡ None = search rules in
    subst (Reads decimal (λ n. n ≤ c.args.limit) c.args.token.now) exact (number_reads c.args.limit c.args.token.now c.ranges.limit.fits)
