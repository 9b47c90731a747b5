use Rattle.std.proofs.Common.{length, arith}
use Rattle.occ_text.proofs.Line.{before_first}
use Rattle.occ_text.proofs.separated_parts.find.Goals as goal

pub returns-in-Some-clause-before : goal.returns-in-Some-clause-before
returns-in-Some-clause-before c =
    let first = c.in-Some.ensures in
    before_first c.args.wanted c.args.bytes.now c.in-Some.place (omega (arith, first.0.high)) first.0.before

pub returns-in-None-clause-before : goal.returns-in-None-clause-before
returns-in-None-clause-before c =
    let bytes = c.args.bytes.now in
    before_first c.args.wanted bytes (length bytes) (omega arith) c.in-None.ensures
