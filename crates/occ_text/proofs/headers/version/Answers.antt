use Rattle.std.proofs.Common.{sym, subst}
use Rattle.occ_text.specs.Headers.{version_text}
use Rattle.occ_text.specs.Reading.{Reads}
use Rattle.occ_text.proofs.HeaderLines.{version_reads}
use Rattle.occ_text.proofs.headers.version.Goals as goal

pub returns-clause-grammar : goal.returns-clause-grammar
returns-clause-grammar c = subst (Reads version_text (λ version. Unit {0}) c.args.line.now) (sym c.version_value.ensures) (version_reads c.args.line.now)
