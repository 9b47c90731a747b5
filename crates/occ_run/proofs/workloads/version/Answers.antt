use Rattle.std.proofs.Common.{sym, subst}
use Rattle.occ_text.specs.Reading.{Reads}
use Rattle.occ_run.specs.Workloads.{load_text}
use Rattle.occ_run.proofs.Openings.{load_reads}
use Rattle.occ_run.proofs.workloads.version.Goals as goal

pub returns : goal.returns
returns c = subst (Reads load_text (λ version. Unit {0}) c.args.line.now) (sym c.version_value.ensures) (load_reads c.args.line.now)
