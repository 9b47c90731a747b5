use Rattle.occ_text.proofs.Taking.{line_found}
use Rattle.occ_run.specs.Workloads.{load_text}
use Rattle.occ_run.proofs.workloads.take_version.Goals as goal

pub returns-clause-gives : goal.returns-clause-gives
returns-clause-gives g c =
    line_found load_text (λ version. Unit {0}) c.version.result c.ok_or.result c.line.result.now _ _ c.number.result _ _
    (record { line = c.take_line.new.self.line; taken = c.in_ok-take_line.ensures.gives; same = c.line.ensures; here = c.number.ensures }) c.version.ensures c.ok_or.ensures.value
