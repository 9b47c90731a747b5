use Rattle.std.proofs.Common.{◌∙◌}
use Rattle.occ_log.specs.Rows.{opened}
use Rattle.occ_run.proofs.Reporting.{audit_cut, audit_pushed}
use Rattle.occ_run.proofs.reports.write_audit.Goals as goal

pub returns-in_err-push-clause-gives : goal.returns-in_err-push-clause-gives
returns-in_err-push-clause-gives g c =
    audit_cut c.in_err-push.field-0.0 c.from_residual.result _ _ _ _ c.as_bytes.result.now _ c.in-Ok.holds c.from_residual.ensures.1 (c.as_bytes.ensures.value ∙ c.audit_line.ensures) (c.in-Ok.ensures.ok opened) c.in_err-push.ensures.gives

pub returns-clause-gives : goal.returns-clause-gives
returns-clause-gives g c = (c.in-Ok.ensures.ok opened, audit_pushed _ _ _ _ c.as_bytes.result.now c.in-Ok.holds (c.as_bytes.ensures.value ∙ c.audit_line.ensures) c.in_ok-push.ensures.gives)
