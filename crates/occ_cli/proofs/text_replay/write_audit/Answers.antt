use Rattle.std.proofs.Common.{◌∙◌}
use Rattle.occ_log.specs.Rows.{opened}
use Rattle.occ_cli.proofs.Closing.{audit_said}
use Rattle.occ_cli.proofs.text_replay.write_audit.Goals as goal

pub returns-clause-gives : goal.returns-clause-gives
returns-clause-gives g c =
    audit_said c.push.result _ _ _ _ c.as_bytes.result.now _ c.in-Ok.holds (c.as_bytes.ensures.value ∙ c.audit_line.ensures) (c.in-Ok.ensures.ok opened) c.push.ensures.gives
