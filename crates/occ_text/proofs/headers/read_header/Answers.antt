use Rattle.occ_text.specs.HeaderTaking.{header_of}
use Rattle.occ_text.proofs.Openings.{header_without_limits, header_without_schema, header_taken}
use Rattle.occ_text.proofs.headers.read_header.Goals as goal

pub returns-in_err-limits-clause-gives : goal.returns-in_err-limits-clause-gives
returns-in_err-limits-clause-gives g c =
    header_without_limits (header_of {Z = g.row.A.Denot}) c.in_err-limits.field-0.0 c.from_residual.result _ _ _ _ c.from_residual.ensures.1 c.in_err-limits.ensures.gives

pub returns-in_err-schema-clause-gives : goal.returns-in_err-schema-clause-gives
returns-in_err-schema-clause-gives g c =
    header_without_schema (header_of {Z = g.row.A.Denot}) c.in_err-schema.field-0.0 c.from_residual-in_err-schema.result c.in_ok-limits.limits _ _ _ _ _ _ c.from_residual-in_err-schema.ensures.1 c.in_ok-limits.ensures.gives c.in_err-schema.ensures.gives

pub returns-clause-gives : goal.returns-clause-gives
returns-clause-gives g c = header_taken c.in_ok-limits.limits c.in_ok-schema.schema _ _ _ _ _ _ c.in_ok-limits.ensures.gives c.in_ok-schema.ensures.gives
