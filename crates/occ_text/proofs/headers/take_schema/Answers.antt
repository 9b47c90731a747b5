use Rattle.std.proofs.Common.{◌≡◌, None, Some, true, false, ◌∙◌, sym}
use Rattle.occ_types.specs.PlainData.{tables_of}
use Rattle.occ_text.proofs.Openings.{schema_cut, schema_taken, schema_stops}
use Rattle.occ_text.proofs.headers.take_schema.Goals as goal

pub returns-in_err-tables-clause-gives : goal.returns-in_err-tables-clause-gives
returns-in_err-tables-clause-gives g c = schema_cut c.args.limits c.in_err-tables.field-0.0 c.from_residual.result _ _ _ _ c.from_residual.ensures.1 c.in_err-tables.ensures.gives

pub returns-then-not-is_steps-clause-gives : goal.returns-then-not-is_steps-clause-gives
returns-then-not-is_steps-clause-gives g c =
    schema_stops c.args.limits (tables_of c.in_ok-tables.tables.items) c.take_tables.new.input.line c.number-number.result c.in_ok-tables.ensures.gives
    (λ good is. let yes = c.is_steps.ensures.1 (c.line.ensures ∙ is) in let e : false ≡ true = sym c.if-not-is_steps.true ∙ yes in cc e) c.number-number.ensures

pub returns-in-Ok-clause-gives : goal.returns-in-Ok-clause-gives
returns-in-Ok-clause-gives g c =
    schema_taken c.args.limits (tables_of c.in_ok-tables.tables.items) c.in-Ok.schema c.take_tables.new.input.line c.in_ok-tables.ensures.gives (sym c.line.ensures ∙ c.is_steps.ensures.0 c.if-not-is_steps.false) c.in-Ok.ensures

pub returns-clause-gives : goal.returns-clause-gives
returns-clause-gives g c =
    schema_stops c.args.limits (tables_of c.in_ok-tables.tables.items) c.take_tables.new.input.line c.number-number.result c.in_ok-tables.ensures.gives
    (λ good is. let e : None ≡ Some c.in-Err.field-0.fault = sym good ∙ c.in-Err.ensures.0 in cc e) c.number-number.ensures
