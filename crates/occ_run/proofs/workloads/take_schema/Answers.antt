use Rattle.std.proofs.Common.{◌≡◌, None, Some, true, false, ◌∙◌, sym}
use Rattle.occ_types.specs.PlainData.{tables_of}
use Rattle.occ_text.proofs.LinesTaken.{failed}
use Rattle.occ_run.specs.Workloads.{loads}
use Rattle.occ_run.proofs.Openings.{schema_cut, schema_taken, schema_stops}
use Rattle.occ_run.proofs.workloads.take_schema.Goals as goal

pub returns-in_err-tables-clause-taken : goal.returns-in_err-tables-clause-taken
returns-in_err-tables-clause-taken g c =
    failed loads c.in_err-tables.field-0.0 c.from_residual.result _ _ _ _ _ _ c.from_residual.ensures.1 (schema_cut c.args.settings c.in_err-tables.field-0.0 c.in_err-tables.ensures.gives)

pub returns-then-not-is_begin-clause-taken : goal.returns-then-not-is_begin-clause-taken
returns-then-not-is_begin-clause-taken g c =
    schema_stops c.args.settings (tables_of c.in_ok-tables.tables.items) c.take_tables.new.input.line c.number-number.result c.in_ok-tables.ensures.gives
    (λ good is. let yes = c.is_begin.ensures.1 (c.line.ensures ∙ is) in let e : false ≡ true = sym c.if-not-is_begin.true ∙ yes in cc e) c.number-number.ensures

pub returns-in-Ok-clause-taken : goal.returns-in-Ok-clause-taken
returns-in-Ok-clause-taken g c =
    schema_taken c.args.settings (tables_of c.in_ok-tables.tables.items) c.in-Ok.schema c.take_tables.new.input.line c.in_ok-tables.ensures.gives (sym c.line.ensures ∙ c.is_begin.ensures.0 c.if-not-is_begin.false) c.in-Ok.ensures

pub returns-clause-taken : goal.returns-clause-taken
returns-clause-taken g c =
    schema_stops c.args.settings (tables_of c.in_ok-tables.tables.items) c.take_tables.new.input.line c.number-number.result c.in_ok-tables.ensures.gives
    (λ good is. let e : None ≡ Some c.in-Err.field-0.fault = sym good ∙ c.in-Err.ensures.0 in cc e) c.number-number.ensures
