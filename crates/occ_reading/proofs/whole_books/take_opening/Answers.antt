use Rattle.std.proofs.Common.{◌≡◌, None, Some, ◌∙◌, sym}
use Rattle.occ_reading.proofs.Common.{books, failed, tables_of}
use Rattle.occ_reading.proofs.PartPlaces.{opening_taken, opening_stops, opening_cut}
use Rattle.occ_reading.proofs.whole_books.take_opening.Goals as goal

pub returns-in_err-tables-clause-taken : goal.returns-in_err-tables-clause-taken
returns-in_err-tables-clause-taken g c = λ sessions.
    failed books c.in_err-tables.field-0.0 c.from_residual.result _ _ _ _ _ _ c.from_residual.ensures.1 (opening_cut c.args.version c.in_err-tables.field-0.0 sessions c.in_err-tables.ensures.gives)

pub returns-in-None-clause-taken : goal.returns-in-None-clause-taken
returns-in-None-clause-taken g c = λ sessions.
    opening_stops c.args.version (tables_of c.in_ok-tables.tables.items) c.take_tables.new.input.line sessions c.number-number.result c.in_ok-tables.ensures.gives
    (λ began good fits is. let e = c.in-None.ensures.grammar.again began fits (c.line.ensures ∙ is) in cc e) c.number-number.ensures

pub returns-in-Ok-clause-taken : goal.returns-in-Ok-clause-taken
returns-in-Ok-clause-taken g c = λ sessions.
    let began = c.in-Some.ensures.grammar.found in
    opening_taken c.args.version (tables_of c.in_ok-tables.tables.items) c.in-Ok.schema c.take_tables.new.input.line c.in-Some.began sessions c.in_ok-tables.ensures.gives (sym c.line.ensures ∙ began.0) began.1 c.in-Ok.ensures

pub returns-clause-taken : goal.returns-clause-taken
returns-clause-taken g c = λ sessions.
    opening_stops c.args.version (tables_of c.in_ok-tables.tables.items) c.take_tables.new.input.line sessions c.number-number.result c.in_ok-tables.ensures.gives
    (λ began good fits is. let e : None ≡ Some c.in-Err.field-0.fault = sym good ∙ c.in-Err.ensures.0 in cc e) c.number-number.ensures
