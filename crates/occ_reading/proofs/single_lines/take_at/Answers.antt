use Rattle.std.proofs.Common.{◌≡◌, true, option_map, ◌∙◌, Err, sym, ap}
use Rattle.occ_reading.proofs.Common.{AtFits, at_of, entry_line, is_behind, object_of}
use Rattle.occ_reading.proofs.SingleLines.{ReadsLine, line_read, told_alone, line_barred, narrowed}
use Rattle.occ_reading.proofs.single_lines.take_at.Goals as goal

pub returns-in_err-object-clause-taken : goal.returns-in_err-object-clause-taken
returns-in_err-object-clause-taken g c =
    let t = line_read (at_of {Z = g.row.A.Denot}) (entry_line c.args.section c.args.schema.now) (AtFits c.args.version c.args.schema.now) c.read_at.result (Err c.in_err-object.field-0.0) c.line.result.now _ _ c.number.result _ _
    (record { line = c.take_line.new.self.line; taken = c.in_ok-take_line.ensures.gives; same = c.line.ensures; here = c.number.ensures })
    (record { found = c.read_at.ensures.found; again = c.read_at.ensures.again }) c.in_err-object.ensures.exact in
    narrowed (at_of {Z = g.row.A.Denot}) (entry_line c.args.section c.args.schema.now) (AtFits c.args.version c.args.schema.now) (λ entry. is_behind (option_map object_of c.args.last.now) entry.0 ≡ true)
    c.in_err-object.field-0.0 c.from_residual-in_err-object.result _ _ _ _ c.from_residual-in_err-object.ensures.1 t

pub returns-then-not-is_behind-clause-taken : goal.returns-then-not-is_behind-clause-taken
returns-then-not-is_behind-clause-taken g c =
    let reads : ReadsLine (at_of {Z = g.row.A.Denot}) (entry_line c.args.section c.args.schema.now) (AtFits c.args.version c.args.schema.now) c.line.result.now c.read_at.result = record { found = c.read_at.ensures.found; again = c.read_at.ensures.again } in
    line_barred (entry_line c.args.section c.args.schema.now) (AtFits c.args.version c.args.schema.now) (λ entry. is_behind (option_map object_of c.args.last.now) entry.0 ≡ true) (at_of {Z = g.row.A.Denot} (c.in_ok-object.object, c.in_ok-object.row)) c.line.result.now _ _
    c.number-then-not-is_behind.result _ _
    (record { line = c.take_line.new.self.line; taken = c.in_ok-take_line.ensures.gives; same = c.line.ensures; here = c.number-then-not-is_behind.ensures })
    (told_alone (at_of {Z = g.row.A.Denot}) (entry_line c.args.section c.args.schema.now) (AtFits c.args.version c.args.schema.now) c.line.result.now c.read_at.result (c.in_ok-object.object, c.in_ok-object.row) reads c.in_ok-object.ensures.taken) (λ yes. let e = sym yes ∙ ap (λ last. is_behind (option_map object_of last) (object_of c.in_ok-object.object)) (sym c.as_ref.ensures.value) ∙ sym c.is_behind.ensures ∙ c.if-not-is_behind.true in absurd cc)
