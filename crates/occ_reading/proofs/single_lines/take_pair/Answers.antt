use Rattle.std.proofs.Common.{◌≡◌, true, false, Ok, Err, sym, ◌∙◌}
use Rattle.occ_reading.proofs.Common.{IsAbove, PairFits, last_key, pair_line, pair_of, rows_of}
use Rattle.occ_reading.proofs.SingleLines.{ReadsLine, line_read, told_alone, line_barred, narrowed}
use Rattle.occ_reading.proofs.single_lines.take_pair.Goals as goal

pub returns-in_err-key-clause-taken : goal.returns-in_err-key-clause-taken
returns-in_err-key-clause-taken g c =
    let t = line_read (pair_of {Z = g.row.A.Denot}) pair_line (PairFits c.args.version c.args.schema.now c.args.table) c.read_pair.result (Err c.in_err-key.field-0.0) c.line.result.now _ _ c.number.result _ _
    (record { line = c.take_line.new.self.line; taken = c.in_ok-take_line.ensures.gives; same = c.line.ensures; here = c.number.ensures })
    (record { found = c.read_pair.ensures.found; again = c.read_pair.ensures.again }) c.in_err-key.ensures.exact in
    narrowed (pair_of {Z = g.row.A.Denot}) pair_line (PairFits c.args.version c.args.schema.now c.args.table) (λ pair. IsAbove (last_key (rows_of c.args.rows.now)) pair.0) c.in_err-key.field-0.0
    c.from_residual-in_err-key.result _ _ _ _ c.from_residual-in_err-key.ensures.1 t

pub returns-then-not-is_above-clause-taken : goal.returns-then-not-is_above-clause-taken
returns-then-not-is_above-clause-taken g c =
    let reads : ReadsLine (pair_of {Z = g.row.A.Denot}) pair_line (PairFits c.args.version c.args.schema.now c.args.table) c.line.result.now c.read_pair.result = record { found = c.read_pair.ensures.found; again = c.read_pair.ensures.again } in
    line_barred pair_line (PairFits c.args.version c.args.schema.now c.args.table) (λ pair. IsAbove (last_key (rows_of c.args.rows.now)) pair.0) (pair_of {Z = g.row.A.Denot} (c.in_ok-key.key, c.in_ok-key.row)) c.line.result.now _ _
    c.number-then-not-is_above.result _ _
    (record { line = c.take_line.new.self.line; taken = c.in_ok-take_line.ensures.gives; same = c.line.ensures; here = c.number-then-not-is_above.ensures })
    (told_alone (pair_of {Z = g.row.A.Denot}) pair_line (PairFits c.args.version c.args.schema.now c.args.table) c.line.result.now c.read_pair.result (c.in_ok-key.key, c.in_ok-key.row) reads c.in_ok-key.ensures.taken) (λ above. let e : false ≡ true = sym c.if-not-is_above.true ∙ c.is_above.ensures.1 above in cc e)

pub returns-clause-taken : goal.returns-clause-taken
returns-clause-taken g c =
    let t = line_read (pair_of {Z = g.row.A.Denot}) pair_line (PairFits c.args.version c.args.schema.now c.args.table) c.read_pair.result (Ok (c.in_ok-key.key, c.in_ok-key.row)) c.line.result.now _ _ c.number.result _ _
    (record { line = c.take_line.new.self.line; taken = c.in_ok-take_line.ensures.gives; same = c.line.ensures; here = c.number.ensures })
    (record { found = c.read_pair.ensures.found; again = c.read_pair.ensures.again }) c.in_ok-key.ensures.exact in
    (t.0, (t.1, c.is_above.ensures.0 c.if-not-is_above.false), t.2)
