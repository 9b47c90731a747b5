use Rattle.occ_reading.proofs.Common.{books, failed, fails, frame_of, next_fails, next_taken, read_fault}
use Rattle.occ_reading.specs.Places.{State}
use Rattle.occ_reading.proofs.Sections.{state_taken}
use Rattle.occ_reading.proofs.whole_books.take_state.Goals as goal

pub returns-clause-taken : goal.returns-clause-taken
returns-clause-taken g c = λ sessions.
    let first = next_taken books (State (frame_of c.args.version c.args.schema.now sessions)) c.in_ok-count.count c.in_ok-count.ensures.gives in
    state_taken c.args.version c.args.schema.now c.in_ok-count.count c.in_ok-tables.tables.state first (c.in_ok-tables.ensures.taken sessions)

pub returns-in_err-count-clause-taken : goal.returns-in_err-count-clause-taken
returns-in_err-count-clause-taken g c = λ sessions.
    let fault = read_fault c.in_err-count.field-0.0 in
    failed books fault c.from_residual.result _ _ _ _ _ _ c.from_residual.ensures.1 (next_fails books (State (frame_of c.args.version c.args.schema.now sessions)) fault _ _ _ (λ may. may) c.in_err-count.ensures.gives)

pub returns-in_err-tables-clause-taken : goal.returns-in_err-tables-clause-taken
returns-in_err-tables-clause-taken g c = λ sessions.
    let first = next_taken books (State (frame_of c.args.version c.args.schema.now sessions)) c.in_ok-count.count c.in_ok-count.ensures.gives in
    failed books c.in_err-tables.field-0.0 c.from_residual-in_err-tables.result _ _ _ _ _ _ c.from_residual-in_err-tables.ensures.1 (fails c.in_err-tables.field-0.0 _ first.0 (c.in_err-tables.ensures.taken sessions))
