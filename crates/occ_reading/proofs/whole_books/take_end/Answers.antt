use Rattle.std.proofs.Common.{◌∙◌, None, sym}
use Rattle.occ_reading.proofs.Common.{Audit, End, Malformed, books, fails, line_refused, none}
use Rattle.occ_reading.proofs.PartPlaces.{ended_here, next_failed, audit_taken, no_audit}
use Rattle.occ_reading.proofs.whole_books.take_end.Goals as goal

pub returns-in-End-clause-taken : goal.returns-in-End-clause-taken
returns-in-End-clause-taken g c =
    let e = rw c.in-End.is at c.in_ok-next_line.ensures.gives in
    ended_here {from = Audit} none tt e.0

pub returns-in-End-2-clause-taken : goal.returns-in-End-2-clause-taken
returns-in-End-2-clause-taken g c =
    let l = rw c.in-Line.is at c.in_ok-next_line.ensures.gives in
    let e = rw c.in-End-2.is at c.in_ok-next_line-2.ensures.gives in
    ended_here (audit_taken c.line.result.now _ l.0 l.2 c.line.ensures (sym c.is_audit.ensures ∙ c.if-not-is_audit.false)) tt e.0

pub returns-in_err-next_line-clause-taken : goal.returns-in_err-next_line-clause-taken
returns-in_err-next_line-clause-taken g c = next_failed c.in_err-next_line.field-0.0 c.from_residual.result _ c.args.input.now _ c.from_residual.ensures.1 none c.in_err-next_line.ensures.gives

pub returns-then-not-is_audit-clause-taken : goal.returns-then-not-is_audit-clause-taken
returns-then-not-is_audit-clause-taken g c =
    let l = rw c.in-Line.is at c.in_ok-next_line.ensures.gives in
    no_audit c.line.result.now _ _ _ _ _ c.number.result l.0 l.1 l.2 c.line.ensures (sym c.is_audit.ensures ∙ c.if-not-is_audit.true) c.number.ensures

pub returns-in_err-next_line-2-clause-taken : goal.returns-in_err-next_line-2-clause-taken
returns-in_err-next_line-2-clause-taken g c =
    let l = rw c.in-Line.is at c.in_ok-next_line.ensures.gives in
    next_failed c.in_err-next_line-2.field-0.0 c.from_residual-in_err-next_line-2.result _ c.next_line.new.self _ c.from_residual-in_err-next_line-2.ensures.1
    (audit_taken c.line.result.now _ l.0 l.2 c.line.ensures (sym c.is_audit.ensures ∙ c.if-not-is_audit.false)) c.in_err-next_line-2.ensures.gives

pub returns-in-Line-2-clause-taken : goal.returns-in-Line-2-clause-taken
returns-in-Line-2-clause-taken g c =
    let l = rw c.in-Line.is at c.in_ok-next_line.ensures.gives in
    let m = rw c.in-Line-2.is at c.in_ok-next_line-2.ensures.gives in
    fails (Malformed c.number-in-Line-2.result) None (audit_taken c.line.result.now _ l.0 l.2 c.line.ensures (sym c.is_audit.ensures ∙ c.if-not-is_audit.false))
    (line_refused books End _ _ _ _ _ c.number-in-Line-2.result (m.0, m.2, m.1) (λ leads. leads.1.0) c.number-in-Line-2.ensures)
