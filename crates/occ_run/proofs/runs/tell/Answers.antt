use Rattle.std.proofs.Common.{inl, sym, ◌∙◌, arith}
use Rattle.std.proofs.lemmas.List.{nil_from_length}
use Rattle.std.proofs.KnownBytes.{Appends-nil}
use Rattle.occ_run.proofs.Ending.{nothing_written, refused_ends, cut_ends, names_nobody}
use Rattle.occ_run.proofs.runs.tell.Goals as goal

pub returns-then-are_starved-clause-ends : goal.returns-then-are_starved-clause-ends
returns-then-are_starved-clause-ends g c = inl (nothing_written _)

pub returns-in_err-given_up-clause-ends : goal.returns-in_err-given_up-clause-ends
returns-in_err-given_up-clause-ends g c = refused_ends c.args.book _ g.N.Name.named _ _ _ c.from_residual.result c.from_residual.ensures.1

pub returns-in_err-given_up-clause-order : goal.returns-in_err-given_up-clause-order
returns-in_err-given_up-clause-order g c = names_nobody _ c.args.clients.now c.from_residual.result c.from_residual.ensures.1

pub returns-in_err-holds-clause-ends : goal.returns-in_err-holds-clause-ends
returns-in_err-holds-clause-ends g c = cut_ends c.args.book (g.W.Write.contents c.args.writer.now) (g.W.Write.contents c.report.new.writer) g.N.Name.named g.L.Load.retries g.L.Load.plans c.args.limits c.in_err-holds.field-0.0 c.from_residual-in_err-holds.result c.from_residual-in_err-holds.ensures.1 c.in_err-holds.ensures

pub returns-in_err-holds-clause-order : goal.returns-in_err-holds-clause-order
returns-in_err-holds-clause-order g c = names_nobody _ c.args.clients.now c.from_residual-in_err-holds.result c.from_residual-in_err-holds.ensures.1

pub returns-then-len-gt0-clause-ends : goal.returns-then-len-gt0-clause-ends
returns-then-len-gt0-clause-ends g c =
    let some = c.if-len-gt0.true in
    let len = c.len.ensures in
    let whole = c.in_ok-given_up.given_up.ok.0 in
    (omega arith, Appends-nil _)

pub returns-then-len-gt0-clause-order : goal.returns-then-len-gt0-clause-order
returns-then-len-gt0-clause-order g c = (sym c.are_starved.ensures ∙ c.if-are_starved.false, sym c.in_ok-given_up.ensures)

pub returns-clause-order : goal.returns-clause-order
returns-clause-order g c =
    let none = c.if-len-gt0.false in
    let len = c.len.ensures in
    let whole = c.in_ok-given_up.given_up.ok.0 in
    (sym c.are_starved.ensures ∙ c.if-are_starved.false, sym c.in_ok-given_up.ensures ∙ nil_from_length c.in_ok-given_up.given_up.items (omega arith))
