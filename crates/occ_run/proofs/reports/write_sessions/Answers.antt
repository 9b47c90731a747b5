use Rattle.std.proofs.Common.{◌≡◌, ◌+◌, ℕ, Ok, take, ap, sym, arith}
use Rattle.std.proofs.lemmas.List.{take_all}
use Rattle.std.proofs.lemmas.Grind.{get_or_default_zero}
use Rattle.occ_sets.specs.LogRows.{log_of}
use Rattle.occ_print.proofs.Printing.{failed, lines_same}
use Rattle.occ_run.specs.Reports.{sessions_lines}
use Rattle.occ_run.proofs.Reporting.{session_more, session_front}
use Rattle.occ_run.proofs.reports.write_sessions.Goals as goal

pub returns-in_err-write_session-clause-printed : goal.returns-in_err-write_session-clause-printed
returns-in_err-write_session-clause-printed g c = λ opened.
    let log = log_of opened c.args.book.now.log.now in
    let marks = c.args.book.now.marks.now.marks in
    failed _ c.from_residual.result _ _ _ _ _ c.from_residual.ensures.1
    (session_front log marks _ _ _ _ _ _ c.args.refused.now c.loop-count.count-index _ c.loop-count.session c.loop-count-test.true (sym (get_or_default_zero _ _ _ c.loop-count-test.true)) c.loop-count.invariant.session (c.loop-count.invariant.pushed opened) (c.in_err-write_session.ensures.printed opened))

pub loop-count-preserved : goal.loop-count-preserved
loop-count-preserved g c = record {
  session = ap (λ (n : ℕ). n + 1) c.loop-count.invariant.session;
  pushed = λ opened.
      let log = log_of opened c.args.book.now.log.now in
      let marks = c.args.book.now.marks.now.marks in
      session_more log marks _ _ _ _ _ _ c.args.refused.now c.loop-count.count-index _ c.loop-count.session c.loop-count-test.true (sym (get_or_default_zero _ _ _ c.loop-count-test.true)) c.loop-count.invariant.session (c.loop-count.invariant.pushed opened) (c.in_ok-write_session.ensures.printed opened);
}

pub returns-clause-printed : goal.returns-clause-printed
returns-clause-printed g c = λ opened.
    let refused = c.args.refused.now in
    let past = c.loop-count-test.false in
    let all : take c.loop-count.count-index refused ≡ refused = take_all c.loop-count.count-index refused (omega arith) in
    lines_same (Ok tt) _ _ _ _ _ _ (ap (sessions_lines (log_of opened c.args.book.now.log.now) c.args.book.now.marks.now.marks 1) all) (c.loop-count.invariant.pushed opened)
