use Rattle.std.proofs.Common.{ap, length, ◌∙◌, arith}
use Rattle.std.proofs.lemmas.List.{take_all}
use Rattle.occ_sets.specs.LogRows.{log_row_of, log_of}
use Rattle.occ_run.specs.Reports.{rows_of}
use Rattle.occ_run.proofs.Reporting.{rows_more}
use Rattle.occ_run.proofs.reports.rows_of.Goals as goal

pub loop-row-preserved : goal.loop-row-preserved
loop-row-preserved g c =
    let before = c.loop-row.invariant.few in
    let one = c.counted-rows.ensures.few in
    record {
      counted = λ opened. rows_more (log_row_of opened) c.args.session c.args.log.now c.loop-row.row-index c.row-item.result c.loop-row.rows c.counted-rows.result c.loop-row-test.true c.row-item.is (c.loop-row.invariant.counted opened) (c.counted-rows.ensures.counted opened);
      few = omega arith;
    }

pub returns : goal.returns
returns g c = λ opened.
    let log = c.args.log.now in
    let past = c.loop-row-test.false in
    c.loop-row.invariant.counted opened ∙ ap (λ rows. length (rows_of c.args.session (log_of opened rows))) (take_all c.loop-row.row-index log (omega arith))
