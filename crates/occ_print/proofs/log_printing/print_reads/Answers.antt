use Rattle.std.proofs.Common.{drop}
use Rattle.occ_sets.specs.Entries.{observation_lent}
use Rattle.occ_print.specs.Books.{read_lines}
use Rattle.occ_print.proofs.Printing.{failed, left_whole, left_fewer, left_front, left_none}
use Rattle.occ_print.proofs.log_printing.print_reads.Goals as goal

pub loop-read-init : goal.loop-read-init
loop-read-init g c = left_whole (read_lines c.args.schema.now) c.args.reads.now (observation_lent {Z = g.row.A.Denot}) (λ iter. drop iter.place iter.set.now) c.into_iter-read-iterator.result _ _ (cc)

pub loop-read-preserved : goal.loop-read-preserved
loop-read-preserved g c =
    left_fewer (read_lines c.args.schema.now) c.args.reads.now observation_lent (λ iter. drop iter.place iter.set.now)
    c.loop-read.read-iterator c.next.new.self c.next.result c.in-Some.read _ _ _ _ _ _ c.in-Some.is c.next.ensures.steps c.loop-read.invariant c.in_ok-print_read.ensures.printed

pub returns-in_err-print_read-clause-printed : goal.returns-in_err-print_read-clause-printed
returns-in_err-print_read-clause-printed g c =
    failed _ c.from_residual.result _ _ _ _ _ c.from_residual.ensures.1
    (left_front (read_lines c.args.schema.now) c.args.reads.now observation_lent (λ iter. drop iter.place iter.set.now)
    c.loop-read.read-iterator c.next.new.self c.next.result c.in-Some.read _ _ _ _ _ _ c.in-Some.is c.next.ensures.steps c.loop-read.invariant c.in_err-print_read.ensures.printed)

pub returns-clause-printed : goal.returns-clause-printed
returns-clause-printed g c =
    left_none (read_lines c.args.schema.now) c.args.reads.now observation_lent (λ iter. drop iter.place iter.set.now)
    c.loop-read.read-iterator c.next.new.self c.next.result _ _ _ _ c.in-None.is c.next.ensures.steps c.loop-read.invariant
