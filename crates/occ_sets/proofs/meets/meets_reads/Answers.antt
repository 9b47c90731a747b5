use Rattle.std.proofs.Common.{◌∙◌, sym, arith}
use Rattle.occ_sets.proofs.Meetings.{met_here, met_later, met_none}
use Rattle.occ_sets.proofs.meets.meets_reads.Goals as goal

-- a question that is met answers for all
pub returns-then-meets_read : goal.returns-then-meets_read
returns-then-meets_read g c =
    sym (met_here c.args.writes.now c.args.reads.now c.loop-place.place c.meets_read.result (omega (arith, c.loop-place-test.true, c.len-place-end.ensures.value)) c.meets_read.ensures c.if-meets_read.true) ∙ c.loop-place.invariant

-- and another one leaves the others
pub loop-place-preserved : goal.loop-place-preserved
loop-place-preserved g c =
    met_later c.args.writes.now c.args.reads.now c.loop-place.place c.meets_read.result (omega (arith, c.loop-place-test.true, c.len-place-end.ensures.value)) c.meets_read.ensures c.if-meets_read.false ∙ c.loop-place.invariant

pub returns : goal.returns
returns g c = sym (met_none c.args.writes.now c.args.reads.now c.loop-place.place (omega (arith, c.loop-place-test.false, c.len-place-end.ensures.value))) ∙ c.loop-place.invariant
