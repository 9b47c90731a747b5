use Rattle.occ_client.proofs.StepsFollow.{stops, finishes, one_more, one_left, none_left, can_finish, writes_one_less}
use Rattle.occ_client.proofs.by_steps.write_out.Goals as goal

pub returns-in-Err : goal.returns-in-Err
returns-in-Err g c = c.loop-more.invariant _ _ (stops _ _ _ _ c.in-Err.ensures)

pub finish-requires : goal.finish-requires
finish-requires g c = record { written = can_finish _ _ _ (none_left _ _ _ _ c.if-not-more.true c.in-Ok.ensures) }

pub returns-then-not-more : goal.returns-then-not-more
returns-then-not-more g c = c.loop-more.invariant _ _ (finishes _ _ _ _ _ (none_left _ _ _ _ c.if-not-more.true c.in-Ok.ensures) c.finish.ensures)

pub loop-more-smaller : goal.loop-more-smaller
loop-more-smaller g c =
    let w = one_left _ _ _ _ c.if-not-more.false c.in-Ok.ensures in
    writes_one_less _ _ _ w.0 w.1

pub loop-more-preserved : goal.loop-more-preserved
loop-more-preserved g c =
    let w = one_left _ _ _ _ c.if-not-more.false c.in-Ok.ensures in
    λ reply new rest. c.loop-more.invariant reply new (one_more _ w.0 _ _ w.1 reply new rest)
