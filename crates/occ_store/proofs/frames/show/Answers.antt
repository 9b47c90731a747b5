use Rattle.std.proofs.Common.{arith, ap, ◌∙◌}
use Rattle.std.specs.Option.{unwrap_or}
use Rattle.occ_store.proofs.Begun.{store_has, store_rises, store_fits, store_more}
use Rattle.occ_store.proofs.frames.show.Goals as goal

pub resumed-requires-clause-session : goal.resumed-requires-clause-session
resumed-requires-clause-session g c =
    let below = c.loop-place-test.true in
    let count = c.sessions-place-end.ensures in
    store_has c.args.core.now.world _ c.args.publisher.now c.loop-place.place _ _ c.requires.begun c.base-base.ensures.base c.loop-place.invariant (omega arith)
    (c.unwrap_or.ensures ∙ ap (λ o. unwrap_or o 0) c.last.ensures)

pub resumed-requires-clause-number : goal.resumed-requires-clause-number
resumed-requires-clause-number g c =
    let below = c.loop-place-test.true in
    let count = c.sessions-place-end.ensures in
    let at = c.unwrap_or.ensures ∙ ap (λ o. unwrap_or o 0) c.last.ensures in (
      store_rises c.args.core.now.world _ c.args.publisher.now c.loop-place.place _ _ c.requires.begun c.base-base.ensures.base c.loop-place.invariant (omega arith) at,
      store_fits c.args.core.now.world _ c.args.publisher.now c.loop-place.place _ _ c.requires.begun c.base-base.ensures.base c.loop-place.invariant (omega arith) at c.law.ensures.numbers,
    )

pub loop-place-preserved : goal.loop-place-preserved
loop-place-preserved g c =
    let below = c.loop-place-test.true in
    let count = c.sessions-place-end.ensures in
    store_more c.args.core.now.world _ c.args.publisher.now c.loop-place.place _ _ c.requires.begun c.base-base.ensures.base c.loop-place.invariant (omega arith)
    (c.unwrap_or.ensures ∙ ap (λ o. unwrap_or o 0) c.last.ensures) _ c.resumed.ensures
