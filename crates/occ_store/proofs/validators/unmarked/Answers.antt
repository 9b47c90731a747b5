use Rattle.std.proofs.Common.{◌+◌, false, get_or, length, ap, ◌∙◌, length-append}
use Rattle.occ_store.proofs.Rounds.{unmarked_more}
use Rattle.occ_store.proofs.validators.unmarked.Goals as goal

pub loop-preserved : goal.loop-preserved
loop-preserved g c = (
  ap length c.in_ok-push.ensures.items ∙ length-append _ _ ∙ ap (λ n. n + 1) c.loop.invariant.0,
  λ place. ap (λ l. get_or l place false) c.in_ok-push.ensures.items ∙ unmarked_more _ c.loop.invariant.1 place,
)
