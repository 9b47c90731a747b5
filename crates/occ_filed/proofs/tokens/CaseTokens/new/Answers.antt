use Rattle.std.proofs.Common.{◌+◌, None, get_or, length, ap, ◌∙◌, length-append}
use Rattle.occ_filed.proofs.KeptTokens.{none_pushed, all_none}
use Rattle.occ_filed.proofs.tokens.CaseTokens.new.Goals as goal

pub loop-preserved : goal.loop-preserved
loop-preserved g c = (
  ap length c.in_ok-push.ensures.items ∙ length-append _ _ ∙ ap (λ n. n + 1) c.loop.invariant.0,
  λ place. ap (λ l. get_or l place None) c.in_ok-push.ensures.items ∙ none_pushed _ c.loop.invariant.1 place,
)

pub returns-clause-none : goal.returns-clause-none
returns-clause-none g c = all_none _ c.loop.invariant.1
