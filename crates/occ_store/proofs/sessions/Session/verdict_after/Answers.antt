use Rattle.std.proofs.Common.{ap, ◌∙◌, ◌+◌, arith}
use Rattle.occ_store.specs.Sessions.{SessionView}
use Rattle.occ_store.proofs.Waiting.{polls_more, polls_at_last}
use Rattle.occ_store.proofs.sessions.Session.verdict_after.Goals as goal

pub returns-in-Some-clause-same : goal.returns-in-Some-clause-same
returns-in-Some-clause-same g c =
    c.verdict_now.ensures.same ∙ ap (λ (v : SessionView). record v { seat = c.verdict_now.new.self.seat }) c.loop-paused.invariant.0

pub returns-in-Some-clause-polls : goal.returns-in-Some-clause-polls
returns-in-Some-clause-polls g c =
    let below = c.loop-paused-test.true in
    polls_at_last (c.args.patience + 1) c.loop-paused.paused c.args.self.now.seat c.loop-paused.self.seat c.verdict_now.new.self.seat (omega arith) c.loop-paused.invariant.1 c.verdict_now.ensures.polls

pub returns-clause-polls : goal.returns-clause-polls
returns-clause-polls g c =
    let end = c.loop-paused.auto.paused-end in
    polls_at_last (c.args.patience + 1) c.loop-paused.paused c.args.self.now.seat c.loop-paused.self.seat c.verdict_now-2.new.self.seat (omega arith) c.loop-paused.invariant.1 c.verdict_now-2.ensures.polls

pub loop-paused-preserved : goal.loop-paused-preserved
loop-paused-preserved g c = (
  c.verdict_now.ensures.same ∙ ap (λ (v : SessionView). record v { seat = c.verdict_now.new.self.seat }) c.loop-paused.invariant.0,
  polls_more c.args.self.now.seat c.loop-paused.self.seat c.verdict_now.new.self.seat c.loop-paused.paused c.loop-paused.invariant.1 c.verdict_now.ensures.polls,
)
