use Rattle.std.proofs.Common.{◌≡◌, true, false, drop, sym, ◌∙◌}
use Rattle.occ_sets.specs.Entries.{observation_lent}
use Rattle.occ_audit.proofs.Common.{AreAnswers, along, next_left, via}
use Rattle.occ_audit.proofs.serial_replay.are_answers.Goals as goal

pub loop-seen-preserved : goal.loop-seen-preserved
loop-seen-preserved g c =
    let next = next_left observation_lent (λ iter. drop iter.place iter.set.now) c.loop-seen.seen-iterator c.next.new.self c.next.result c.in-Some.seen c.in-Some.is c.next.ensures.steps in
    let here = via c.loop-seen.invariant (along (AreAnswers c.args.replica.now) _ _ next) in
    via here (λ h. h.1, λ h. (c.agrees.ensures.0 c.if-not-agrees.false, h))

-- an answer that isn't the state's is among those that are left
pub returns-then-not-agrees : goal.returns-then-not-agrees
returns-then-not-agrees g c =
    let next = next_left observation_lent (λ iter. drop iter.place iter.set.now) c.loop-seen.seen-iterator c.next.new.self c.next.result c.in-Some.seen c.in-Some.is c.next.ensures.steps in
    let here = via c.loop-seen.invariant (along (AreAnswers c.args.replica.now) _ _ next) in
    (λ (e : false ≡ true). absurd cc, λ h. sym c.if-not-agrees.true ∙ c.agrees.ensures.1 (here.0 h).0)
