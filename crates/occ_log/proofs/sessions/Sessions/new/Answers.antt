use Rattle.std.proofs.Common.{◌≡◌, [], ◌∷◌, ◌++◌, None, ap, ◌∙◌, arith}
use Rattle.occ_log.proofs.Common.{idle_slots, map-append, slot_of, slots_of}
use Rattle.occ_log.proofs.Changes.{idle-push}
use Rattle.occ_log.proofs.sessions.Sessions.new.Goals as goal

pub loop-preserved : goal.loop-preserved
loop-preserved g c =
    ap slots_of c.in_ok-push.ensures.items ∙ map-append slot_of _ _
    ∙ ap (λ l. l ++ record { last = 0; hold = None } ∷ []) c.loop.invariant ∙ idle-push _

pub returns : goal.returns
returns g c =
    let all : c.loop.counter ≡ c.args.count = omega arith in
    c.loop.invariant ∙ ap idle_slots all
